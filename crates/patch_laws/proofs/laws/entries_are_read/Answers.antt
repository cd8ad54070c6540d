use Rattle.patch_laws.proofs.EntrySites.{block-entries, list-entries, prefix-entries, entries-renumbered}
use Rattle.patch_laws.proofs.RenumberedPrefixes.{prefixes-renumbered, numbers-are-words}
use Rattle.patch_laws.proofs.laws.entries_are_read.Goals as goal

pub returns-clause-block : goal.returns-clause-block
returns-clause-block c = block-entries

pub returns-clause-list : goal.returns-clause-list
returns-clause-list c = list-entries

pub returns-clause-prefix : goal.returns-clause-prefix
returns-clause-prefix c = prefix-entries

pub returns-clause-renumbered : goal.returns-clause-renumbered
returns-clause-renumbered c = entries-renumbered

pub returns-clause-sequence : goal.returns-clause-sequence
returns-clause-sequence c = prefixes-renumbered

pub returns-clause-number : goal.returns-clause-number
returns-clause-number c = numbers-are-words

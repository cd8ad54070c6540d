use Rattle.ios_words.proofs.RenumberedLines.{entries-renumbered, prefix-lines-renumbered}
use Rattle.ios_words.proofs.Sequences.{numbered-sequence}
use Rattle.ios_words.proofs.laws.entries_may_be_renumbered.Goals as goal

pub returns-clause-packet : goal.returns-clause-packet
returns-clause-packet c = entries-renumbered

pub returns-clause-route : goal.returns-clause-route
returns-clause-route c = prefix-lines-renumbered

pub returns-clause-sequence : goal.returns-clause-sequence
returns-clause-sequence c = numbered-sequence

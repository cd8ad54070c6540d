use Rattle.ios_words.proofs.WritableReads.{entries-writable}
use Rattle.ios_words.proofs.laws.entries_are_writable.Goals as goal

pub returns : goal.returns
returns c = entries-writable

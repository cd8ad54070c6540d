use Rattle.std.proofs.Common.{◌≡◌, drop}
use Rattle.ios_words.specs.declared.names.Before.TheVariants.{Start}
use Rattle.ios_words.specs.Units.{complete}
use Rattle.ios_words.proofs.names.is_unit.Given as goal

abbrev pub invariant-loop-byte : goal.invariant-loop-byte
invariant-loop-byte l = complete Start l.fn.text ≡ complete l.before (drop l.byte-index l.text)

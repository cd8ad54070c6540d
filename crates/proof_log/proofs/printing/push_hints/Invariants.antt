use Rattle.std.proofs.Common.{◌≡◌, ◌++◌, map, take, string_bytes}
use Rattle.std.specs.Fmt.{signed_decimal}
use Rattle.proof_log.specs.Texts.{before_spaces}
use Rattle.proof_log.proofs.printing.push_hints.Given as goal

abbrev pub invariant-loop-hint : goal.invariant-loop-hint
invariant-loop-hint l = string_bytes l.text ≡ string_bytes l.fn.text ++ before_spaces (map signed_decimal (take l.hint-index l.hints))

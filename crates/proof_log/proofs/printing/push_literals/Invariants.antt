use Rattle.std.proofs.Common.{◌≡◌, ◌++◌, map, take, string_bytes}
use Rattle.proof_log.specs.Texts.{literal_text, before_spaces}
use Rattle.proof_log.proofs.printing.push_literals.Given as goal

abbrev pub invariant-loop-lit : goal.invariant-loop-lit
invariant-loop-lit l = string_bytes l.text ≡ string_bytes l.fn.text ++ before_spaces (map literal_text (take l.lit-index l.lits))

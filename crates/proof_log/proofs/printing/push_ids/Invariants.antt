use Rattle.std.proofs.Common.{◌≡◌, ◌++◌, map, take, string_bytes, decimal}
use Rattle.proof_log.specs.Texts.{before_spaces}
use Rattle.proof_log.proofs.printing.push_ids.Given as goal

abbrev pub invariant-loop-id : goal.invariant-loop-id
invariant-loop-id l = string_bytes l.text ≡ string_bytes l.fn.text ++ before_spaces (map decimal (take l.id-index l.ids))

use Rattle.std.proofs.Common.{◌≡◌, ◌++◌, drop, string_bytes}
use Rattle.proof_log.specs.Texts.{steps_text}
use Rattle.proof_log.proofs.printing.text.Given as goal

abbrev pub invariant-loop-step : goal.invariant-loop-step
invariant-loop-step l = string_bytes l.text ++ steps_text l.last (drop l.step-index l.step-items) ≡ steps_text 0 l.step-items

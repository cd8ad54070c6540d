use Rattle.std.proofs.Common.{◌≡◌, take}
use Rattle.condition_formula.proofs.formula.model_edits.Given as goal

abbrev pub invariant-loop-value : goal.invariant-loop-value
invariant-loop-value l = l.flags ≡ take l.value-index l.value-items

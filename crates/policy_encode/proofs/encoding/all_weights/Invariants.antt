use Rattle.std.proofs.Common.{◌≡◌, take, map}
use Rattle.edit_list.specs.Prices.{weight}
use Rattle.policy_encode.proofs.encoding.all_weights.Given as goal

abbrev pub invariant-loop-edit : goal.invariant-loop-edit
invariant-loop-edit l = l.weights ≡ map (weight l.doc.weights) (take l.edit-index l.edit-items)

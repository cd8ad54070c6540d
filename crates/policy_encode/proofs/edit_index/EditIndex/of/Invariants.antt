use Rattle.std.proofs.Common.{◌≡◌, take, map}
use Rattle.policy_encode.specs.Turning.{key_of}
use Rattle.policy_encode.proofs.edit_index.EditIndex.of.Given as goal

abbrev pub invariant-loop-edit : goal.invariant-loop-edit
invariant-loop-edit l = l.keys.keys ≡ map key_of (take l.edit-index l.edits)

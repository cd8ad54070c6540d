use Rattle.std.proofs.Common.{◌≤◌, take, length}
use Rattle.edit_list.specs.EditLists.{AreDestinations}
use Rattle.edit_list.proofs.destinations.destinations.Given as goal

abbrev pub invariant-loop-policy : goal.invariant-loop-policy
invariant-loop-policy l = record {
  are : AreDestinations l.net (take l.policy-index l.policy-items) l.list.items;
  few : length l.list.items ≤ l.policy-index;
}

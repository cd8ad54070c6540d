use Rattle.std.specs.Prelude.{◌≤◌, length, IfSome}
use Rattle.class_graph.specs.LastGraphs.{IsGraphOfTable}
use Rattle.reach_commands.proofs.RecheckedEach.{AreRecheckedBelow}
use Rattle.reach_commands.proofs.rechecked.recheck_all.Given as goal

abbrev pub invariant-loop-policy : goal.invariant-loop-policy
invariant-loop-policy g l = record {
  within : l.policy-index ≤ length l.input.doc.policies;
  below : AreRecheckedBelow l.input.net l.input.doc.policies l.held l.policy-index l.rechecked;
  last : IfSome l.last (IsGraphOfTable l.input.net);
}

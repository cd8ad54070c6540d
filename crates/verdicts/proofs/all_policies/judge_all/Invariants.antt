use Rattle.std.proofs.Common.{◌≡◌, length, take}
use Rattle.std.specs.Prelude.{IfSome}
use Rattle.std.specs.List.{AllZip}
use Rattle.net_model.specs.Witnesses.{IsRight}
use Rattle.verdicts.specs.Fixed.{IsFixed}
use Rattle.class_graph.specs.LastGraphs.{IsGraphOfTable}
use Rattle.verdicts.proofs.all_policies.judge_all.Given as goal

abbrev pub invariant-loop-policy : goal.invariant-loop-policy
invariant-loop-policy g l = record {
  right : AllZip (IsRight l.net) (take l.policy-index l.policies) l.verdicts;
  fixed : AllZip (IsFixed l.net l.policies) (take l.policy-index l.policies) l.verdicts;
  count : length l.verdicts ≡ l.policy-index;
  last : IfSome l.last (IsGraphOfTable l.net);
}

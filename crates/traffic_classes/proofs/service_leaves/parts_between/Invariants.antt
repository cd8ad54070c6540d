use Rattle.std.proofs.Common.{◌++◌, List, drop}
use Rattle.net_model.specs.declared.services.Service.{Service}
use Rattle.traffic_classes.specs.ServiceParts.{RiseBetween, ArePartsBetween}
use Rattle.traffic_classes.proofs.service_leaves.parts_between.Given as goal

abbrev pub invariant-loop-cut : goal.invariant-loop-cut
invariant-loop-cut l = record {
  rise : RiseBetween l.low (drop l.cut-index l.cuts) l.whole.high;
  with_rest : (rest : List Service) → ArePartsBetween l.low (drop l.cut-index l.cuts) l.whole.high rest →
      ArePartsBetween l.whole.low l.cuts l.whole.high (l.parts.items ++ rest);
}

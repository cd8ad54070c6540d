use Rattle.std.proofs.Common.{◌≡◌, length, take}
use Rattle.std.specs.Prelude.{IfSome}
use Rattle.std.specs.List.{AllZip}
use Rattle.class_graph.specs.LastGraphs.{IsGraphOfTable}
use Rattle.arc_recheck.specs.Singles.{IsAloneAnswer}
use Rattle.reach_commands.proofs.rechecked.alone_all.Given as goal

abbrev pub invariant-loop-which : goal.invariant-loop-which
invariant-loop-which l = record {
  answered : AllZip (IsAloneAnswer l.input.net) (take l.which l.input.doc.policies) l.found;
  count : length l.found ≡ l.which;
  last : IfSome l.last (IsGraphOfTable l.input.net);
}

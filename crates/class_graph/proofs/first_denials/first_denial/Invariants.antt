use Rattle.class_graph.specs.FirstDenials.{IsFirstDenial}
use Rattle.class_graph.proofs.first_denials.first_denial.Given as goal

abbrev pub invariant-loop-class : goal.invariant-loop-class
invariant-loop-class l = IsFirstDenial l.net l.pair.to l.class-items l.class-index l.best

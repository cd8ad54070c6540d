use Rattle.std.proofs.Common.{refl, sym, ◌∙◌}
use Rattle.std.proofs.lemmas.Bool.{false≢true}
use Rattle.witness_check.specs.Cases.{arc_of}
use Rattle.witness_check.proofs.RoutedArcs.{routed_of, each_over_one, over_unrouted}
use Rattle.witness_check.proofs.cases.Case.routed_in.Goals as goal

pub returns-then-not-test-clause-none : goal.returns-then-not-test-clause-none
returns-then-not-test-clause-none g c =
    each_over_one c.args.self.now.net.now c.args.self.now.to _ c.args.link.0 c.args.from_a (arc_of c.in_ok-arc.arc) c.in_ok-arc.ensures.found c.in_ok-arc.ensures.over
    (c.in_ok-arc.arc, refl, c.if-not-test.ensures)

pub returns-then-routed_if_told-clause-routed : goal.returns-then-routed_if_told-clause-routed
returns-then-routed_if_told-clause-routed g c =
    routed_of c.args.self.now.net.now c.args.self.now.to c.args.link.0 c.args.from_a (arc_of c.in_ok-arc.arc) c.in_ok-arc.ensures.found c.in_ok-arc.ensures.over
    (c.routed_if_told.ensures.0 c.if-routed_if_told.true)

pub returns-else-routed_if_told-clause-none : goal.returns-else-routed_if_told-clause-none
returns-else-routed_if_told-clause-none g c =
    over_unrouted c.args.self.now.net.now c.args.self.now.to _ c.args.link.0 c.args.from_a
    (λ found. false≢true (sym c.if-routed_if_told.false ∙ c.routed_if_told.ensures.1 found))

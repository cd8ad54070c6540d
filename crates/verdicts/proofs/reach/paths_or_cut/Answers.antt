use Rattle.std.proofs.Common.{◌≡◌, ◌+◌, ◌<◌, length, ap, sym, subst}
use Rattle.arc_base.specs.declared.prefix.Prefix.{Prefix}
use Rattle.graph_flow.specs.Answers.{IfPaths, IfCut, AreInLinkOrder}
use Rattle.graph_flow.specs.declared.answer.FlowAnswer.{FlowAnswer}
use Rattle.graph_flow.specs.Flows.{flagged}
use Rattle.graph_flow.specs.Paths.{AreDisjointPaths}
use Rattle.graph_flow.specs.Sides.{IsLeastSide}
use Rattle.class_graph.specs.declared.hosts.End.{End}
use Rattle.class_graph.specs.Graphs.{IsGraphOf, IsAnyArc}
use Rattle.verdicts.specs.Reaching.{AreGoodPaths}
use Rattle.verdicts.proofs.Cuts.{good_paths, good_cut}
use Rattle.verdicts.proofs.Reached.{pair_source, pair_target}
use Rattle.verdicts.proofs.reach.paths_or_cut.Goals as goal

pub disjoint-requires-clause-source : goal.disjoint-requires-clause-source
disjoint-requires-clause-source c =
    pair_source c.args.net.now c.requires.valid c.requires.pair.0 c.args.pair.now c.requires.pair.1 c.args.graph.now c.requires.graph.nodes

pub disjoint-requires-clause-target : goal.disjoint-requires-clause-target
disjoint-requires-clause-target c =
    pair_target c.args.net.now c.requires.valid c.requires.pair.0 c.args.pair.now c.requires.pair.1 c.args.graph.now c.requires.graph.nodes

pub returns-in_ok-paths-in-Paths : goal.returns-in_ok-paths-in-Paths
returns-in_ok-paths-in-Paths c = λ ends is.
    subst (AreGoodPaths c.args.net.now ends (c.args.failures + 1)) (sym c.in_ok-paths-in-Paths.ensures)
    (good_paths c.args.net.now ends c.args.graph.now (subst (λ (to : Prefix). IsGraphOf c.args.net.now to IsAnyArc c.args.graph.now) is.to c.requires.graph)
    c.args.pair.now.source.router.0 c.args.pair.now.target.router.0 (c.args.failures + 1)
    (ap (λ (e : End). e.router.0) is.source) (ap (λ (e : End). e.router.0) is.target) c.in-Paths.rows
    (subst (λ (a : FlowAnswer). IfPaths a (AreDisjointPaths c.args.graph.now.arcs c.args.pair.now.source.router.0 c.args.pair.now.target.router.0 (c.args.failures + 1))) c.in-Paths.is
    c.in_ok-answer.ensures.paths)
    (subst (λ (a : FlowAnswer). IfPaths a AreInLinkOrder) c.in-Paths.is c.in_ok-answer.ensures.order))

pub returns-in-Cut : goal.returns-in-Cut
returns-in-Cut c = λ ends is.
    good_cut c.args.net.now ends c.args.graph.now (subst (λ (to : Prefix). IsGraphOf c.args.net.now to IsAnyArc c.args.graph.now) is.to c.requires.graph)
    c.args.pair.now.source.router.0 c.args.pair.now.target.router.0 c.args.failures
    (ap (λ (e : End). e.router.0) is.source) (ap (λ (e : End). e.router.0) is.target) c.in-Cut.links c.in-Cut.side
    (subst (λ (a : FlowAnswer). IfCut a (λ links side. IsLeastSide c.args.graph.now.arcs c.args.pair.now.source.router.0 c.args.pair.now.target.router.0 (flagged side) links))
    c.in-Cut.is c.in_ok-answer.ensures.cut)
    (subst (λ (a : FlowAnswer). IfCut a (λ links side. length links < c.args.failures + 1)) c.in-Cut.is c.in_ok-answer.ensures.fewer)
    (subst (λ (a : FlowAnswer). IfCut a (λ links side. length side ≡ c.args.graph.now.nodes)) c.in-Cut.is c.in_ok-answer.ensures.flags)

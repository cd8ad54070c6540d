use Rattle.std.proofs.Common.{◌≡◌, ◌<◌, ◌^◌, List, All, length, sym, ap, ◌∙◌, subst, arith}
use Rattle.std.proofs.lemmas.List.Elements.{All-contains}
use Rattle.arc_base.specs.declared.place.Link.{Link}
use Rattle.graph_flow.specs.declared.arcs.Arc.{Arc}
use Rattle.graph_flow.specs.declared.search.Mark.{Mark}
use Rattle.graph_flow.specs.Paths.{Joins, links_of}
use Rattle.graph_flow.specs.Flows.{Units}
use Rattle.graph_flow.specs.Marks.{AreSteps, depth_of, mark_at, way_to}
use Rattle.graph_flow.specs.Residual.{cleared, TakesPath}
use Rattle.graph_flow.proofs.Extracts.{takes, path-places}
use Rattle.graph_flow.proofs.UnitArcs.{found-units}
use Rattle.graph_flow.proofs.units.take_path.Goals as goal

pub seek-requires-clause-from : goal.seek-requires-clause-from
seek-requires-clause-from c =
    let joins : Joins c.args.g.now.nodes c.args.first =
    All-contains (Joins c.args.g.now.nodes) c.args.g.now.arcs c.args.first c.nodes.ensures.graph.joined (c.requires.flow.is_arc c.args.first.link.0 c.args.first c.requires.first) in
    joins.tail_node

pub arcs_back-requires-clause-node : goal.arcs_back-requires-clause-node
arcs_back-requires-clause-node c = omega (arith, c.deref.ensures.len, c.seek.ensures.marks, c.requires.marks, c.requires.target)

pub arcs_back-requires-clause-steps : goal.arcs_back-requires-clause-steps
arcs_back-requires-clause-steps c = subst (λ (marks : List Mark). AreSteps marks) (sym c.deref.ensures.value) c.seek.ensures.marked.steps

pub arcs_back-requires-clause-shallow : goal.arcs_back-requires-clause-shallow
arcs_back-requires-clause-shallow c =
    let low = c.seek.ensures.marked.shallow c.args.t in
    subst (λ (marks : List Mark). depth_of (mark_at marks c.args.t) < 2 ^ 32) (sym c.deref.ensures.value)
    (omega (arith, low, c.seek.ensures.marks, c.requires.marks, c.nodes.ensures.number))

pub clear-requires : goal.clear-requires
clear-requires c =
    let links_are : c.in_ok-path.path.links ≡ links_of (way_to c.seek.new.self.marks.items c.args.t) =
    c.in_ok-path.ensures ∙ ap (λ (arcs : List Arc). links_of arcs) c.in_ok-back.ensures.arcs ∙ ap (λ (marks : List Mark). links_of (way_to marks c.args.t)) c.deref.ensures.value in
    let path = found-units c.args.g.now c.args.units.now c.args.first c.args.t c.seek.new.self.marks.items c.in_ok-path.path.links c.nodes.ensures.graph c.requires.target
    c.requires.flow c.requires.first c.seek.ensures.marked c.seek.ensures.spread links_are in
    subst (λ (ks : List Link). All (λ (k : Link). k.0 < length c.args.units.now) ks) (sym c.slice.ensures.items)
    (path-places c.args.units.now c.args.first c.args.first.tail c.args.t c.in_ok-path.path.links c.requires.flow.of_link path)

pub returns-clause-path : goal.returns-clause-path
returns-clause-path c =
    let links_are : c.in_ok-path.path.links ≡ links_of (way_to c.seek.new.self.marks.items c.args.t) =
    c.in_ok-path.ensures ∙ ap (λ (arcs : List Arc). links_of arcs) c.in_ok-back.ensures.arcs ∙ ap (λ (marks : List Mark). links_of (way_to marks c.args.t)) c.deref.ensures.value in
    let path = found-units c.args.g.now c.args.units.now c.args.first c.args.t c.seek.new.self.marks.items c.in_ok-path.path.links c.nodes.ensures.graph c.requires.target
    c.requires.flow c.requires.first c.seek.ensures.marked c.seek.ensures.spread links_are in
    let new = c.clear.ensures ∙ ap (λ (ks : List Link). cleared c.args.units.now ks) c.slice.ensures.items in
    subst (λ (rest : Units). TakesPath c.args.g.now.arcs c.args.first c.args.t c.args.units.now c.in_ok-path.path.links rest) (sym new)
    (takes c.args.g.now c.args.units.now c.args.first c.args.t c.in_ok-path.path.links c.nodes.ensures.graph c.requires.apart c.requires.flow c.requires.first path)

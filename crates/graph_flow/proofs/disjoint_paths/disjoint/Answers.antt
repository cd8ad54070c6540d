use Rattle.std.proofs.Common.{Bool, List, sym, ap, ◌∙◌, subst, arith}
use Rattle.arc_base.specs.declared.place.Link.{Link}
use Rattle.graph_flow.specs.Sides.{IsLeastSide}
use Rattle.graph_flow.specs.Flows.{Units, flagged, links_out}
use Rattle.graph_flow.proofs.Menger.{not_both}
use Rattle.graph_flow.proofs.disjoint_paths.disjoint.Goals as goal

pub returns-clause-cut : goal.returns-clause-cut
returns-clause-cut c =
    let units_are = c.deref.ensures.value ∙ c.into_units.ensures in
    let side_is = c.slice.ensures.items ∙ c.in_ok-side.ensures in
    let links_are = c.in_ok-links.ensures ∙ ap (λ (units : Units). links_out units (flagged c.slice.result.now)) units_are
    ∙ ap (λ (flags : List Bool). links_out c.fill.new.flow.units (flagged flags)) side_is in
    subst (λ (flags : List Bool). IsLeastSide c.args.g.now.arcs c.args.s c.args.t (flagged flags) c.in_ok-links.links) (sym c.in_ok-side.ensures)
    (subst (λ (links : List Link). IsLeastSide c.args.g.now.arcs c.args.s c.args.t (flagged c.fill.new.flow.reached) links) (sym links_are) (c.fill.ensures.side c.if-fill.false).least_side)

pub returns-clause-only_then : goal.returns-clause-only_then
returns-clause-only_then c have =
    let least = (c.fill.ensures.side c.if-fill.false).least_side in
    not_both c.args.g.now c.nodes.ensures.graph c.args.s c.args.t c.args.want c.requires.source c.requires.target c.requires.apart have
    (record {
      side = flagged c.fill.new.flow.reached;
      links = links_out c.fill.new.flow.units (flagged c.fill.new.flow.reached);
      separates = least.separates;
      left_over = least.left_over;
      few = omega (arith, (c.fill.ensures.side c.if-fill.false).few, c.fill.ensures.fewer c.if-fill.false);
    })

use Rattle.std.proofs.Common.{IsTrue, sym, ◌∙◌, refl}
use Rattle.net_model.specs.Routing.{Arc}
use Rattle.class_graph.specs.Answers.{ArcAllows}
use Rattle.class_graph.specs.Building.{flag}
use Rattle.class_graph.proofs.Alike.{may_use_by}
use Rattle.class_graph.proofs.NetworkArcs.{flag_tells, read_arc, ReadArc}
use Rattle.class_graph.proofs.Growing.{cost_is}
use Rattle.class_graph.proofs.arcs.arc_over.Goals as goal

pub returns-clause-some : goal.returns-clause-some
returns-clause-some c =
    let net = c.args.net.now in
    let to = c.args.pair.now.to in
    let link = c.args.link.0 in
    let row = c.in_ok-row.row.now in
    let tail = c.in_ok-tail.tail.now in
    let head = c.in_ok-head.head.now in
    let arc : Arc = record { link = link; from_a = c.args.from_a; row = row; tail = tail; head = head } in
    let lead : IsTrue (flag c.in_ok-flags.flags.now c.args.from_a) = sym c.leads.ensures ∙ c.if-not-leads.false in
    let read : ReadArc net to link c.args.from_a row tail head = read_arc net to link c.args.from_a row c.tail.result c.head.result tail head
    (sym c.in_ok-row.ensures.item) c.tail.ensures c.head.ensures (sym c.in_ok-tail.ensures.item) (sym c.in_ok-head.ensures.item) in
    record {
      arc = arc;
      taken = record {
        is_arc = read.is_arc;
        routed = read.routed ((flag_tells net link to c.in_ok-flags.flags.now (c.requires.each link c.in_ok-flags.flags.now (sym c.in_ok-flags.ensures.item)) c.args.from_a).0 lead);
        fits = may_use_by c.args.mode (IsTrue c.arc_allows.result) (ArcAllows c.args.answers.now arc) row.waypoint c.arc_allows.ensures.0 (c.takes.ensures.0 c.if-not-takes.false);
        of_link = refl;
        direction = refl;
      };
      shows = record { link = refl; tail = refl; head = refl; cost_is = c.cost.ensures ∙ cost_is net.protocol arc };
    }

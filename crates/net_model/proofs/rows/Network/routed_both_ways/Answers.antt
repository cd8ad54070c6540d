use Rattle.std.proofs.Common.{true, false, sym}
use Rattle.net_model.proofs.Arcs.{routed_link}
use Rattle.net_model.proofs.rows.Network.routed_both_ways.Goals as goal

pub returns : goal.returns
returns c = (
  routed_link c.args.self.now c.args.link.0 c.in-Some.row.now true c.args.to (sym c.in-Some.ensures.item)
      c.routed_over-from_a.result c.routed_over-from_a.ensures,
  routed_link c.args.self.now c.args.link.0 c.in-Some.row.now false c.args.to (sym c.in-Some.ensures.item)
      c.routed_over-from_b.result c.routed_over-from_b.ensures,
)

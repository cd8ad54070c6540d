use Rattle.std.proofs.Common.{sym}
use Rattle.net_model.proofs.Arcs.{routed_link}
use Rattle.net_model.proofs.rows.Network.routed_if_told.Goals as goal

pub returns : goal.returns
returns c =
    routed_link c.args.self.now c.args.link.0 c.in-Some.row.now c.args.from_a c.args.to (sym c.in-Some.ensures.item)
    c.routed_over.result c.routed_over.ensures

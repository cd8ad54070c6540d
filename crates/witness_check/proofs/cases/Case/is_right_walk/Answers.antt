use Rattle.std.proofs.Common.{List, sym, subst}
use Rattle.arc_base.specs.declared.place.Link.{Link}
use Rattle.witness_check.specs.Trails.{IsWalk}
use Rattle.witness_check.proofs.CarryingWalks.{permitted, breaking, carried}
use Rattle.witness_check.proofs.cases.Case.is_right_walk.Goals as goal

pub returns : goal.returns
returns c = (
  λ t. let walk : IsWalk c.args.self.now.net.now c.args.self.now.to c.args.kind c.args.class c.args.self.now.source.now.router.0 c.args.path.now.links c.args.self.now.target.now.router.0 =
      subst (λ (ls : List Link). IsWalk c.args.self.now.net.now c.args.self.now.to c.args.kind c.args.class c.args.self.now.source.now.router.0 ls c.args.self.now.target.now.router.0)
      c.slice.ensures.items (c.walks.ensures.0 t) in
      record {
        part = c.lies_in.ensures.0 c.if-not-lies_in.false;
        path = record { arcs = walk.arcs; links = walk.over; leads = walk.leads };
        once = walk.once;
        enters = (c.each_passes.ensures.0 c.if-not-each_passes.false).0;
        permitted = permitted c.args.self.now.net.now c.args.kind c.args.class walk.arcs walk.each;
        leaves = (c.each_passes.ensures.0 c.if-not-each_passes.false).1;
        breaks = breaking c.args.self.now.net.now c.args.kind c.args.class walk.arcs walk.each;
      },
  λ right. c.walks.ensures.1
      (subst (λ (ls : List Link). IsWalk c.args.self.now.net.now c.args.self.now.to c.args.kind c.args.class c.args.self.now.source.now.router.0 ls c.args.self.now.target.now.router.0)
      (sym c.slice.ensures.items) (record {
        arcs = right.path.arcs;
        over = right.path.links;
        leads = right.path.leads;
        once = right.once;
        each = carried c.args.self.now.net.now c.args.kind c.args.class right.path.arcs right.permitted right.breaks;
      })),
)

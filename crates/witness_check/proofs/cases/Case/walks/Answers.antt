use Rattle.std.proofs.Common.{List, sym, ◌∙◌, subst}
use Rattle.std.specs.List.{AllByRecursion}
use Rattle.std.proofs.lemmas.Bool.{false≢true}
use Rattle.net_model.specs.Routing.{Arc}
use Rattle.witness_check.specs.Trails.{IsTrail, IsTrailOnce, MayCarry}
use Rattle.witness_check.proofs.Following.{one_way}
use Rattle.witness_check.proofs.cases.Case.walks.Goals as goal

pub returns-then-goes_once : goal.returns-then-goes_once
returns-then-goes_once c = (
  λ t. let once : IsTrailOnce c.args.self.now.net.now c.args.self.now.to c.args.self.now.source.now.router.0 c.args.links.now c.args.self.now.target.now.router.0 =
      c.goes_once.ensures.0 c.if-goes_once.true in
      let trail : IsTrail c.args.self.now.net.now c.args.self.now.to
      (MayCarry c.args.self.now.net.now c.args.kind c.args.class) c.args.self.now.source.now.router.0 c.args.links.now c.args.self.now.target.now.router.0 =
      c.carries.ensures.0 t in
      record {
        arcs = once.arcs;
        over = once.over;
        leads = once.leads;
        once = once.once;
        each = subst (λ (arcs : List Arc). AllByRecursion (MayCarry c.args.self.now.net.now c.args.kind c.args.class) arcs)
            (one_way c.args.self.now.net.now c.args.self.now.to c.requires.valid c.args.self.now.source.now.router.0 c.args.self.now.target.now.router.0
            c.args.self.now.target.now.router.0 c.args.links.now
            trail.arcs once.arcs trail.over once.over trail.leads once.leads) trail.each;
      },
  λ walk. c.carries.ensures.1 (record { arcs = walk.arcs; over = walk.over; leads = walk.leads; each = walk.each }),
)

pub returns-else-goes_once : goal.returns-else-goes_once
returns-else-goes_once c = (
  λ t. absurd (false≢true (sym c.if-goes_once.false ∙ t)),
  λ walk. c.goes_once.ensures.1 (record { arcs = walk.arcs; over = walk.over; leads = walk.leads; once = walk.once }),
)

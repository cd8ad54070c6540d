use Rattle.std.proofs.Common.{sym, ap, subst}
use Rattle.clause_pool.specs.Pools.{State, IsSound}
use Rattle.clause_pool.specs.Renumbered.{with_id_at}
use Rattle.clause_pool.proofs.Kept.{at, live-at}
use Rattle.clause_pool.proofs.Putting.{Becomes}
use Rattle.clause_pool.proofs.Renumbering.{renumbered-whole}
use Rattle.clause_pool.proofs.pool.Pool.renumber.Goals as goal

pub set_id-requires : goal.set_id-requires
set_id-requires c = live-at c.self.inside.region.live c.args.self.now c.args.p (ap (λ (s : State). s.clauses) c.self.view_is) c.requires.live

whole : (c : goal.After-set_id) → Becomes (record { vars = c.self.inside.vars; region = c.set_id.new.self; heads = c.self.inside.heads }) (with_id_at c.args.self.now c.args.p c.args.id)
whole c =
    let s = c.args.self.now in
    let t = at c.self.inside.region.live s c.args.p (ap (λ (s : State). s.clauses) c.self.view_is) c.requires.live in
    renumbered-whole c.self.inside s c.args.p t c.args.id c.set_id.new.self c.self.invariant c.self.view_is c.requires.id c.set_id.ensures

pub invariant_of-self : goal.invariant_of-self
invariant_of-self c = (whole c).kept

pub returns-clause-new : goal.returns-clause-new
returns-clause-new c = (whole c).view

pub returns-clause-sound : goal.returns-clause-sound
returns-clause-sound c = subst (λ (t : State). IsSound t) (sym (whole c).view) (whole c).sound

use Rattle.std.proofs.Common.{All, subst}
use Rattle.sat_core.specs.Trails.{IsOf}
use Rattle.sat_core.specs.States.{State}
use Rattle.sat_core.proofs.Alike.{alike-all, told}
use Rattle.sat_core.proofs.Clauses.{range-at}
use Rattle.sat_core.proofs.engine.Core.clause.Goals as goal

pub returns-clause-range : goal.returns-clause-range
returns-clause-range c =
    let i = c.self.inside in
    let t = told i.store.clauses c.args.held c.lits.result.now c.lits.ensures in
    subst (λ (s : State). All (IsOf s.vars) c.lits.result.now) c.self.view_is
    (alike-all (IsOf i.trail.vars) t.lits c.lits.result.now t.alike (range-at i.trail.vars i.store.clauses c.args.held t.lits c.self.invariant.sound.range t.is))

use Rattle.std.proofs.Common.{◌≡◌, ◌≢◌, Some, subst}
use Rattle.std.specs.List.{Any}
use Rattle.std.specs.Option.{option_and_then}
use Rattle.cnf_types.specs.Literals.{variable}
use Rattle.sat_core.specs.Trails.{IsOf, entry_of}
use Rattle.sat_core.specs.States.{State}
use Rattle.sat_core.specs.Forgotten.{IsNoReason}
use Rattle.sat_core.proofs.Alike.{alike-all, alike-back, told}
use Rattle.sat_core.proofs.Clauses.{range-at}
use Rattle.sat_core.proofs.Reasons.{no-reason}
use Rattle.sat_core.proofs.engine.Core.is_reason.Goals as goal

pub implied-requires : goal.implied-requires
implied-requires c =
    let i = c.self.inside in
    let t = told i.store.clauses c.args.held c.lits.result.now c.lits.ensures in
    alike-all (IsOf i.trail.vars) t.lits c.lits.result.now t.alike (range-at i.trail.vars i.store.clauses c.args.held t.lits c.self.invariant.sound.range t.is)

pub returns-clause-yes : goal.returns-clause-yes
returns-clause-yes c = λ on. subst (λ (s : State). Any (λ e. e.reason ≡ Some c.args.held) s.trail) c.self.view_is (c.implied.ensures.yes on)

pub returns-clause-no : goal.returns-clause-no
returns-clause-no c = λ off.
    let i = c.self.inside in
    let t = told i.store.clauses c.args.held c.lits.result.now c.lits.ensures in
    subst (λ (s : State). IsNoReason s.trail c.args.held) c.self.view_is (no-reason i.store.clauses i.trail.vars i.trail.entries i.trail.level c.args.held t.lits c.self.invariant.sound.trail t.is
    (alike-back (λ l. option_and_then (λ e. e.reason) (entry_of i.trail.entries (variable l)) ≢ Some c.args.held) t.lits c.lits.result.now t.alike (c.implied.ensures.no off)))

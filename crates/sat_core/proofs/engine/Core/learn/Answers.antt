use Rattle.std.proofs.Common.{◌≡◌, ◌≢◌, ℕ, ◌+◌, ◌-◌, ◌^◌, ◌<◌, [], ◌∷◌, ◌++◌, length, All, sym, subst}
use Rattle.sat_core.specs.declared.numbered.Numbered.{Numbered}
use Rattle.sat_core.specs.declared.assigned.Held.{Held}
use Rattle.sat_core.specs.declared.progress.Progress.{Progress}
use Rattle.sat_core.specs.Trails.{IsOf}
use Rattle.sat_core.specs.States.{State, IsAsserting}
use Rattle.sat_core.specs.Stores.{Stored, with_row}
use Rattle.sat_core.specs.Placed.{IsPlaced}
use Rattle.sat_core.specs.Assignments.{Assignment}
use Rattle.sat_core.specs.Watches.{IsLinked}
use Rattle.sat_core.specs.Kept.{IsKeptCore}
use Rattle.sat_core.proofs.Putting.{kept-spare}
use Rattle.sat_core.proofs.Asserting.{watched_by}
use Rattle.sat_core.proofs.Lemmas.{kept-learnt}
use Rattle.sat_core.proofs.engine.Core.learn.Goals as goal

pub enter_watched-requires-clause-second : goal.enter_watched-requires-clause-second
enter_watched-requires-clause-second c =
    let back = sym c.self.view_is in
    watched_by _ c.self.invariant.sound c.args.lits.now (subst (λ (s : State). IsAsserting s c.args.lits.now) back c.requires.asserting)

pub invariant_of-self : goal.invariant_of-self
invariant_of-self c =
    let i = c.self.inside in
    let e = c.in_err-enter_watched.ensures in
    subst (λ (t : Stored). IsKeptCore (record i { store = t; pool = c.enter_watched.new.pool })) (sym e.err)
    (kept-spare i c.enter_watched.new.pool c.enter_watched.new.pool.spare c.self.invariant e.same)

pub invariant_of-self-2 : goal.invariant_of-self-2
invariant_of-self-2 c =
    let i = c.self.inside in
    let back = sym c.self.view_is in
    let lits = c.args.lits.now in
    let n : Numbered = record { id = c.args.id; lits = lits } in
    let held : Held = record { 0 = c.len.result } in
    let range : All (IsOf i.trail.vars) lits = subst (λ (s : State). All (IsOf s.vars) lits) back c.requires.range in
    let few : length i.store.clauses < 2 ^ 32 - 1 = subst (λ (s : State). length s.clauses < 2 ^ 32 - 1) back c.requires.few_clauses in
    let fresh : All (λ d. d.id ≢ c.args.id) i.store.clauses = subst (λ (s : State). All (λ d. d.id ≢ c.args.id) s.clauses) back c.requires.fresh in
    let asserts : IsAsserting _ lits = subst (λ (s : State). IsAsserting s lits) back c.requires.asserting in
    let e = c.in_ok-enter_watched.ensures in
    let vars : i.pool.vars ≡ i.trail.vars = c.self.invariant.underway.linked.vars_are in
    let place = e.ok.0 in
    let linked : IsLinked i.trail.vars (i.store.clauses ++ n ∷ []) c.enter_watched.new.pool =
    subst (λ (v : ℕ). IsLinked v (i.store.clauses ++ n ∷ []) c.enter_watched.new.pool) vars (subst (λ (t : Stored). IsLinked i.pool.vars t.clauses c.enter_watched.new.pool) e.ok.1 e.linked) in
    let placed : IsPlaced (with_row i.store n place) c.enter_watched.new.pool = subst (λ (t : Stored). IsPlaced t c.enter_watched.new.pool) e.ok.1 e.placed in
    let progress : Progress = record { seen = c.len.result + 1; done = i.progress.done; floor = i.progress.floor } in
    subst (λ (t : Stored). IsKeptCore (record i { store = t; pool = c.enter_watched.new.pool; trail = c.assign.new.self; last_id = c.max-self-inside.result; progress = progress })) (sym e.ok.1)
    (subst (λ (a : Assignment). IsKeptCore
    (record i { store = with_row i.store n place; pool = c.enter_watched.new.pool; trail = a; last_id = c.max-self-inside.result; progress = progress })) (sym c.assign.ensures)
    (kept-learnt i n place c.enter_watched.new.pool c.max-self-inside.result held c.self.invariant asserts range few fresh c.max-self-inside.ensures c.len.ensures.number linked placed e.gains))

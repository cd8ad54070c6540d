use Rattle.std.proofs.Common.{◌≡◌, ℕ, ◌-◌, ◌<◌, length, sym, ap, ◌∙◌, subst, arith}
use Rattle.sat_core.specs.States.{State}
use Rattle.sat_core.specs.Stores.{Stored, without_row}
use Rattle.sat_core.specs.Assignments.{Assignment}
use Rattle.sat_core.specs.Watches.{IsLinked}
use Rattle.sat_core.specs.Kept.{IsKeptCore}
use Rattle.sat_core.specs.Forgotten.{without_at, without_clause, IsNoReason}
use Rattle.sat_core.proofs.Removed.{no_clause, length_removed}
use Rattle.sat_core.proofs.Forgets.{kept-forgotten}
use Rattle.sat_core.proofs.engine.Core.forget.Goals as goal

-- the place is one of the list
pub take_out-requires-clause-held : goal.take_out-requires-clause-held
take_out-requires-clause-held c = subst (λ (s : State). c.args.held.0 < length s.clauses) (sym c.self.view_is) c.requires.held

pub rename-requires-clause-linked : goal.rename-requires-clause-linked
rename-requires-clause-linked c =
    let u = c.self.invariant.underway in
    subst (λ (v : ℕ). IsLinked v c.self.inside.store.clauses c.self.inside.pool) (sym u.linked.vars_are) u.linked

pub rename-requires-clause-placed : goal.rename-requires-clause-placed
rename-requires-clause-placed c = c.self.invariant.underway.placed

pub take_out-requires-clause-sound : goal.take_out-requires-clause-sound
take_out-requires-clause-sound c = c.self.invariant.underway.linked.sound

pub take_out-requires-clause-placed : goal.take_out-requires-clause-placed
take_out-requires-clause-placed c = c.self.invariant.underway.placed

pub rename-requires-clause-some : goal.rename-requires-clause-some
rename-requires-clause-some c =
    let inside = subst (λ (s : State). c.args.held.0 < length s.clauses) (sym c.self.view_is) c.requires.held in
    omega (arith, inside)

pub rename-requires-clause-range : goal.rename-requires-clause-range
rename-requires-clause-range c = c.self.invariant.underway.range

pub rename-requires-clause-trail : goal.rename-requires-clause-trail
rename-requires-clause-trail c = c.self.invariant.underway.trail_is

pub remove-requires : goal.remove-requires
remove-requires c = subst (λ (s : State). c.args.held.0 < length s.clauses) (sym c.self.view_is) c.requires.held

last-is : (c : goal.After-self-1) → c.len-last.result ≡ length c.self.inside.store.clauses - 1
last-is c =
    let i = c.self.inside in
    let inside = subst (λ (s : State). c.args.held.0 < length s.clauses) (sym c.self.view_is) c.requires.held in
    omega (arith, c.len-last.ensures.number, ap (λ (s : Stored). length s.clauses) c.remove.ensures, length_removed no_clause i.store.clauses c.args.held.0 inside)

pub invariant_of-self : goal.invariant_of-self
invariant_of-self c =
    let i = c.self.inside in
    let h = c.args.held in
    let q = c.forgotten-self-inside.result in
    let d = c.forgotten-self-inside.ensures in
    let back = sym c.self.view_is in
    let inside = subst (λ (s : State). h.0 < length s.clauses) back c.requires.held in
    let no = subst (λ (s : State). IsNoReason s.trail h) back c.requires.no_reason in
    let last = last-is c in
    subst (λ (t : Stored). IsKeptCore (record i { store = t; pool = c.take_out.new.pool; trail = c.rename.new.trail; progress = q })) (sym c.remove.ensures)
    (subst (λ (a : Assignment). IsKeptCore (record i { store = without_row i.store h.0; pool = c.take_out.new.pool; trail = a; progress = q })) (sym c.rename.ensures)
    (kept-forgotten i h c.take_out.new.pool q c.self.invariant inside no c.take_out.ensures (λ l. d.all (omega (arith, l, last)) ∙ last) (λ l. d.anew (omega (arith, l, last))) d.done d.floor))

pub returns : goal.returns
returns c =
    let i = c.self.inside in
    let h = c.args.held in
    ap (λ (t : Stored). let s : State =
    record { vars = c.rename.new.trail.vars; clauses = t.clauses; last_id = i.last_id; trail = c.rename.new.trail.entries; level = c.rename.new.trail.level } in s) c.remove.ensures
    ∙ ap (λ (a : Assignment). let s : State = record { vars = a.vars; clauses = without_at i.store.clauses h.0; last_id = i.last_id; trail = a.entries; level = a.level } in s) c.rename.ensures
    ∙ ap (λ (s : State). without_clause s h) c.self.view_is

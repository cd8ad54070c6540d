use Rattle.std.proofs.Common.{◌≢◌, ℕ, ◌-◌, List, Some, sym, ap, ◌∙◌}
use Rattle.std.specs.Option.{option_and_then}
use Rattle.cnf_types.specs.Literals.{variable}
use Rattle.sat_core.specs.declared.assigned.Assigned.{Assigned}
use Rattle.sat_core.specs.declared.assigned.Held.{Held}
use Rattle.sat_core.specs.Trails.{IsOf, entry_of}
use Rattle.sat_core.specs.Assignments.{Assignment}
use Rattle.sat_core.specs.Forgotten.{moved_entries}
use Rattle.sat_core.proofs.Alike.{alike-all, alike-back, told}
use Rattle.sat_core.proofs.Clauses.{range-at}
use Rattle.sat_core.proofs.Moved.{none-to-move}
use Rattle.sat_core.proofs.Reasons.{no-reason}
use Rattle.sat_core.proofs.forgetting.rename.Goals as goal

pub implied-requires : goal.implied-requires
implied-requires c =
    let last : Held = record { 0 = c.len.result - 1 } in
    let vars = c.args.trail.now.vars in
    let t = told c.args.store.now.clauses last c.lits.result.now c.lits.ensures in
    alike-all (IsOf vars) t.lits c.lits.result.now t.alike (range-at vars c.args.store.now.clauses last t.lits c.requires.range t.is)

pub returns-then-implied : goal.returns-then-implied
returns-then-implied c =
    let a = c.args.trail.now in
    c.rename.ensures ∙ ap (λ (n : ℕ). let b : Assignment = record a { entries = moved_entries (n - 1) c.args.held.0 a.entries } in b) c.len.ensures.number

pub returns-else-implied : goal.returns-else-implied
returns-else-implied c =
    let a = c.args.trail.now in
    let last : Held = record { 0 = c.len.result - 1 } in
    let t = told c.args.store.now.clauses last c.lits.result.now c.lits.ensures in
    let none = no-reason c.args.store.now.clauses a.vars a.entries a.level last t.lits c.requires.trail t.is
    (alike-back (λ l. option_and_then (λ e. e.reason) (entry_of a.entries (variable l)) ≢ Some last) t.lits c.lits.result.now t.alike (c.implied.ensures.no c.if-implied.false)) in
    ap (λ (xs : List Assigned). let b : Assignment = record a { entries = xs } in b) (sym (none-to-move (c.len.result - 1) c.args.held.0 a.entries none))
    ∙ ap (λ (n : ℕ). let b : Assignment = record a { entries = moved_entries (n - 1) c.args.held.0 a.entries } in b) c.len.ensures.number

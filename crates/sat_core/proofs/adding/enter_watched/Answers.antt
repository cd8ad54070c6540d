use Rattle.std.proofs.Common.{◌≡◌, ℕ, List, [], ◌∷◌, ◌++◌, length, set, swap, Option, Some, sym, ap, ◌∙◌, subst, arith}
use Rattle.cnf_types.specs.declared.literal.Lit.{Lit}
use Rattle.clause_pool.specs.declared.place.Place.{Place}
use Rattle.sat_core.specs.declared.numbered.Numbered.{Numbered}
use Rattle.sat_core.specs.Stores.{Stored, with_row}
use Rattle.sat_core.specs.Watches.{IsLinked, AreSame}
use Rattle.sat_core.specs.Placed.{IsPlaced}
use Rattle.sat_core.proofs.Placed.{ids-spare, placed-put, placed-same, set-last}
use Rattle.sat_core.proofs.Putting.{linked-spare, fresh-index, linked-put, none-is, gains-put}
use Rattle.sat_core.proofs.Widths.{same-copy}
use Rattle.sat_core.proofs.adding.enter_watched.Goals as goal

pub put-place-requires-clause-id : goal.put-place-requires-clause-id
put-place-requires-clause-id c =
    fresh-index c.args.pool.now.vars c.args.store.now.clauses c.reserve.new.self c.len-at.result (linked-spare c.args.pool.now.vars c.args.store.now.clauses
    c.args.pool.now c.reserve.new.self c.reserve.new.self.spare c.requires.linked c.reserve.ensures.same) c.len-at.ensures.number

-- the list with the clause at its place in the pool
store-is : (c : goal.After-drop-copy-2) → c.put_at.new.self ≡ with_row c.args.store.now (record { id = c.args.id; lits = c.args.lits.now }) (Some c.put-place.result)
store-is c =
    let s = c.args.store.now in
    let n : Numbered = record { id = c.args.id; lits = c.args.lits.now } in
    let p = c.put-place.result in
    let made = c.in_ok-add_watched.ensures.ok in
    let at : c.len-at.result ≡ length s.places = c.len-at.ensures.number ∙ sym c.requires.placed.size in
    c.put_at.ensures ∙ ap (λ (t : Stored). let u : Stored = record t { places = set t.places c.len-at.result (Some p) } in u) made
    ∙ ap (λ (k : ℕ). let u : Stored = record { clauses = s.clauses ++ n ∷ []; places = set (s.places ++ Some (record { 0 = 0 }) ∷ []) k (Some p) } in u) at
    ∙ ap (λ (ps : List (Option Place)). let u : Stored = record { clauses = s.clauses ++ n ∷ []; places = ps } in u) (set-last s.places (Some (record { 0 = 0 })) (Some p))

pub returns-clause-ok : goal.returns-clause-ok
returns-clause-ok c = (Some c.put-place.result, store-is c)

pub returns-clause-placed : goal.returns-clause-placed
returns-clause-placed c =
    let s = c.args.store.now in
    let n : Numbered = record { id = c.args.id; lits = c.args.lits.now } in
    let spare = placed-same s c.args.pool.now c.reserve.new.self (ids-spare c.args.pool.now c.reserve.new.self c.reserve.new.self.spare c.reserve.ensures.same) c.requires.placed in
    subst (λ (t : Stored). IsPlaced t c.put-place.new.self) (sym (store-is c))
    (placed-put s c.reserve.new.self c.put-place.new.self n c.put-place.result c.len-at.result c.as_slice.result.now spare c.len-at.ensures.number
    (none-is _ c.put-place.ensures.free) c.put-place.ensures.new)

pub returns-clause-linked : goal.returns-clause-linked
returns-clause-linked c =
    let vars = c.args.pool.now.vars in
    let clauses = c.args.store.now.clauses in
    let lits = c.args.lits.now in
    let n : Numbered = record { id = c.args.id; lits = lits } in
    let spare = linked-spare vars clauses c.args.pool.now c.reserve.new.self c.reserve.new.self.spare c.requires.linked c.reserve.ensures.same in
    let second = c.requires.second in
    let copied : c.as_slice.result.now ≡ swap lits 1 c.args.other = c.as_slice.ensures.value ∙ c.swap.ensures.items ∙ ap (λ (ls : List Lit). swap ls 1 c.args.other) c.in_ok-copy.ensures.items in
    let same : AreSame lits c.as_slice.result.now = subst (λ (ls : List Lit). AreSame lits ls) (sym copied)
    (same-copy lits 1 c.args.other (omega (arith, second.later, second.inside)) second.inside second.apart) in
    subst (λ (s : Stored). IsLinked vars s.clauses c.put-place.new.self) (sym (store-is c))
    (linked-put vars clauses n c.reserve.new.self c.put-place.new.self c.put-place.result c.len-at.result c.as_slice.result.now spare c.len-at.ensures.number
    (none-is _ c.put-place.ensures.free) c.put-place.ensures.new c.put-place.ensures.sound same)

pub returns-clause-gains : goal.returns-clause-gains
returns-clause-gains c =
    let lits = c.args.lits.now in
    let second = c.requires.second in
    let copied : c.as_slice.result.now ≡ swap lits 1 c.args.other = c.as_slice.ensures.value ∙ c.swap.ensures.items ∙ ap (λ (ls : List Lit). swap ls 1 c.args.other) c.in_ok-copy.ensures.items in
    gains-put c.args.pool.now c.reserve.new.self c.put-place.new.self c.put-place.result c.len-at.result lits c.as_slice.result.now c.args.other c.reserve.new.self.spare
    c.reserve.ensures.same c.put-place.ensures.new copied second

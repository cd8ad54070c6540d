-- The places that the list gives for the pool, as the two change.
use Rattle.std.proofs.Common.{◌≡◌, ◌≢◌, ℕ, ◌-◌, ◌<◌, inl, inr, List, [], ◌∷◌, ◌++◌, length, set, swap, Contains, Option, Some, None, IsSome, IsSomeAnd, option_map, refl, sym, ap, ◌∙◌, subst, arith}
use Rattle.std.specs.List.{slice_get, swap_remove}
use Rattle.std.proofs.lemmas.Bool.{cases_eq}
use Rattle.std.proofs.lemmas.Option.{same_Some, none-some}
use Rattle.std.proofs.lemmas.List.{length_push}
use Rattle.cnf_types.specs.declared.literal.Lit.{Lit}
use Rattle.clause_pool.specs.declared.place.Place.{Place}
use Rattle.clause_pool.specs.Pools.{Entry, State, IsSound, clause_at, side, with_clause, with_watch, watch_moved}
use Rattle.clause_pool.specs.Compacted.{IsCompacted}
use Rattle.clause_pool.proofs.Places.{same-place}
use Rattle.clause_pool.proofs.Maps.{get-put_same, get-put_other}
use Rattle.clause_pool.proofs.Sound.{if-some, at-some, and-some, some-and, no-some}
use Rattle.sat_core.specs.declared.numbered.Numbered.{Numbered}
use Rattle.sat_core.specs.Stores.{Stored, with_row, without_row}
use Rattle.sat_core.specs.Placed.{AreToMove, IsPlaced, SameIds}
use Rattle.sat_core.specs.Forgotten.{moved, IsFreed, IsMoved}
use Rattle.sat_core.proofs.Gets.{slice_get-left, slice_get-push, get-last}
use Rattle.sat_core.proofs.Freed.{other-id}
use Rattle.sat_core.proofs.Removed.{no_clause, length_removed, from_removed, to_removed}

to-id : (o : Option Entry) (k : ℕ) → IsSomeAnd o (λ e. e.id ≡ k) → option_map (λ e. e.id) o ≡ Some k
to-id None k h = absurd h
to-id (Some e) k h = ap (λ (n : ℕ). Some n) h

from-id : (o : Option Entry) (k : ℕ) → option_map (λ e. e.id) o ≡ Some k → IsSomeAnd o (λ e. e.id ≡ k)
from-id None k h = cc
from-id (Some e) k h = same_Some e.id k h

-- pools with the same ids at the same places
pub placed-same : (store : Stored) (pool new : State) → SameIds pool new → IsPlaced store pool → IsPlaced store new
placed-same store pool new same h = record {
  size = h.size;
  live = λ k p at. from-id (clause_at new p) k (same p ∙ to-id (clause_at pool p) k (h.live k p at));
  known = λ p. if-some (clause_at new p) _ (λ e is.
      let f = and-some (clause_at pool p) (λ (d : Entry). d.id ≡ e.id) (from-id (clause_at pool p) e.id (sym (same p) ∙ ap (λ (o : Option Entry). option_map (λ (x : Entry). x.id) o) is)) in
      ap (λ (n : ℕ). slice_get store.places n) (sym f.holds) ∙ at-some (clause_at pool p) f.value (λ (d : Entry). slice_get store.places d.id ≡ Some (Some p)) f.is (h.known p));
}

pub ids-spare : (pool new : State) (spare : ℕ) → new ≡ record pool { spare = spare } → SameIds pool new
ids-spare pool new spare e p = ap (λ (t : State). option_map (λ (x : Entry). x.id) (clause_at t p)) e

pub ids-moved : (pool new : State) (p : Place) (c : Entry) (from : Lit) (at : ℕ) → clause_at pool p ≡ Some c → new ≡ watch_moved pool p from at → SameIds pool new
ids-moved pool new p c from at is turned q =
    let d : Entry = record { id = c.id; lits = swap c.lits (side c.lits from) at } in
    let made : new ≡ with_watch pool p from at (Some c) = turned ∙ ap (λ (o : Option Entry). with_watch pool p from at o) is in
    elim (cases_eq q.0 p.0) [
      | inl e ↦
          let q_is = same-place q p e in
          ap (λ (o : Option Entry). option_map (λ (x : Entry). x.id) o) (ap (clause_at new) q_is ∙ ap (λ (t : State). clause_at t p) made ∙ get-put_same pool.clauses p d)
          ∙ sym (ap (λ (o : Option Entry). option_map (λ (x : Entry). x.id) o) (ap (clause_at pool) q_is ∙ is))
      | inr o ↦ ap (λ (y : Option Entry). option_map (λ (x : Entry). x.id) y) (ap (λ (t : State). clause_at t q) made ∙ get-put_other pool.clauses p q d (λ g. o (ap (λ (r : Place). r.0) g)))
    ]

-- after a visit that moved a watch, of which this much is known
pub ids-visited : (old pool new : State) (p : Place) (from : Lit) (at : ℕ) (P : Entry → Type 0) → SameIds old pool → new ≡ watch_moved pool p from at → IsSomeAnd (clause_at pool p) P → SameIds old new
ids-visited old pool new p from at P ids turned found q =
    let f = and-some (clause_at pool p) P found in
    ids-moved pool new p f.value from at f.is turned q ∙ ids q

-- a clause that the pool does not take
pub placed-beside : (store : Stored) (pool : State) (n : Numbered) → IsPlaced store pool → IsPlaced (with_row store n None) pool
placed-beside store pool n h = record {
  size = omega (arith, h.size, length_push store.places None, length_push store.clauses n);
  live = λ k p at. elim (slice_get-push store.places None k (Some p) at) [
    | inl old ↦ h.live k p old
    | inr (end, is) ↦ absurd (none-some p (sym is))
  ];
  known = λ p. if-some (clause_at pool p) _
      (λ e is. slice_get-left store.places (None ∷ []) e.id (Some p) (at-some (clause_at pool p) e (λ (x : Entry). slice_get store.places x.id ≡ Some (Some p)) is (h.known p)));
}

-- and one that it takes
pub placed-put : (store : Stored) (pool new : State) (n : Numbered) (p : Place) (at : ℕ) (lits : List Lit) → IsPlaced store pool → at ≡ length store.clauses →
    clause_at pool p ≡ None → new ≡ with_clause pool p at lits → IsPlaced (with_row store n (Some p)) new
placed-put store pool new n p at lits h at_is none made =
    let d : Entry = record { id = at; lits = lits } in
    let here : clause_at new p ≡ Some d = ap (λ (t : State). clause_at t p) made ∙ get-put_same pool.clauses p d in
    let there : (q : Place) → (q ≡ p → ⊥) → clause_at new q ≡ clause_at pool q = λ q o. ap (λ (t : State). clause_at t q) made ∙ get-put_other pool.clauses p q d o in
    record {
      size = omega (arith, h.size, length_push store.places (Some p), length_push store.clauses n);
      live = λ k q l. elim (slice_get-push store.places (Some p) k (Some q) l) [
        | inl old ↦
            let found = h.live k q old in
            let apart : q ≡ p → ⊥ = λ g. no-some (clause_at pool q) (λ (x : Entry). x.id ≡ k) (ap (clause_at pool) g ∙ none) found in
            subst (λ (y : Option Entry). IsSomeAnd y (λ x. x.id ≡ k)) (sym (there q apart)) found
        | inr (end, is) ↦ some-and (clause_at new q) d (λ (x : Entry). x.id ≡ k) (ap (clause_at new) (same_Some q p is) ∙ here) (at_is ∙ sym h.size ∙ sym end)
      ];
      known = λ q. if-some (clause_at new q) _ (λ e is. elim (cases_eq q.0 p.0) [
        | inl g ↦
            let q_is = same-place q p g in
            let e_is : e ≡ d = same_Some e d (sym is ∙ ap (clause_at new) q_is ∙ here) in
            ap (λ (k : ℕ). slice_get (store.places ++ Some p ∷ []) k) (ap (λ (x : Entry). x.id) e_is ∙ at_is ∙ sym h.size) ∙ get-last store.places (Some p)
            ∙ ap (λ (r : Place). Some (Some r)) (sym q_is)
        | inr o ↦
            let old : clause_at pool q ≡ Some e = sym (there q (λ g. o (ap (λ (r : Place). r.0) g))) ∙ is in
            slice_get-left store.places (Some p ∷ []) e.id (Some q) (at-some (clause_at pool q) e (λ (x : Entry). slice_get store.places x.id ≡ Some (Some q)) old (h.known q))
      ]);
    }

pub set-last : {X : Type 0} (xs : List X) (x y : X) → set (xs ++ x ∷ []) (length xs) y ≡ xs ++ y ∷ []
set-last [] x y = refl
set-last (z ∷ xs) x y = ap (λ ys. z ∷ ys) (set-last xs x y)

-- after another clause was taken out of the pool
pub freed-live : (store : Stored) (pool mid : State) (at k : ℕ) (p : Place) → IsPlaced store pool → IsFreed at pool mid → k ≢ at →
    slice_get store.places k ≡ Some (Some p) → IsSomeAnd (clause_at mid p) (λ e. e.id ≡ k)
freed-live store pool mid at k p h freed other place =
    let f = and-some (clause_at pool p) (λ (e : Entry). e.id ≡ k) (h.live k p place) in
    some-and (clause_at mid p) f.value (λ (e : Entry). e.id ≡ k) (freed.to p f.value f.is (λ same. other (sym f.holds ∙ same))) f.holds

-- the list and the pool lost the same clause
pub placed-removed : (store : Stored) (pool new : State) (at : ℕ) → at < length store.clauses → IsPlaced store pool →
    IsMoved (length store.clauses - 1) at pool new → IsPlaced (without_row store at) new
placed-removed store pool new at inside h m =
    let places = store.places in
    let within : at < length places = omega (arith, inside, h.size) in
    let last : (j : ℕ) → moved (length places - 1) at j ≡ moved (length store.clauses - 1) at j = λ j. ap (λ (n : ℕ). moved (n - 1) at j) h.size in
    record {
      size = omega (arith, h.size, length_removed None places at within, length_removed no_clause store.clauses at inside);
      live = λ k p l.
          let r = from_removed None places at within k (Some p) l in
          let f = and-some (clause_at pool p) (λ (e : Entry). e.id ≡ r.0) (h.live r.0 p r.2) in
          let t = m.to p f.value f.is (λ same. r.1 (sym f.holds ∙ same)) in
          some-and (clause_at new p) t.0 (λ (e : Entry). e.id ≡ k) t.1 (t.2 ∙ ap (λ (n : ℕ). moved (length store.clauses - 1) at n) f.holds ∙ sym (last r.0) ∙ sym r.3);
      known = λ p. if-some (clause_at new p) _ (λ e is.
          let r = m.from p e is in
          let known = at-some (clause_at pool p) r.0 (λ (x : Entry). slice_get places x.id ≡ Some (Some p)) r.1 (h.known p) in
          ap (λ (n : ℕ). slice_get (swap_remove places at None) n) (r.4 ∙ sym (last r.0.id)) ∙ to_removed None places at within r.0.id (Some p) r.3 known);
    }

-- the pool was compacted
pub to-move : (store : Stored) (pool new : State) (before after : List (Place × Place)) → IsPlaced store pool → IsSound new → before ≡ [] →
    IsCompacted pool new before after → AreToMove store new after
to-move store pool new before after h sound none m =
    let all : m.moves ≡ after = sym (m.told ∙ ap (λ (ms : List (Place × Place)). ms ++ m.moves) none) in
    let same : (p q : Place) → Contains after (p, q) → clause_at new q ≡ clause_at pool p = λ p q c. (m.same p q (subst (λ (ms : List (Place × Place)). Contains ms (p, q)) (sym all) c)).0 in
    let found : (p q : Place) → Contains after (p, q) → (e : Entry) × (clause_at pool p ≡ Some e) =
    λ p q c. some-of (clause_at pool p) (m.same p q (subst (λ (ms : List (Place × Place)). Contains ms (p, q)) (sym all) c)).1 in
    record {
      size = h.size;
      each = λ k p at.
          let f = and-some (clause_at pool p) (λ (e : Entry). e.id ≡ k) (h.live k p at) in
          let t = at-some (clause_at pool p) f.value (λ _. (q : Place) × Contains m.moves (p, q)) f.is (m.each p) in
          let c = subst (λ (ms : List (Place × Place)). Contains ms (p, t.0)) all t.1 in
          (t.0, c, some-and (clause_at new t.0) f.value (λ (e : Entry). e.id ≡ k) (same p t.0 c ∙ f.is) f.holds);
      move = λ p q c.
          let f = found p q c in
          some-and (clause_at new q) f.0 (λ (e : Entry). slice_get store.places e.id ≡ Some (Some p)) (same p q c ∙ f.1)
          (at-some (clause_at pool p) f.0 (λ (x : Entry). slice_get store.places x.id ≡ Some (Some p)) f.1 (h.known p));
      only = λ q. if-some (clause_at new q) _ (λ e is.
          let t = at-some (clause_at new q) e (λ _. (p : Place) × Contains m.moves (p, q)) is (m.only q) in
          (t.0, subst (λ (ms : List (Place × Place)). Contains ms (t.0, q)) all t.1));
      once = λ p q r c d.
          let f = found p q c in
          elim (cases_eq q.0 r.0) [
            | inl e ↦ same-place q r e
            | inr o ↦ absurd (other-id new q r f.0 f.0 sound (same p q c ∙ f.1) (same p r d ∙ f.1) (λ g. o (ap (λ (x : Place). x.0) (sym g))) refl)
          ];
      apart = λ j k p a b.
          let f = and-some (clause_at pool p) (λ (e : Entry). e.id ≡ j) (h.live j p a) in
          sym f.holds ∙ at-and (clause_at pool p) f.value k f.is (h.live k p b);
    }
  where
    some-of : (o : Option Entry) → IsSome o → (e : Entry) × (o ≡ Some e)
    some-of None h = cc
    some-of (Some e) h = (e, refl)

    at-and : (o : Option Entry) (e : Entry) (k : ℕ) → o ≡ Some e → IsSomeAnd o (λ x. x.id ≡ k) → e.id ≡ k
    at-and o e k is h = subst (λ (y : Option Entry). IsSomeAnd y (λ x. x.id ≡ k)) is h

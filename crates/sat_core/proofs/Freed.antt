-- The pool, when a clause is taken out and another one takes its id.
use Rattle.std.proofs.Common.{◌≡◌, ◌≢◌, ℕ, inl, inr, Option, Some, None, IsSome, IfSome, IsSomeAnd, is_some, refl, sym, ap, ◌∙◌}
use Rattle.std.proofs.lemmas.Bool.{cases_eq}
use Rattle.std.proofs.lemmas.Option.{same_Some, none-some}
use Rattle.clause_pool.specs.declared.place.Place.{Place}
use Rattle.clause_pool.specs.Pools.{Entry, State, IsSound, clause_at, freed, without_clause}
use Rattle.clause_pool.specs.Renumbered.{with_id_at}
use Rattle.clause_pool.proofs.Places.{same-place}
use Rattle.clause_pool.proofs.Maps.{get-gone_same, get-gone_other, get-changed_same, get-changed_other}
use Rattle.clause_pool.proofs.Sound.{if-some, at-some, and-some}
use Rattle.sat_core.specs.Forgotten.{moved, IsFreed, IsRenumbered}
use Rattle.sat_core.proofs.Removed.{moved-last, moved-other}

-- no other place has the id of one
pub other-id : (s : State) (p q : Place) (d e : Entry) → IsSound s → clause_at s p ≡ Some d → clause_at s q ≡ Some e → (q ≡ p → ⊥) → e.id ≢ d.id
other-id s p q d e sound at other_at differ =
    at-some (clause_at s p) d (λ (y : Entry). e.id ≢ y.id) at (at-some (clause_at s q) e (λ (x : Entry). IfSome (clause_at s p) (λ (y : Entry). x.id ≢ y.id)) other_at (sound.ids q p differ))

pub freed-by : (s new : State) (p : Place) (id : ℕ) → IsSound s → IsSomeAnd (clause_at s p) (λ e. e.id ≡ id) → new ≡ freed s p → IsSound new → IsFreed id s new
freed-by s new p id sound found is new_sound =
    let f = and-some (clause_at s p) (λ (e : Entry). e.id ≡ id) found in
    let made : new ≡ without_clause s p (Some f.value) = is ∙ ap (λ (o : Option Entry). without_clause s p o) f.is in
    let here : clause_at new p ≡ None = ap (λ (t : State). clause_at t p) made ∙ get-gone_same s.clauses p in
    let there : (q : Place) → (q ≡ p → ⊥) → clause_at new q ≡ clause_at s q = λ q o. ap (λ (t : State). clause_at t q) made ∙ get-gone_other s.clauses p q o in
    let apart : (q : Place) (e : Entry) → clause_at new q ≡ Some e → q ≡ p → ⊥ = λ q e at same. none-some e (sym here ∙ ap (clause_at new) (sym same) ∙ at) in
    record {
      vars = ap (λ (t : State). t.vars) made;
      sound = new_sound;
      gone = λ q. if-some (clause_at new q) _ (λ e at same. other-id s p q f.value e sound f.is (sym (there q (apart q e at)) ∙ at) (apart q e at) (same ∙ sym f.holds));
      from = λ q e at. sym (there q (apart q e at)) ∙ at;
      to = λ q e at other. there q (λ same. other (ap (λ (x : Entry). x.id) (same_Some e f.value (sym at ∙ ap (clause_at s) same ∙ f.is)) ∙ f.holds)) ∙ at;
    }

pub renumbered-by : (s new : State) (p : Place) (id new_id : ℕ) → IsSound s → IsSomeAnd (clause_at s p) (λ e. e.id ≡ id) → new ≡ with_id_at s p new_id → IsSound new → IsRenumbered id new_id s new
renumbered-by s new p id new_id sound found is new_sound =
    let f = and-some (clause_at s p) (λ (e : Entry). e.id ≡ id) found in
    let g : Entry → Entry = λ c. record { id = new_id; lits = c.lits } in
    let here : clause_at new p ≡ Some (g f.value) = ap (λ (t : State). clause_at t p) is ∙ get-changed_same s.clauses p g f.value f.is in
    let there : (q : Place) → (q ≡ p → ⊥) → clause_at new q ≡ clause_at s q = λ q o. ap (λ (t : State). clause_at t q) is ∙ get-changed_other s.clauses p q g o in
    let number : new_id ≡ moved id new_id f.value.id = sym (ap (moved id new_id) f.holds ∙ moved-last id new_id) in
    let number_other : (q : Place) (e : Entry) → clause_at s q ≡ Some e → (q ≡ p → ⊥) → e.id ≡ moved id new_id e.id =
    λ q e at o. sym (moved-other id new_id e.id (λ same. other-id s p q f.value e sound f.is at o (same ∙ sym f.holds))) in
    record {
      vars = ap (λ (t : State). t.vars) is;
      sound = new_sound;
      from = λ q e at. elim (cases_eq q.0 p.0) [
        | inl same ↦
            let q_is : q ≡ p = same-place q p same in
            let e_is : g f.value ≡ e = same_Some (g f.value) e (sym here ∙ ap (clause_at new) (sym q_is) ∙ at) in
            (f.value, ap (clause_at s) q_is ∙ f.is, ap (λ (x : Entry). x.lits) (sym e_is), ap (λ (x : Entry). x.id) (sym e_is) ∙ number)
        | inr o ↦
            let q_is : q ≡ p → ⊥ = λ h. o (ap (λ (r : Place). r.0) h) in
            let old : clause_at s q ≡ Some e = sym (there q q_is) ∙ at in
            (e, old, refl, number_other q e old q_is)
      ];
      to = λ q d at. elim (cases_eq q.0 p.0) [
        | inl same ↦
            let q_is : q ≡ p = same-place q p same in
            let d_is : d ≡ f.value = same_Some d f.value (sym at ∙ ap (clause_at s) q_is ∙ f.is) in
            (g f.value, ap (clause_at new) q_is ∙ here, number ∙ ap (λ (x : Entry). moved id new_id x.id) (sym d_is))
        | inr o ↦
            let q_is : q ≡ p → ⊥ = λ h. o (ap (λ (r : Place). r.0) h) in
            (d, there q q_is ∙ at, number_other q d at q_is)
      ];
    }

pub some-live : (s : State) (p : Place) (id : ℕ) → IsSomeAnd (clause_at s p) (λ e. e.id ≡ id) → IsSome (clause_at s p)
some-live s p id h = ap is_some (and-some (clause_at s p) (λ (e : Entry). e.id ≡ id) h).is

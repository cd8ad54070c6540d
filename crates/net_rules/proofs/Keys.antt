-- An index holds its keys by reference. These are the facts on what the keys refer to.
use Rattle.std.proofs.Common.{◌≡◌, ℕ, ◌<◌, Bool, true, false, ◌&&◌, not, List, [], ◌∷◌, ◌++◌, length, get_or, map, refl, sym, ◌∙◌, ap, subst, Decides, MatchBool, if◌then◌else◌, nat_eq}
use Rattle.std.specs.Prelude.{Contains, Some, position, slice_get, option_map}
use Rattle.std.specs.List.{list_any}
use Rattle.std.specs.Cmp.Lexicographic.{pointwise}
use denote.Ref.{Bor}
use Rattle.std.proofs.lemmas.Bool.{false≢true}
use Rattle.std.proofs.lemmas.Bool.Decides.{Decides-and, Decides-eqb}
use Rattle.std.proofs.lemmas.Slice.Eq.{bytes_eq-Decides}
use Rattle.std.proofs.lemmas.List.{map-append, map-id}
use Rattle.std.proofs.lemmas.List.Quantifiers.{position-Some}
use Rattle.std.proofs.lemmas.Option.{slice_get-map, slice_get-get_or}
use Rattle.indexmap.specs.IndexSet.{insert_key}
use Rattle.ios_config.proofs.StandLists.{any_seen}
use Rattle.net_rules.specs.Sites.{FullName}

-- two keys refer to the same names exactly where the test says so
abbrev pub same_key : Bor (List ℕ) × Bor (List ℕ) → Bor (List ℕ) × Bor (List ℕ) → Bool
same_key x y = pointwise nat_eq x.0.now y.0.now && pointwise nat_eq x.1.now y.1.now

abbrev pub name_at : Bor (List ℕ) × Bor (List ℕ) → FullName
name_at key = (key.0.now, key.1.now)

pub same_key-Decides : (x y : Bor (List ℕ) × Bor (List ℕ)) → Decides (same_key x y) (name_at x ≡ name_at y)
same_key-Decides x y =
    let d : Decides (same_key x y) ((x.0.now ≡ y.0.now) × (x.1.now ≡ y.1.now)) =
    Decides-and (pointwise nat_eq x.0.now y.0.now) (pointwise nat_eq x.1.now y.1.now) (bytes_eq-Decides x.0.now y.0.now) (bytes_eq-Decides x.1.now y.1.now) in
    (λ t i. ((d.0 t).0 i, (d.0 t).1 i), λ e. d.1 (ap (λ (n : FullName). n.0) e, ap (λ (n : FullName). n.1) e))

module _ {K X : Type 0} (eq : K → K → Bool) (seen : K → X) (same : (x y : K) → Decides (eq x y) (seen x ≡ seen y)) where
  -- what an insertion says: a new key goes last, and else the keys contain it
  pub inserted : (ks ls : List K) (k : K) (new : Bool) → new ≡ not (list_any (eq k) ks) → ls ≡ insert_key eq ks k →
      MatchBool new ((¬ Contains (map seen ks) (seen k)) × (map seen ls ≡ map seen ks ++ seen k ∷ [])) (Contains (map seen ks) (seen k))
  inserted ks ls k new is added =
      let P : Bool → Type 0 = λ b. MatchBool b ((¬ Contains (map seen ks) (seen k)) × (map seen ls ≡ map seen ks ++ seen k ∷ [])) (Contains (map seen ks) (seen k)) in
      subst P (sym is) (by (list_any (eq k) ks) refl)
    where
      by : (b : Bool) → list_any (eq k) ks ≡ b → MatchBool (not b) ((¬ Contains (map seen ks) (seen k)) × (map seen ls ≡ map seen ks ++ seen k ∷ [])) (Contains (map seen ks) (seen k))
      by true e = (any_seen eq seen same ks k).0 e
      by false e = (
        λ h. false≢true (sym e ∙ (any_seen eq seen same ks k).1 h),
        ap (map seen) (added ∙ ap (λ c. if c then ks else ks ++ k ∷ []) e) ∙ map-append seen ks (k ∷ []),
      )

-- the place that an index gives for a key
pub placed : {K : Type 0} {X : Type 0} (eq : K → K → Bool) (seen : K → X) (same : (x y : K) → Decides (eq x y) (seen x ≡ seen y)) (ks : List K) (k : K) (i : ℕ) →
    position (eq k) ks ≡ Some i → slice_get (map seen ks) i ≡ Some (seen k)
placed eq seen same ks k i found =
    let at_place : (i < length ks) × (eq k (get_or ks i k) ≡ true) × ((j : ℕ) → j < i → eq k (get_or ks j k) ≡ false) = position-Some (eq k) ks i k found in
    slice_get-map seen ks i ∙ ap (option_map seen) (slice_get-get_or ks i k at_place.0) ∙ ap Some (sym ((same k (get_or ks i k)).0 at_place.1))

-- no place is given exactly for a key that is not there
pub not_placed : {K : Type 0} {X : Type 0} (eq : K → K → Bool) (seen : K → X) (same : (x y : K) → Decides (eq x y) (seen x ≡ seen y)) (ks : List K) (k : K) →
    list_any (eq k) ks ≡ false → Contains (map seen ks) (seen k) → ⊥
not_placed eq seen same ks k none there = false≢true (sym none ∙ (any_seen eq seen same ks k).1 there)

-- the same for numbers
pub inserted_number : (ks ls : List ℕ) (k : ℕ) (new : Bool) → new ≡ not (list_any (nat_eq k) ks) → ls ≡ insert_key nat_eq ks k →
    MatchBool new ((¬ Contains ks k) × (ls ≡ ks ++ k ∷ [])) (Contains ks k)
inserted_number ks ls k new is added =
    let P : List ℕ → List ℕ → Type 0 = λ old now. MatchBool new ((¬ Contains old k) × (now ≡ old ++ k ∷ [])) (Contains old k) in
    subst (λ (now : List ℕ). P ks now) (map-id ls) (subst (λ (old : List ℕ). P old (map (λ (n : ℕ). n) ls)) (map-id ks)
    (inserted nat_eq (λ (n : ℕ). n) (λ x y. Decides-eqb x y) ks ls k new is added))

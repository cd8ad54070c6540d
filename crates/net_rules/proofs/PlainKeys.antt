-- Keys that an index holds by value: whether it has one, and one more.
use Rattle.std.proofs.Common.{◌≡◌, ℕ, ◌+◌, ◌⊎◌, inl, inr, List, [], ◌∷◌, ◌++◌, refl, sym, ap, subst, Bool, true, false, ◌&&◌, IsTrue, ◌↔◌, Decides, nat_eq, if◌then◌else◌}
use Rattle.std.specs.Prelude.{Contains}
use Rattle.std.specs.List.{list_any}
use Rattle.std.proofs.lemmas.Bool.Decides.{Decides-and, Decides-eqb}
use Rattle.std.proofs.lemmas.List.{map-id}
use Rattle.std.proofs.lemmas.List.Elements.{Contains-append_left, Contains-push, Contains-push_cases}
use Rattle.indexmap.specs.IndexSet.{insert_key}
use Rattle.ios_config.proofs.StandLists.{any_seen}

module _ {K : Type 0} (eq : K → K → Bool) (same : (x y : K) → Decides (eq x y) (x ≡ y)) where
  found_key : (ks : List K) (k : K) → Decides (list_any (eq k) ks) (Contains ks k)
  found_key ks k = subst (λ (l : List K). Decides (list_any (eq k) ks) (Contains l k)) (map-id ks) (any_seen eq (λ (x : K). x) same ks k)

  -- the answer of `contains`
  pub has_key : (ks : List K) (k : K) (found : Bool) → found ≡ list_any (eq k) ks → IsTrue found ↔ Contains ks k
  has_key ks k found is = subst (λ (b : Bool). IsTrue b ↔ Contains ks k) (sym is) (found_key ks k)

  -- the keys after an insertion
  pub keys_added : (ks ls : List K) (k x : K) → ls ≡ insert_key eq ks k → Contains ls x ↔ (Contains ks x ⊎ (k ≡ x))
  keys_added ks ls k x is = subst (λ (l : List K). Contains l x ↔ (Contains ks x ⊎ (k ≡ x))) (sym is) (by (list_any (eq k) ks) refl)
    where
      by : (b : Bool) → list_any (eq k) ks ≡ b → Contains (if b then ks else ks ++ k ∷ []) x ↔ (Contains ks x ⊎ (k ≡ x))
      by true e = (λ h. inl h, λ h. old h)
        where
          old : Contains ks x ⊎ (k ≡ x) → Contains ks x
          old (inl h) = h
          old (inr here) = subst (λ (y : K). Contains ks y) here ((found_key ks k).0 e)
      by false e = (λ h. Contains-push_cases ks k x h, λ h. new h)
        where
          new : Contains ks x ⊎ (k ≡ x) → Contains (ks ++ k ∷ []) x
          new (inl h) = Contains-append_left ks (k ∷ []) x h
          new (inr here) = subst (λ (y : K). Contains (ks ++ k ∷ []) y) here (Contains-push ks k)

-- pairs of numbers are compared part by part
abbrev pub same_parts : ℕ × ℕ → ℕ × ℕ → Bool
same_parts x y = nat_eq x.0 y.0 && nat_eq x.1 y.1

pub same_parts-Decides : (x y : ℕ × ℕ) → Decides (same_parts x y) (x ≡ y)
same_parts-Decides x y =
    let d : Decides (same_parts x y) ((x.0 ≡ y.0) × (x.1 ≡ y.1)) = Decides-and (nat_eq x.0 y.0) (nat_eq x.1 y.1) (Decides-eqb x.0 y.0) (Decides-eqb x.1 y.1) in
    (λ t i. ((d.0 t).0 i, (d.0 t).1 i), λ e. d.1 (ap (λ (p : ℕ × ℕ). p.0) e, ap (λ (p : ℕ × ℕ). p.1) e))

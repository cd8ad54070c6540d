-- An index that finds lists by a router and a name: its keys, and one more key.
use Rattle.std.proofs.Common.{◌≡◌, ℕ, ◌+◌, ◌<◌, ◌≤◌, Bool, false, ◌&&◌, List, [], ◌∷◌, ◌++◌, length, get_or, take, map, sym, ◌∙◌, ap, subst, Decides, if◌then◌else◌, nat_eq}
use Rattle.std.specs.Prelude.{Contains}
use Rattle.std.specs.List.{list_any}
use Rattle.std.specs.Cmp.Lexicographic.{pointwise}
use denote.Ref.{Bor}
use Rattle.std.proofs.lemmas.Bool.{false_from_ne_true}
use Rattle.std.proofs.lemmas.Bool.Decides.{Decides-and, Decides-eqb}
use Rattle.std.proofs.lemmas.Slice.Eq.{bytes_eq-Decides}
use Rattle.std.proofs.lemmas.List.{map-append, length-map, take_all}
use Rattle.indexmap.specs.IndexSet.{insert_key}
use Rattle.ios_config.proofs.StandLists.{any_seen}
use Rattle.arc_base.specs.Lists.{AreDistinct}
use Rattle.net_rules.specs.Lists.{keys_at}
use Rattle.net_rules.proofs.NameLists.{mapped_more, mapped_twice}

module _ {K X : Type 0} (eq : K → K → Bool) (seen : K → X) (same : (x y : K) → Decides (eq x y) (seen x ≡ seen y)) where
  -- a new key goes last
  pub inserted_new : (ks ls : List K) (k : K) → ¬ Contains (map seen ks) (seen k) → ls ≡ insert_key eq ks k → map seen ls ≡ map seen ks ++ seen k ∷ []
  inserted_new ks ls k lacks added =
      let none : list_any (eq k) ks ≡ false = false_from_ne_true (list_any (eq k) ks) (λ t. lacks ((any_seen eq seen same ks k).0 t)) in
      ap (map seen) (added ∙ ap (λ (c : Bool). if c then ks else ks ++ k ∷ []) none) ∙ map-append seen ks (k ∷ [])

-- two keys speak of the same router and name exactly where the test says so
abbrev pub same_list_key : ℕ × Bor (List ℕ) → ℕ × Bor (List ℕ) → Bool
same_list_key x y = nat_eq x.0 y.0 && pointwise nat_eq x.1.now y.1.now

abbrev pub list_key_at : ℕ × Bor (List ℕ) → ℕ × List ℕ
list_key_at key = (key.0, key.1.now)

pub same_list_key-Decides : (x y : ℕ × Bor (List ℕ)) → Decides (same_list_key x y) (list_key_at x ≡ list_key_at y)
same_list_key-Decides x y =
    let d : Decides (same_list_key x y) ((x.0 ≡ y.0) × (x.1.now ≡ y.1.now)) =
    Decides-and (nat_eq x.0 y.0) (pointwise nat_eq x.1.now y.1.now) (Decides-eqb x.0 y.0) (bytes_eq-Decides x.1.now y.1.now) in
    (λ t i. ((d.0 t).0 i, (d.0 t).1 i), λ e. d.1 (ap (λ (n : ℕ × List ℕ). n.0) e, ap (λ (n : ℕ × List ℕ). n.1) e))

-- an index of lists holds the keys of the first ones
module _ {L : Type 0} (key : L → ℕ × List ℕ) (lists items : List L) (whole : items ≡ lists) (i : ℕ) (keys : List (ℕ × Bor (List ℕ))) (first : keys_at keys ≡ map key (take i items)) where
  -- one more list
  pub index_more : AreDistinct (map key lists) → (next : List (ℕ × Bor (List ℕ))) (list : L) (k : ℕ × Bor (List ℕ)) → i < length items → list ≡ get_or items i list → list_key_at k ≡ key list →
      next ≡ insert_key same_list_key keys k → keys_at next ≡ map key (take (i + 1) items)
  index_more distinct next list k within is names added =
      let there : Contains (keys_at keys) (list_key_at k) → Contains (keys_at keys) (key list) = subst (λ (x : ℕ × List ℕ). Contains (keys_at keys) x) names in
      let apart : AreDistinct (map key items) = subst (λ (l : List L). AreDistinct (map key l)) (sym whole) distinct in
      mapped_more key [] (keys_at keys) (keys_at next) items i list within is first
      (inserted_new same_list_key list_key_at same_list_key-Decides keys next k (λ h. mapped_twice key [] (keys_at keys) items i list within is first (there h) apart) added ∙
      ap (λ (x : ℕ × List ℕ). keys_at keys ++ x ∷ []) names)

  -- all lists
  pub index_all : length items ≤ i → keys_at keys ≡ map key lists
  index_all past = first ∙ ap (map key) (take_all i items past) ∙ ap (map key) whole

  pub index_long : length items ≤ i → length keys ≡ length lists
  index_long past = sym (length-map {B = ℕ × List ℕ} keys (λ k. (k.0, k.1.now))) ∙ ap (λ (l : List (ℕ × List ℕ)). length l) (index_all past) ∙ length-map lists key

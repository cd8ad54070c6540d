-- A walk through a list of classes: what holds of each so far, and the first that is kept out.
use Rattle.std.proofs.Common.{◌≡◌, ℕ, ◌+◌, ◌<◌, ◌≤◌, ◌⊎◌, ◌↔◌, Bool, false, Some, List, length, get_or, IsTrue, refl, sym, ◌∙◌, subst, inl, inr, arith}
use Rattle.std.specs.Prelude.{slice_get}
use Rattle.std.proofs.lemmas.Bool.{false≢true, cases_lt}
use Rattle.std.proofs.lemmas.Option.{slice_get_read, same_Some}
use Rattle.net_model.specs.declared.policies.Class.{Class}
use Rattle.net_model.specs.declared.rows.Network.{Network}
use Rattle.net_model.specs.Forwarding.{Ends}
use Rattle.class_graph.specs.Passing.{IsFirstAfter, EachPasses, AllPass, IsFirstKeptOut}

-- an item that a walk through the list reads
pub item_here : {X : Type 0} (xs : List X) (i : ℕ) (x : X) → i < length xs → x ≡ get_or xs i x → slice_get xs i ≡ Some x
item_here xs i x within read = slice_get_read xs (length xs) i x refl within read

pub split_below : (n m : ℕ) → n < m + 1 → (n < m) ⊎ (n ≡ m)
split_below n m low = elim (cases_lt n m) [ inl below ↦ inl below | inr above ↦ inr (omega arith) ]

module _ (P : Class → Type 0) where
  -- what holds of the classes before and of the next one holds of all of these
  pub one_more_class : (classes : List Class) (n : ℕ) (class : Class) → slice_get classes n ≡ Some class →
      ((k : ℕ) (c : Class) → k < n → slice_get classes k ≡ Some c → P c) → P class → (k : ℕ) (c : Class) → k < n + 1 → slice_get classes k ≡ Some c → P c
  one_more_class classes n class at before here k c low at_k = elim (split_below k n low) [
    | inl below ↦ before k c below at_k
    | inr same ↦ subst P (same_Some class c (sym at ∙ subst (λ (i : ℕ). slice_get classes i ≡ Some c) same at_k)) here
  ]

  -- past the last class it holds of all
  pub all_at_end : (items classes : List Class) → items ≡ classes → (n : ℕ) → length items ≤ n → ((k : ℕ) (c : Class) → k < n → slice_get items k ≡ Some c → P c) →
      (k : ℕ) (c : Class) → k < length classes → slice_get classes k ≡ Some c → P c
  all_at_end items classes same n end all =
      subst (λ (cs : List Class). (k : ℕ) (c : Class) → k < length cs → slice_get cs k ≡ Some c → P c) same (λ k c low at. all k c (omega arith) at)

  pub first_after : (items classes : List Class) → items ≡ classes → (n : ℕ) (class : Class) → slice_get items n ≡ Some class →
      ((k : ℕ) (c : Class) → k < n → slice_get items k ≡ Some c → P c) → IsFirstAfter P classes class
  first_after items classes same n class at before =
      subst (λ (cs : List Class). IsFirstAfter P cs class) same (record { place = n; at_place = at; before = before })

pub first_out : (net : Network) (ends : Ends) (items classes : List Class) → items ≡ classes → (n : ℕ) (class : Class) → slice_get items n ≡ Some class →
    AllPass net ends items n → (flag : Bool) → (IsTrue flag ↔ EachPasses net ends class) → flag ≡ false → IsFirstKeptOut net ends classes class
first_out net ends items classes same n class at before flag is off = record {
  is_first = first_after (EachPasses net ends) items classes same n class at before;
  kept_out = λ passes. false≢true (sym off ∙ is.1 passes);
}

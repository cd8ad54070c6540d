-- The items of a list, read one after another.
use Rattle.std.proofs.Common.{◌≡◌, ℕ, zero, suc, ◌+◌, ◌<◌, List, [], ◌∷◌, ◌++◌, length, get_or, take, Option, Some, None, option_map, option_and_then, refl, ap, ◌∙◌, arith}
use Rattle.std.proofs.lemmas.Grind.{take_at_read}
use Rattle.serde_json.specs.Data.{Data}
use Rattle.serde_json.specs.View.{view, items_view}
use Rattle.serde_json.specs.declared.value.Value.{Value}
use Rattle.net_doc.specs.Members.{all_of}

-- one item more, put at the end
last_read : {T : Type 0} (first last : Option T) (rest : Option (List T)) →
    option_and_then (λ x. option_map (λ ys. x ∷ ys) (option_and_then (λ ys. option_map (λ y. ys ++ y ∷ []) last) rest)) first
    ≡ option_and_then (λ xs. option_map (λ y. xs ++ y ∷ []) last) (option_and_then (λ x. option_map (λ ys. x ∷ ys) rest) first)
last_read None last rest = refl
last_read (Some x) last None = refl
last_read (Some x) None (Some ys) = refl
last_read (Some x) (Some y) (Some ys) = refl

one_read : {T : Type 0} (last : Option T) → option_and_then (λ x. option_map (λ ys. x ∷ ys) (Some [])) last ≡ option_map (λ y. [] ++ y ∷ []) last
one_read None = refl
one_read (Some y) = refl

module _ {T : Type 0} (form : Data → Option T) where
  all_of-last : (vs : List Value) (v : Value) → all_of form (items_view (vs ++ v ∷ [])) ≡ option_and_then (λ xs. option_map (λ y. xs ++ y ∷ []) (form (view v))) (all_of form (items_view vs))
  all_of-last [] v = one_read (form (view v))
  all_of-last (u ∷ vs) v =
      ap (λ rest. option_and_then (λ x. option_map (λ ys. x ∷ ys) rest) (form (view u))) (all_of-last vs v) ∙ last_read (form (view u)) (form (view v)) (all_of form (items_view vs))

  -- the items so far, and the next
  pub all_of-next : (vs : List Value) (i : ℕ) (d : Value) (done : List T) (y : T) → i < length vs → all_of form (items_view (take i vs)) ≡ Some done → form (view (get_or vs i d)) ≡ Some y
      → all_of form (items_view (take (i + 1) vs)) ≡ Some (done ++ y ∷ [])
  all_of-next vs i d done y within before next =
      ap (λ t. all_of form (items_view t)) (take_at_read vs i d within).1 ∙ all_of-last (take i vs) (get_or vs i d)
      ∙ ap (option_and_then (λ xs. option_map (λ z. xs ++ z ∷ []) (form (view (get_or vs i d))))) before ∙ ap (option_map (λ z. done ++ z ∷ [])) next

  none_after : (first : Option T) → option_and_then (λ x. option_map (λ ys. x ∷ ys) None) first ≡ None
  none_after None = refl
  none_after (Some x) = refl

  -- one item that is nothing
  pub all_of-stop : (vs : List Value) (i : ℕ) (d : Value) → i < length vs → form (view (get_or vs i d)) ≡ None → all_of form (items_view vs) ≡ None
  all_of-stop [] i d within stop = absurd (omega arith)
  all_of-stop (v ∷ vs) zero d within stop = ap (option_and_then (λ x. option_map (λ ys. x ∷ ys) (all_of form (items_view vs)))) stop
  all_of-stop (v ∷ vs) (suc i) d within stop =
      ap (λ rest. option_and_then (λ x. option_map (λ ys. x ∷ ys) rest) (form (view v))) (all_of-stop vs i d (omega arith) stop) ∙ none_after (form (view v))

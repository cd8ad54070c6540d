-- Items with their places, one after another.
use Rattle.std.proofs.Common.{◌≡◌, ℕ, ◌+◌, ◌<◌, ◌≤◌, Option, Some, None, List, [], ◌∷◌, ◌++◌, length, get_or, take, map, sym, ◌∙◌, ap, arith}
use Rattle.std.specs.List.{filter_map, cons_option, range_with_len}
use Rattle.std.proofs.lemmas.List.{append-nil, take_all, map_more}
use Rattle.std.proofs.lemmas.List.FromFn.{length-range_with_len, get_or-range_with_len}
use Rattle.arc_base.specs.Numbered.{placed}
use Rattle.arc_base.proofs.Grouped.{picked_more}
use Rattle.edit_list.proofs.PriceSteps.{pair_at, pairs_length}

pub placed_length : {X : Type 0} (xs : List X) → length (placed xs) ≡ length xs
placed_length xs =
    let ranged : length (range_with_len 0 (length xs)) ≡ length xs = length-range_with_len 0 (length xs) in
    pairs_length (range_with_len 0 (length xs)) xs (sym ranged) ∙ ranged

pub placed_at : {X : Type 0} (xs : List X) (i : ℕ) (x : X) → i < length xs → x ≡ get_or xs i x → (i, x) ≡ get_or (placed xs) i (i, x)
placed_at xs i x within is =
    let ranged : length (range_with_len 0 (length xs)) ≡ length xs = length-range_with_len 0 (length xs) in
    let number : get_or (range_with_len 0 (length xs)) i i ≡ i = get_or-range_with_len 0 (length xs) i i within ∙ omega arith in
    (λ j. (sym number j, is j)) ∙ sym (pair_at (range_with_len 0 (length xs)) xs i i x (omega (arith, within, ranged)) within)

module _ {X Y : Type 0} (h : ℕ × X → Option Y) (xs : List X) (i : ℕ) (x : X) (within : i < length xs) (is : x ≡ get_or xs i x) where
  more : filter_map h (take (i + 1) (placed xs)) ≡ filter_map h (take i (placed xs)) ++ cons_option (h (i, x)) []
  more = picked_more h (placed xs) i (i, x) (omega (arith, within, placed_length xs)) (placed_at xs i x within is)

  pub placed_picked : (now next : List Y) (y : Y) → h (i, x) ≡ Some y → now ≡ filter_map h (take i (placed xs)) → next ≡ now ++ y ∷ [] → next ≡ filter_map h (take (i + 1) (placed xs))
  placed_picked now next y some was grown =
      grown ∙ ap (λ l. l ++ y ∷ []) was ∙ ap (λ o. filter_map h (take i (placed xs)) ++ cons_option o []) (sym some) ∙ sym more

  pub placed_not_picked : (now : List Y) → h (i, x) ≡ None → now ≡ filter_map h (take i (placed xs)) → now ≡ filter_map h (take (i + 1) (placed xs))
  placed_not_picked now none was =
      was ∙ sym (append-nil (filter_map h (take i (placed xs)))) ∙ ap (λ o. filter_map h (take i (placed xs)) ++ cons_option o []) (sym none) ∙ sym more

pub placed_all : {X Y : Type 0} (h : ℕ × X → Option Y) (xs : List X) (i : ℕ) (now : List Y) → length xs ≤ i → now ≡ filter_map h (take i (placed xs)) → now ≡ filter_map h (placed xs)
placed_all h xs i now past was = was ∙ ap (filter_map h) (take_all i (placed xs) (omega (arith, past, placed_length xs)))

-- the same where each item gives one
pub placed_mapped : {X Y : Type 0} (f : ℕ × X → Y) (xs : List X) (i : ℕ) (x : X) (now next : List Y) (y : Y) → i < length xs → x ≡ get_or xs i x →
    y ≡ f (i, x) → now ≡ map f (take i (placed xs)) → next ≡ now ++ y ∷ [] →
    next ≡ map f (take (i + 1) (placed xs))
placed_mapped f xs i x now next y within is one was grown =
    grown ∙ ap (λ l. l ++ y ∷ []) was ∙ ap (λ z. map f (take i (placed xs)) ++ z ∷ []) (one ∙ ap f (placed_at xs i x within is)) ∙
    sym (map_more f (placed xs) i (i, x) (omega (arith, within, placed_length xs)))

pub placed_all_mapped : {X Y : Type 0} (f : ℕ × X → Y) (xs : List X) (i : ℕ) (now : List Y) → length xs ≤ i → now ≡ map f (take i (placed xs)) → now ≡ map f (placed xs)
placed_all_mapped f xs i now past was = was ∙ ap (map f) (take_all i (placed xs) (omega (arith, past, placed_length xs)))

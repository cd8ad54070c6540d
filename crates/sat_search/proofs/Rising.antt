-- Places in rising lists.
use Rattle.std.proofs.Common.{◌≡◌, ℕ, ◌<◌, ◌≤◌, List, length, take, get_or, slice_get, ap, sym, ◌∙◌, arith, Some, Result, Ok, Err, AllPairs, inl, inr}
use Rattle.std.specs.Result.{result_ok}
use Rattle.std.specs.Ordering.{nat_cmp}
use Rattle.std.specs.List.Sorted.{IsBinarySearchResult}
use Rattle.std.proofs.lemmas.Bool.{cases_order}
use Rattle.std.proofs.lemmas.Option.{get_or_from_slice_get}
use Rattle.std.proofs.lemmas.List.{get_or-take, length-take-le}
use Rattle.std.proofs.lemmas.List.Sorted.{searched}

-- an element of a rising list stands at one place
pub one_place : (xs : List ℕ) (i j : ℕ) → AllPairs (λ a b. a < b) xs → i < length xs → j < length xs → get_or xs i 0 ≡ get_or xs j 0 → i ≡ j
one_place xs i j rise low high same = elim (cases_order i j) [
  | inl is ↦ is
  | inr (inl before) ↦ absurd (omega (arith, rise i j 0 before high, same))
  | inr (inr after) ↦ absurd (omega (arith, rise j i 0 after low, same))
]

rises : (xs : List ℕ) → AllPairs (λ a b. a < b) xs → (i j : ℕ) → i ≤ j → j < length xs → get_or xs i 0 ≤ get_or xs j 0
rises xs rise i j le high = elim (cases_order i j) [
  | inl is ↦ omega (arith, ap (λ (k : ℕ). get_or xs k 0) is)
  | inr (inl before) ↦ omega (arith, rise i j 0 before high)
  | inr (inr after) ↦ absurd (omega (arith, le, after))
]

-- a binary search in a rising list finds the place
pub search_finds : (xs : List ℕ) (x k : ℕ) (r : Result ℕ ℕ) → IsBinarySearchResult (λ y. nat_cmp y x) xs r → AllPairs (λ a b. a < b) xs → k < length xs → get_or xs k 0 ≡ x → result_ok r ≡ Some k
search_finds xs x k (Ok i) found rise low at =
    let s : (i < length xs) × (get_or xs i 0 ≡ x) = searched xs x (Ok i) found (rises xs rise) in
    ap (λ (n : ℕ). Some n) (one_place xs i k rise s.0 low (s.1 ∙ sym at))
search_finds xs x k (Err i) found rise low at =
    let s : (i ≤ length xs) × ((j : ℕ) → j < i → get_or xs j 0 < x) × ((j : ℕ) → i ≤ j → j < length xs → x < get_or xs j 0) = searched xs x (Err i) found (rises xs rise) in
    elim (cases_order k i) [
      | inl is ↦ absurd (omega (arith, s.2 k (omega (arith, is)) low, at))
      | inr (inl before) ↦ absurd (omega (arith, s.1 k before, at))
      | inr (inr after) ↦ absurd (omega (arith, s.2 k (omega (arith, after)) low, at))
    ]

-- the first elements of a rising list rise
pub rise_take : (n : ℕ) (xs : List ℕ) → n ≤ length xs → AllPairs (λ a b. a < b) xs → AllPairs (λ a b. a < b) (take n xs)
rise_take n xs few rise i j d before high =
    let size : length (take n xs) ≡ n = length-take-le n xs few in
    rw (get_or-take n xs i d (omega (arith, size, before, high)), get_or-take n xs j d (omega (arith, size, high))) (rise i j d before (omega (arith, size, few, high)))

pub finds_first : (xs : List ℕ) (n x k : ℕ) (r : Result ℕ ℕ) → n ≤ length xs → IsBinarySearchResult (λ y. nat_cmp y x) (take n xs) r →
    AllPairs (λ a b. a < b) xs → k < n → slice_get xs k ≡ Some x → result_ok r ≡ Some k
finds_first xs n x k r few found rise low at =
    let size : length (take n xs) ≡ n = length-take-le n xs few in
    search_finds (take n xs) x k r found (rise_take n xs few rise) (omega (arith, size, low)) (get_or-take n xs k 0 low ∙ get_or_from_slice_get xs k x 0 at)

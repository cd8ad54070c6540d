-- How many of a list cost as much as the one in its middle.
use Rattle.std.proofs.Common.{◌≡◌, ℕ, zero, suc, ◌+◌, ◌-◌, ◌/◌, ◌<◌, ◌≤◌, List, [], ◌∷◌, length, drop, get_or, refl, ap, arith}
use Rattle.std.specs.List.{sum_by}
use Rattle.std.specs.List.Sorted.{IsNonDecreasing}
use Rattle.std.proofs.lemmas.Bool.{le-leb}
use Rattle.std.proofs.lemmas.List.{get_or-drop, length-drop}
use Rattle.std.proofs.lemmas.List.Sums.{sum_by-cons}
use Rattle.sat_search.specs.Costs.{one_if, counts}

counts-le : (least cost : ℕ) → least ≤ cost → counts least cost ≡ 1
counts-le least cost le = ap one_if (le-leb least cost le)

pub all_count : (least : ℕ) (xs : List ℕ) → ((i : ℕ) → i < length xs → least ≤ get_or xs i 0) → sum_by (counts least) xs ≡ length xs
all_count least [] great = refl
all_count least (x ∷ xs) great = omega (arith, sum_by-cons (counts least) x xs, counts-le least x (great 0 (omega arith)), all_count least xs (λ i low. great (suc i) (omega (arith, low))))

drop_counts : (least : ℕ) (n : ℕ) (xs : List ℕ) → sum_by (counts least) (drop n xs) ≤ sum_by (counts least) xs
drop_counts least zero xs = omega arith
drop_counts least (suc n) [] = omega arith
drop_counts least (suc n) (x ∷ xs) =
    let rest : sum_by (counts least) (drop (suc n) (x ∷ xs)) ≡ sum_by (counts least) (drop n xs) = refl in
    omega (arith, sum_by-cons (counts least) x xs, rest, drop_counts least n xs)

-- at least half of a list that does not fall are no less than the one in its middle
pub upper_half : (xs : List ℕ) (least : ℕ) → IsNonDecreasing xs → least ≡ get_or xs (length xs / 2) 0 → length xs - length xs / 2 ≤ sum_by (counts least) xs
upper_half xs least ordered is =
    let middle = length xs / 2 in
    let size = length-drop middle xs in
    let great : (i : ℕ) → i < length (drop middle xs) → least ≤ get_or (drop middle xs) i 0 = λ i low.
    rw (get_or-drop middle xs i 0, is) (ordered middle (middle + i) 0 (omega arith) (omega (arith, low, size))) in
    omega (arith, all_count least (drop middle xs) great, size, drop_counts least middle xs)

-- Things whose numbers rise one after another.
use Rattle.std.proofs.Common.{◌≡◌, ℕ, ◌+◌, ◌-◌, ◌<◌, ◌≤◌, List, length, get_or, map, ◌∙◌, ap, arith}
use Rattle.std.specs.List.Sorted.{IsStrictlyIncreasing}
use Rattle.std.proofs.lemmas.List.{length-map, get_or-map}

pub not_rising : {X : Type 0} (things : List X) (number : X → ℕ) (i : ℕ) (d e : X) → 1 ≤ i → i < length things → number (get_or things i d) ≤ number (get_or things (i - 1) e) →
    IsStrictlyIncreasing (map number things) → ⊥
not_rising things number i d e low within below rising =
    let len : length (map number things) ≡ length things = length-map things number in
    let next : i - 1 + 1 ≡ i = omega (arith, low) in
    let rise : get_or (map number things) (i - 1) 0 < get_or (map number things) (i - 1 + 1) 0 = rising (i - 1) (omega (arith, len, next, within)) in
    let first : get_or (map number things) (i - 1) 0 ≡ number (get_or things (i - 1) e) = get_or-map number things (i - 1) e 0 (omega (arith, within)) in
    let second : get_or (map number things) (i - 1 + 1) 0 ≡ number (get_or things i d) = ap (λ n. get_or (map number things) n 0) next ∙ get_or-map number things i d 0 within in
    absurd (omega (arith, rise, first, second, below))

pub all_rising : {X : Type 0} (things : List X) (number : X → ℕ) (d : X) (n : ℕ) → length things ≤ n →
    ((k : ℕ) → k + 1 < n → (e : X) → number (get_or things k e) < number (get_or things (k + 1) e)) → IsStrictlyIncreasing (map number things)
all_rising things number d n past rises k less =
    let len : length (map number things) ≡ length things = length-map things number in
    let within : k + 1 < length things = omega (arith, len, less) in
    let first : get_or (map number things) k 0 ≡ number (get_or things k d) = get_or-map number things k d 0 (omega (arith, within)) in
    let second : get_or (map number things) (k + 1) 0 ≡ number (get_or things (k + 1) d) = get_or-map number things (k + 1) d 0 within in
    omega (arith, rises k (omega (arith, within, past)) d, first, second)

-- Where lines end.
use Rattle.std.proofs.Common.{◌≡◌, ℕ, ◌+◌, ◌-◌, ◌<◌, ◌≤◌, ◌==◌, true, List, length, length-drop, take, drop, get_or-drop, refl, sym, ap, subst, ◌∙◌, arith, slice_index}
use Rattle.std.proofs.lemmas.Bool.{eq-eqb}
use Rattle.std.proofs.lemmas.List.{take_rest}
use Rattle.ios_lines.specs.Texts.{HasNoFeed, IsLine}

-- no line feed stands in the first so many bytes of what is left
pub no_feed_from : (bytes rest : List ℕ) (from len : ℕ) → rest ≡ take (length bytes - from) (drop from bytes) →
    ((k : ℕ) → 0 ≤ k → k < len → ¬ ((slice_index rest k == 10) ≡ true)) → HasNoFeed bytes from (from + len)
no_feed_from bytes rest from len is nowhere = λ place low high feed.
    let there : place ≡ from + (place - from) = omega arith in
    let whole : rest ≡ drop from bytes = is ∙ take_rest bytes from in
    let here : slice_index rest (place - from) ≡ 10 = ap (λ xs. slice_index xs (place - from)) whole ∙ get_or-drop from bytes (place - from) 0 ∙ ap (slice_index bytes) (sym there) ∙ feed in
    nowhere (place - from) (omega arith) (omega arith) (eq-eqb _ _ here)

-- where no line feed stands in what is left, it is one line without an end
pub whole_line : (bytes rest : List ℕ) (from : ℕ) → from < length bytes → rest ≡ take (length bytes - from) (drop from bytes) →
    ((k : ℕ) → 0 ≤ k → k < length rest → ¬ ((slice_index rest k == 10) ≡ true)) → IsLine bytes from (length bytes) 0
whole_line bytes rest from some is nowhere =
    let count : length rest ≡ length bytes - from = ap length (is ∙ take_rest bytes from) ∙ omega (arith, length-drop from bytes) in
    let free = no_feed_from bytes rest from (length rest) is nowhere in
    let stop : from + length rest ≡ length bytes = omega arith in
    record { ordered = omega arith; no_feed = subst (HasNoFeed bytes from) stop free; ending = (refl, some) }

-- Parts of a text.
use Rattle.std.proofs.Common.{◌≡◌, ℕ, ◌+◌, ◌-◌, ◌<◌, ◌≤◌, List, ◌++◌, length, length-drop, length-take-le, take, drop, get_or-take, get_or-drop, ap, ◌∙◌, arith, slice_index, slice_range}
use Rattle.std.proofs.Math.Seq.{take-add}
use Rattle.std.proofs.lemmas.List.{drop-drop}

-- a byte of a part
pub slice-at : (text : List ℕ) (from to k : ℕ) → k < to - from → slice_index (slice_range text from to) k ≡ slice_index text (from + k)
slice-at text from to k low = get_or-take (to - from) (drop from text) k 0 low ∙ get_or-drop from text k 0

-- how many bytes a part has
pub length-slice_range : (text : List ℕ) (from to : ℕ) → to ≤ length text → length (slice_range text from to) ≡ to - from
length-slice_range text from to within = length-take-le (to - from) (drop from text) (omega (arith, length-drop from text))

-- a part in two
pub slice-cut : (text : List ℕ) (from mid to : ℕ) → from ≤ mid → mid ≤ to → slice_range text from to ≡ slice_range text from mid ++ slice_range text mid to
slice-cut text from mid to low high =
    let whole : to - from ≡ (mid - from) + (to - mid) = omega arith in
    let there : from + (mid - from) ≡ mid = omega arith in
    ap (λ n. take n (drop from text)) whole ∙ take-add (mid - from) (to - mid) (drop from text)
    ∙ ap (λ rest. slice_range text from mid ++ take (to - mid) rest) (drop-drop (mid - from) from text ∙ ap (λ n. drop n text) there)

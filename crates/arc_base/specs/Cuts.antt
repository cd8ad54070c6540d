-- Texts that a separator cuts in two.
use Rattle.std.specs.Prelude.{ℕ, ◌+◌, ◌==◌, List, take, drop, position, Option, option_map}

-- the parts of the text before and after the first of these bytes, where there is one
abbrev pub cut_at : ℕ → List ℕ → Option (List ℕ × List ℕ)
cut_at byte text =
    option_map (λ place. (take place text, drop (place + 1) text)) (position (λ b. b == byte) text)

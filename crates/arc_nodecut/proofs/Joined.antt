-- A text that is appended piece by piece.
use Rattle.std.proofs.Common.{◌≡◌, ℕ, List, ◌++◌, ◌∙◌, ap}

-- four pieces, one after another
pub four_joined : (a b c d one two three four : List ℕ) → one ≡ a → two ≡ one ++ b → three ≡ two ++ c → four ≡ three ++ d → four ≡ ((a ++ b) ++ c) ++ d
four_joined a b c d one two three four p q r s =
    s ∙ ap (λ (t : List ℕ). t ++ d) (r ∙ ap (λ (t : List ℕ). t ++ c) (q ∙ ap (λ (t : List ℕ). t ++ b) p))

-- Words put after one another.
use Rattle.std.proofs.Common.{◌≡◌, ℕ, List, [], ◌∷◌, ◌++◌, refl, sym, ap, ◌∙◌, append_assoc}
use Rattle.ios_lines.specs.Written.{spaced}

pub spaced-append : (xs ys : List (List ℕ)) → spaced (xs ++ ys) ≡ spaced xs ++ spaced ys
spaced-append [] ys = refl
spaced-append (x ∷ xs) ys = ap (λ rest. (32 ∷ x) ++ rest) (spaced-append xs ys) ∙ sym (append_assoc (32 ∷ x) (spaced xs) (spaced ys))

-- words that were put after a text, and others after them
pub more : (t u v : List ℕ) (xs ys : List (List ℕ)) → u ≡ t ++ spaced xs → v ≡ u ++ spaced ys → v ≡ t ++ spaced (xs ++ ys)
more t u v xs ys one two = two ∙ ap (λ w. w ++ spaced ys) one ∙ append_assoc t (spaced xs) (spaced ys) ∙ ap (λ w. t ++ w) (sym (spaced-append xs ys))

-- words after those of a top line
pub top-and : (t u v first : List ℕ) (xs ys : List (List ℕ)) → u ≡ t ++ (first ++ spaced xs) → v ≡ u ++ spaced ys → v ≡ t ++ (first ++ spaced (xs ++ ys))
top-and t u v first xs ys one two =
    two ∙ ap (λ w. w ++ spaced ys) one ∙ append_assoc t (first ++ spaced xs) (spaced ys)
    ∙ ap (λ w. t ++ w) (append_assoc first (spaced xs) (spaced ys) ∙ ap (λ w. first ++ w) (sym (spaced-append xs ys)))

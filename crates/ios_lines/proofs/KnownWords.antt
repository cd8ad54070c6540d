-- Words that are none of the known ones.
use Rattle.std.proofs.Common.{◌≡◌, ℕ, Bool, false, ◌&&◌, ◌||◌, eqb, List, [], ◌∷◌, refl, sym, ap, subst, ◌∙◌, ⊎_elim}
use Rattle.std.proofs.lemmas.Bool.{cases_eq, eq-eqb, ne_eqb}
use Rattle.std.specs.Str.{bytes_eq}

-- a test of two that fails, and no other that passes
pub or_false : (x y z : Bool) → x ≡ false → z ≡ false → ((x && y) || z) ≡ false
or_false x y z no-x no-z = subst (λ v. ((v && y) || z) ≡ false) (sym no-x) no-z

eqb-flip : (x y : ℕ) → eqb x y ≡ eqb y x
eqb-flip x y = ⊎_elim (λ e. eq-eqb x y e ∙ sym (eq-eqb y x (sym e))) (λ other. ne_eqb x y other ∙ sym (ne_eqb y x (λ e. other (sym e)))) (cases_eq x y)

bytes_eq-flip : (a b : List ℕ) → bytes_eq a b ≡ bytes_eq b a
bytes_eq-flip [] [] = refl
bytes_eq-flip [] (y ∷ b) = refl
bytes_eq-flip (x ∷ a) [] = refl
bytes_eq-flip (x ∷ a) (y ∷ b) = ap (λ v. v && bytes_eq a b) (eqb-flip x y) ∙ ap (λ v. eqb y x && v) (bytes_eq-flip a b)

-- a word that is not this one
pub other_word : (word known : List ℕ) → false ≡ bytes_eq word known → bytes_eq known word ≡ false
other_word word known other = bytes_eq-flip known word ∙ sym other

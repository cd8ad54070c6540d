-- What holds at each place of a list, as the list grows.
use Rattle.std.proofs.Common.{◌≡◌, ℕ, zero, suc, ◌+◌, Some, List, [], ◌∷◌, ◌++◌, length, ap, subst, ◌∙◌, arith}
use Rattle.std.specs.Prelude.{slice_get, unwrap_or, is_some}
use Rattle.std.proofs.lemmas.Bool.{false≢true}
use Rattle.std.proofs.lemmas.List.{length-append}

added : {X : Type 0} (P : ℕ → X → Type 0) (xs : List X) (x : X) → ((k : ℕ) (y : X) → slice_get xs k ≡ Some y → P k y) → P (length xs) x →
    (k : ℕ) (y : X) → slice_get (xs ++ (x ∷ [])) k ≡ Some y → P k y
added P [] x each last zero y e = subst (P 0) (ap (λ o. unwrap_or o x) e) last
added P [] x each last (suc k) y e = absurd (false≢true (ap is_some e))
added P (z ∷ xs) x each last zero y e = each zero y e
added P (z ∷ xs) x each last (suc k) y e = added (λ n. P (suc n)) xs x (λ n w f. each (suc n) w f) last k y e

-- the same where the grown list and the place of the new item are named
pub holds_of_more : {X : Type 0} (P : ℕ → X → Type 0) (xs ys : List X) (x : X) (n : ℕ) → ys ≡ xs ++ (x ∷ []) → length xs ≡ n →
    ((k : ℕ) (y : X) → slice_get xs k ≡ Some y → P k y) → P n x → (k : ℕ) (y : X) → slice_get ys k ≡ Some y → P k y
holds_of_more P xs ys x n grown size each last k y e =
    added P xs x each (subst (λ m. P m x) (omega (arith, size)) last) k y (subst (λ zs. slice_get zs k ≡ Some y) grown e)

pub one_longer : {X : Type 0} (xs ys : List X) (x : X) (n : ℕ) → ys ≡ xs ++ (x ∷ []) → length xs ≡ n → length ys ≡ n + 1
one_longer xs ys x n grown size = ap length grown ∙ length-append xs (x ∷ []) ∙ omega (arith, size)

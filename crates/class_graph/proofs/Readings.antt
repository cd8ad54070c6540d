-- What a read of a list says.
use Rattle.std.proofs.Common.{◌≡◌, ℕ, Some, List, sym, ◌∙◌, subst}
use Rattle.std.specs.Prelude.{slice_get}
use Rattle.std.proofs.lemmas.Option.{same_Some}

-- a place holds one item
pub one_item : {X : Type 0} (xs : List X) (i j : ℕ) (x y : X) → i ≡ j → slice_get xs i ≡ Some x → slice_get xs j ≡ Some y → x ≡ y
one_item {X} xs i j x y same at_i at_j = same_Some x y (sym (subst (λ (k : ℕ). slice_get xs k ≡ Some x) same at_i) ∙ at_j)

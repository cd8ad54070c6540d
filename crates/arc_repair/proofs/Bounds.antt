-- A kept bound, as the encoder and the descent define it.
use Rattle.std.proofs.Common.{◌≡◌, ℕ, Bool, not, Option, Some, None, List, refl, sym, ◌∙◌, ap, IsTrue}
use Rattle.std.specs.Prelude.{IfSome, IsFalse, slice_get}
use Rattle.std.proofs.lemmas.Bool.{not-true}
use Rattle.std.proofs.lemmas.Option.{same_Some}
use Rattle.cnf_types.specs.declared.literal.Lit.{Lit}
use Rattle.cnf_types.specs.Formulas.{value}
use Rattle.cnf_types.specs.Literals.{negated}
use Rattle.condition_formula.specs.Laws as encoded
use Rattle.price_descent.specs.Prices as priced
use Rattle.proof_check.proofs.Soundness.{value-negated}

module _ (assignment : ℕ → Bool) where
  from_false : (o : Option Lit) → ((top : Lit) → o ≡ Some top → IsFalse (value assignment top)) → IfSome o (λ top. IsTrue (value assignment (negated top)))
  from_false None each = tt
  from_false (Some top) each = value-negated assignment top ∙ ap not (each top refl)

  to_false : (o : Option Lit) → IfSome o (λ top. IsTrue (value assignment (negated top))) → (top : Lit) → o ≡ Some top → IsFalse (value assignment top)
  to_false None h top e = absurd (none_some top e)
    where
      none_some : (top : Lit) → None ≡ Some top → ⊥
      none_some top e = cc
  to_false (Some l) h top e = ap (value assignment) (sym (same_Some l top e)) ∙ not-true (value assignment l) (sym (value-negated assignment l) ∙ h)

  pub to_encoded : (tops : List Lit) (bound : ℕ) → priced.KeepsBound assignment tops bound → encoded.KeepsBound assignment tops bound
  to_encoded tops bound keeps = from_false (slice_get tops bound) keeps

  pub to_priced : (tops : List Lit) (bound : ℕ) → encoded.KeepsBound assignment tops bound → priced.KeepsBound assignment tops bound
  to_priced tops bound keeps = to_false (slice_get tops bound) keeps

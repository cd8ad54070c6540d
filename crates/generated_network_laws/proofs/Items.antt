-- Items of lists that have a property, and lists that go together.
use Rattle.std.proofs.Common.{inl, inr, List, [], ◌∷◌, sym, subst, Contains}
use Rattle.std.specs.Prelude.{Any}
use Rattle.arc_base.proofs.Items as items

pub of-any : {X : Type 0} (P : X → Type 0) (xs : List X) → Any P xs → (x : X) × Contains xs x × P x
of-any P xs (k, x, l, e, p) = (x, (k, l, e), p)

pub any-of : {X : Type 0} (P : X → Type 0) (xs : List X) (x : X) → Contains xs x → P x → Any P xs
any-of P xs x (k, l, e) p = (k, x, l, e, p)

pub none : {X : Type 0} (P : X → Type 0) → ¬ Any P []
none P any = items.Contains-none (of-any P [] any).0 (of-any P [] any).1

pub only : {X : Type 0} (P : X → Type 0) (x : X) → Any P (x ∷ []) → P x
only P x any =
    let one = of-any P (x ∷ []) any in
    elim (items.Contains-cases x one.0 [] one.1) [
      | inl here ↦ subst P (sym here) one.2
      | inr later ↦ absurd (items.Contains-none one.0 later)
    ]

-- Ways to tell the same answer.
use Rattle.std.proofs.Common.{◌≡◌, ◌↔◌, Bool, true, false, not, IsTrue, Option, Some, List, [], ◌∷◌, refl, sym, ◌∙◌, subst}
use Rattle.std.specs.Prelude.{Contains, IsSomeAnd}
use Rattle.std.proofs.lemmas.Bool.{false≢true}
use Rattle.arc_base.proofs.Items.{Contains-head, Contains-none}
use Rattle.arc_base.specs.Numbered.{is_empty}

-- a list that is not empty has an item
pub some_item : {X : Type 0} (xs : List X) → is_empty xs ≡ false → (x : X) × Contains xs x
some_item [] e = absurd (false≢true (sym e))
some_item (x ∷ xs) e = (x, Contains-head x xs)

pub no_item : {X : Type 0} (xs : List X) → is_empty xs ≡ true → (x : X) → Contains xs x → ⊥
no_item [] e x m = Contains-none x m
no_item (y ∷ xs) e x m = false≢true e

-- the same answer, told in two ways
pub told_by : (b c : Bool) → b ≡ c → IsTrue b ↔ IsTrue c
told_by b c e = (λ h. sym e ∙ h, λ h. e ∙ h)

-- the opposite answer
pub turned_by : (b c : Bool) → b ≡ not c → IsTrue b ↔ (¬ IsTrue c)
turned_by b true e = (λ h. absurd (false≢true (sym e ∙ h)), λ none. absurd (none refl))
turned_by b false e = (λ h t. false≢true t, λ none. e)

-- what is not so, told in two ways
pub denied_by : {P Q : Type 0} → (P ↔ Q) → (¬ P) ↔ (¬ Q)
denied_by f = (λ none q. none (f.1 q), λ none p. none (f.0 p))

pub at_some : {X : Type 0} (P : X → Type 0) (o : Option X) (x : X) → o ≡ Some x → IsSomeAnd o P ↔ P x
at_some {X} P o x e = (λ h. subst (λ (p : Option X). IsSomeAnd p P) e h, λ h. subst (λ (p : Option X). IsSomeAnd p P) (sym e) h)

pub both_by : {P Q R : Type 0} → (P ↔ Q) → (Q ↔ R) → (P ↔ R)
both_by f g = (λ h. g.0 (f.0 h), λ h. f.1 (g.1 h))

pub other_way : {P Q : Type 0} → (P ↔ Q) → (Q ↔ P)
other_way f = (f.1, f.0)

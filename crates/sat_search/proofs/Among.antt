-- Literals of a list, as a test and as a member.
use Rattle.std.proofs.Common.{◌≡◌, ◌≢◌, ℕ, zero, suc, ◌<◌, Bool, true, false, ◌||◌, IsTrue, ◌⊎◌, inl, inr, List, [], ◌∷◌, ◌++◌, length, get_or, All, Contains, refl, ap, sym, ◌∙◌, arith}
use Rattle.std.specs.Prelude.{AllPairs}
use Rattle.std.proofs.lemmas.Bool.{or_cases, or_left, or_right, false≢true}
use Rattle.std.proofs.lemmas.List.Elements.{All-contains}
use Rattle.std.proofs.lemmas.List.Quantifiers.{all_pairs_push}
use Rattle.cnf_types.specs.declared.literal.Lit.{Lit}
use Rattle.cnf_types.specs.Literals.{variable}
use Rattle.proof_check.specs.Propagation.{same, is_among}
use Rattle.sat_search.proofs.Literals.{same-eq, eq-same}

-- tests that hold of each other are one
pub same_test : (a b : Bool) → (IsTrue a → IsTrue b) → (IsTrue b → IsTrue a) → a ≡ b
same_test true b to from = sym (to refl)
same_test false true to from = from refl
same_test false false to from = refl

pub contains_among : (lits : List Lit) (m : Lit) → IsTrue (is_among lits m) → Contains lits m
contains_among [] m h = absurd (false≢true h)
contains_among (l ∷ ls) m h = elim (or_cases (same l m) (is_among ls m) h) [
  | inl here ↦ (0, omega arith, same-eq l m here)
  | inr there ↦ let rest = contains_among ls m there in (suc rest.0, omega (arith, rest.1), rest.2)
]

pub among_at : (lits : List Lit) (k : ℕ) (d m : Lit) → k < length lits → get_or lits k d ≡ m → IsTrue (is_among lits m)
among_at [] k d m low is = absurd (omega arith)
among_at (l ∷ ls) zero d m low is = or_left (same l m) (is_among ls m) (eq-same l m is)
among_at (l ∷ ls) (suc k) d m low is = or_right (same l m) (is_among ls m) (among_at ls k d m (omega arith) is)

pub among_contains : (lits : List Lit) (m : Lit) → Contains lits m → IsTrue (is_among lits m)
among_contains lits m h = among_at lits h.0 m m h.1 h.2

-- what holds of all literals of a list
pub all_among : (P : Lit → Type 0) (lits : List Lit) (m : Lit) → All P lits → IsTrue (is_among lits m) → P m
all_among P lits m all h = All-contains P lits m all (contains_among lits m h)

-- one literal more
pub among_push : (lits : List Lit) (l m : Lit) → is_among (lits ++ l ∷ []) m ≡ (is_among lits m || same l m)
among_push [] l m = same_test (same l m || false) (same l m) (λ h. elim (or_cases (same l m) false h) [ inl e ↦ e | inr e ↦ absurd (false≢true e) ]) (λ h. or_left (same l m) false h)
among_push (k ∷ ks) l m = ap (λ b. same k m || b) (among_push ks l m) ∙ or_assoc (same k m) (is_among ks m) (same l m)
  where
    or_assoc : (a b c : Bool) → (a || (b || c)) ≡ ((a || b) || c)
    or_assoc true b c = refl
    or_assoc false b c = refl

pub among_push_cases : (lits : List Lit) (l m : Lit) → IsTrue (is_among (lits ++ l ∷ []) m) → IsTrue (is_among lits m) ⊎ (m ≡ l)
among_push_cases lits l m h = elim (or_cases (is_among lits m) (same l m) (sym (among_push lits l m) ∙ h)) [
  | inl old ↦ inl old
  | inr new ↦ inr (sym (same-eq l m new))
]

pub among_push_old : (lits : List Lit) (l m : Lit) → IsTrue (is_among lits m) → IsTrue (is_among (lits ++ l ∷ []) m)
among_push_old lits l m h = among_push lits l m ∙ or_left (is_among lits m) (same l m) h

pub among_push_new : (lits : List Lit) (l : Lit) → IsTrue (is_among (lits ++ l ∷ []) l)
among_push_new lits l = among_push lits l l ∙ or_right (is_among lits l) (same l l) (eq-same l l refl)

-- a variable that no literal of the list has
pub apart_push : (lits : List Lit) (l : Lit) → AllPairs (λ m n. variable m ≢ variable n) lits →
    ((m : Lit) → IsTrue (is_among lits m) → variable m ≢ variable l) → AllPairs (λ m n. variable m ≢ variable n) (lits ++ l ∷ [])
apart_push lits l apart new = all_pairs_push (λ m n. variable m ≢ variable n) lits l apart (λ k d low. new (get_or lits k d) (among_at lits k d (get_or lits k d) low refl))

-- The values that a trail at rest gives all variables are a model.
use Rattle.std.proofs.Common.{◌≡◌, ℕ, ◌≤◌, Bool, true, false, ◌||◌, not, cond, IsTrue, ◌⊎◌, inl, inr, List, [], ◌∷◌, length, get_or, All, refl, ap, sym, ◌∙◌, subst, arith}
use Rattle.std.proofs.lemmas.Bool.{or_cases, both_ways}
use Rattle.std.proofs.lemmas.List.Elements.{All-head, All-tail}
use Rattle.cnf_types.specs.declared.literal.Lit.{Lit}
use Rattle.cnf_types.specs.Literals.{literal, negated, variable, is_positive}
use Rattle.cnf_types.specs.Formulas.{value, clause_value, value_at}
use Rattle.sat_core.specs.Trails.{IsOf, IsUnset, is_on}
use Rattle.sat_core.specs.Rest.{IsAtRest}
use Rattle.sat_core.specs.States.{State, IsSound}
use Rattle.sat_core.specs.Laws.{value_by, RestingTrailsSatisfy}
use Rattle.sat_search.specs.Orders.{is_set}
use Rattle.sat_search.specs.Searches.{IsModelOf}
use Rattle.sat_search.proofs.Literals.{one_variable}

-- assignments that agree on the variables of a clause give it one value
value-same : (a b : ℕ → Bool) (l : Lit) → a (variable l) ≡ b (variable l) → value a l ≡ value b l
value-same a b l e = ap (λ (x : Bool). cond (is_positive l) x (not x)) e

pub clause_same : (a b : ℕ → Bool) (vars : ℕ) (lits : List Lit) → All (IsOf vars) lits → ((v : ℕ) → 1 ≤ v → v ≤ vars → a v ≡ b v) → clause_value a lits ≡ clause_value b lits
clause_same a b vars [] range agree = refl
clause_same a b vars (l ∷ ls) range agree =
    let here = All-head (IsOf vars) l ls range in
    ap (λ (x : Bool). x || clause_value a ls) (value-same a b l (agree (variable l) here.least here.most))
    ∙ ap (λ (x : Bool). value b l || x) (clause_same a b vars ls (All-tail (IsOf vars) l ls range) agree)

-- a variable that is set has no unset literal
pub variable-of : (v : ℕ) (b : Bool) → variable (literal v b) ≡ v
variable-of v true = omega arith
variable-of v false = omega arith

negated-literal : (v : ℕ) (b : Bool) → (l : Lit) → variable l ≡ v → (literal v b ≡ l) ⊎ (literal v b ≡ negated l)
negated-literal v b l e = one_variable (literal v b) l (variable-of v b ∙ sym e)

set-literal : (s : State) (l : Lit) (b : Bool) → IsTrue (is_on s.trail (literal (variable l) b)) → IsUnset (is_on s.trail) l → ⊥
set-literal s l b on unset = elim (negated-literal (variable l) b l refl) [
  | inl is ↦ both_ways (is_on s.trail l) unset.not_true (subst (λ (m : Lit). IsTrue (is_on s.trail m)) is on)
  | inr is ↦ both_ways (is_on s.trail (negated l)) unset.not_false (subst (λ (m : Lit). IsTrue (is_on s.trail m)) is on)
]

none-unset : (s : State) (l : Lit) → IsTrue (is_set s.trail (variable l)) → IsUnset (is_on s.trail) l → ⊥
none-unset s l set unset = elim (or_cases (is_on s.trail (literal (variable l) true)) (is_on s.trail (literal (variable l) false)) set) [
  | inl on ↦ set-literal s l true on unset
  | inr off ↦ set-literal s l false off unset
]

-- so the values are a model
pub values_model : (s : State) (values : List Bool) → RestingTrailsSatisfy → IsSound s → IsAtRest s.clauses (is_on s.trail) → ((v : ℕ) → 1 ≤ v → v ≤ s.vars → IsTrue (is_set s.trail v)) →
    length values ≡ s.vars → ((v : ℕ) → 1 ≤ v → v ≤ s.vars → value_at values v ≡ is_on s.trail (literal v true)) → IsModelOf s values
values_model s values law sound rest set size agree = record {
  size = size;
  satisfied = λ k d low. clause_same (value_at values) (value_by s.trail) s.vars (get_or s.clauses k d).lits (sound.range k d low) agree
      ∙ law s sound rest (λ l range unset. none-unset s l (set (variable l) range.least range.most) unset) k d low;
}

-- The literals of the formula are over its variables.
use Rattle.std.proofs.Common.{◌≡◌, ℕ, zero, suc, ◌+◌, ◌-◌, ◌*◌, ◌<◌, ◌≤◌, ◌/◌, Bool, true, false, List, [], ◌∷◌, ◌++◌}
use Rattle.std.proofs.Common.{length, map, All, Contains, inl, inr, ◌⊎◌, refl, sym, ap, subst, arith, Some, None, Option, sum_by, fold, filter_map}
use Rattle.std.specs.Prelude.{◌==◌, if◌then◌else◌}
use Rattle.std.specs.List.{list_any, cons_option}
use Rattle.std.proofs.lemmas.Bool.{cond-false, false≢true}
use Rattle.std.proofs.lemmas.List.Sums.{sum_by-cons}
use Rattle.std.proofs.lemmas.List.Elements.{All-head, All-tail, Contains-append_cases}
use Rattle.arc_base.proofs.Items.{Contains-head, Contains-tail, Contains-cases, Contains-none, from_map, All-from}
use Rattle.cnf_types.specs.declared.literal.Lit.{Lit}
use Rattle.cnf_types.specs.declared.clauses.Clause.{Clause}
use Rattle.cnf_types.specs.Literals.{literal, variable}
use Rattle.condition_formula.specs.declared.part.Part.{Part}
use Rattle.condition_formula.specs.declared.part.Part.TheVariants.{Fixed, Literal}
use Rattle.condition_formula.specs.declared.network.ConditionNet.{ConditionNet}
use Rattle.condition_formula.specs.declared.network.Question.{Question}
use Rattle.condition_formula.specs.declared.network.Demand.{Demand}
use Rattle.condition_formula.specs.declared.network.Demand.TheVariants.{Blocked, Through, Reach}
use Rattle.condition_formula.specs.Lists.{upto}
use Rattle.condition_formula.specs.Conditions.{IsSound}
use Rattle.condition_formula.specs.Clauses.{edit_variable, part_literal, with_new, distinct_lits, is_fixed_true, written, written_clauses}
use Rattle.condition_formula.specs.Formulas.{cell, demand_parts, demand_size, question_size, questions_parts, first_price, all_parts, variable_count}
use Rattle.condition_formula.specs.Prices.{price_parts}
use Rattle.condition_formula.specs.Laws.{IsSoundNet, IsVariableOf, FormulasAreOverVariables}
use Rattle.condition_formula.proofs.Places.{below}
use Rattle.condition_formula.proofs.Uses.{AllUse, kept_off-uses, reached-uses, prices-use}
use Rattle.condition_formula.proofs.Joined.{in_table}

-- the variables of a question are consecutive, from its first on
demand-uses : (P : ℕ → Type 0) (nodes links edits first : ℕ) (q : Question) (d : Demand) → IsSound nodes links edits q → ((edit : ℕ) → edit < edits → P (edit_variable edit)) →
    ((k : ℕ) → k < demand_size q nodes d → P (first + k)) → AllUse P (demand_parts q nodes links first d)
demand-uses P nodes links edits first q Blocked sound of_edit own =
    kept_off-uses P nodes links edits q sound of_edit (cell first nodes) (λ class node l m. own (class * nodes + node) (in_table (length q.classes) nodes class node l m))
demand-uses P nodes links edits first q Through sound of_edit own =
    kept_off-uses P nodes links edits q sound of_edit (cell first nodes) (λ class node l m. own (class * nodes + node) (in_table (length q.classes) nodes class node l m))
demand-uses P nodes links edits first q (Reach many) sound of_edit own =
    let n = length q.arcs in
    reached-uses P nodes links edits q sound of_edit many (cell first n) (λ f family place l m.
    own (family * n + place) (subst (λ (k : ℕ). family * n + place < k) (sym (cond-false (q.source == q.target) 0 (many * n) f)) (in_table many n family place l m)))

questions-use : (P : ℕ → Type 0) (nodes links edits first : ℕ) (qs : List Question) → All (IsSound nodes links edits) qs → ((edit : ℕ) → edit < edits → P (edit_variable edit)) →
    ((v : ℕ) → first ≤ v → v < first + sum_by (question_size nodes) qs → P v) → AllUse P (questions_parts nodes links first qs)
questions-use P nodes links edits first [] sound of_edit own clause m = absurd (Contains-none clause m)
questions-use P nodes links edits first (q ∷ qs) sound of_edit own clause m =
    let size = question_size nodes q in
    let sum : sum_by (question_size nodes) (q ∷ qs) ≡ size + sum_by (question_size nodes) qs = sum_by-cons (question_size nodes) q qs in
    elim (Contains-append_cases (demand_parts q nodes links first q.demand) (questions_parts nodes links (first + size) qs) clause m) [
      | inl one ↦ demand-uses P nodes links edits first q q.demand (All-head (IsSound nodes links edits) q qs sound) of_edit (λ k l. own (first + k) (omega arith) (omega (arith, sum, l))) clause one
      | inr rest ↦ questions-use P nodes links edits (first + size) qs (All-tail (IsSound nodes links edits) q qs sound) of_edit (λ v l k. own v (omega arith) (omega (arith, sum, k))) clause rest
    ]

-- the variable is one of the first `n`
abbrev Within : ℕ → ℕ → Type 0
Within vars v = (1 ≤ v) × (v ≤ vars)

price-within : (n sizes bound edit number : ℕ) → edit < n → number ≤ bound → Within (n + sizes + n * (bound + 1)) (n + 1 + sizes + (edit * (bound + 1) + number))
price-within n sizes bound edit number l m =
    let in_row : edit * (bound + 1) + number < n * (bound + 1) = in_table n (bound + 1) edit number l (omega arith) in
    (omega arith, omega arith)

all-within : (net : ConditionNet) (most : ℕ) → IsSoundNet net → AllUse (Within (variable_count net most)) (all_parts net most)
all-within net most sound clause m =
    let n = length net.weights in
    let sizes = sum_by (question_size net.nodes) net.questions in
    let vars = variable_count net most in
    let of_edit : (edit : ℕ) → edit < n → Within vars (edit_variable edit) = λ edit l. (omega arith, omega arith) in
    elim (Contains-append_cases (questions_parts net.nodes net.links (n + 1) net.questions) (price_parts net.weights most (cell (first_price net) (most + 1))) clause m) [
      | inl q ↦ questions-use (Within vars) net.nodes net.links n (n + 1) net.questions sound of_edit (λ v l k. (omega arith, omega arith)) clause q
      | inr p ↦ prices-use (Within vars) net.weights most (cell (first_price net) (most + 1)) of_edit (λ edit number l k. price-within n sizes most edit number l k) clause p
    ]

-- a literal that is written comes from a part
literal-from : (parts : List Part) (lit : Lit) → Contains (filter_map part_literal parts) lit → (v : ℕ) × (p : Bool) × Contains parts (Literal v p) × (literal v p ≡ lit)
literal-from [] lit m = absurd (Contains-none lit m)
literal-from (Fixed b ∷ parts) lit m = let r = literal-from parts lit m in (r.0, r.1, Contains-tail (Fixed b) (Literal r.0 r.1) parts r.2, r.3)
literal-from (Literal v p ∷ parts) lit m =
    elim (Contains-cases (literal v p) lit (filter_map part_literal parts) m) [
      | inl e ↦ (v, p, Contains-head (Literal v p) parts, e)
      | inr later ↦ let r = literal-from parts lit later in (r.0, r.1, Contains-tail (Literal v p) (Literal r.0 r.1) parts r.2, r.3)
    ]

grown-cases : (lits : List Lit) (one lit : Lit) (b : Bool) → Contains (if b then lits else lits ++ one ∷ []) lit → Contains lits lit ⊎ (one ≡ lit)
grown-cases lits one lit true m = inl m
grown-cases lits one lit false m =
    elim (Contains-append_cases lits (one ∷ []) lit m) [
      | inl l ↦ inl l
      | inr r ↦ elim (Contains-cases one lit [] r) [ inl e ↦ inr e | inr none ↦ absurd (Contains-none lit none) ]
    ]

fold-from : (front lits : List Lit) (lit : Lit) → Contains (fold with_new front lits) lit → Contains front lit ⊎ Contains lits lit
fold-from front [] lit m = inl m
fold-from front (l ∷ lits) lit m =
    elim (fold-from (with_new front l) lits lit m) [
      | inl g ↦ elim (grown-cases front l lit (list_any (λ (x : Lit). x.code == l.code) front) g) [
        | inl f ↦ inl f
        | inr e ↦ inr (subst (λ (x : Lit). Contains (l ∷ lits) x) e (Contains-head l lits))
      ]
      | inr later ↦ inr (Contains-tail l lit lits later)
    ]

distinct-from : (lits : List Lit) (lit : Lit) → Contains (distinct_lits lits) lit → Contains lits lit
distinct-from lits lit m = elim (fold-from [] lits lit m) [ inl none ↦ absurd (Contains-none lit none) | inr l ↦ l ]

variable-literal : (v : ℕ) (p : Bool) → variable (literal v p) ≡ v
variable-literal v true = let e : (2 * v) / 2 ≡ v = omega arith in e
variable-literal v false = let e : (2 * v + 1) / 2 ≡ v = omega arith in e

literal-within : (vars v : ℕ) (p : Bool) → Within vars v → IsVariableOf vars (literal v p)
literal-within vars v p w = record {
  least = subst (λ (n : ℕ). 1 ≤ n) (sym (variable-literal v p)) w.0;
  most = subst (λ (n : ℕ). n ≤ vars) (sym (variable-literal v p)) w.1;
}

abbrev clause_of : List Lit → Clause
clause_of lits = record { lits = lits }

abbrev written_if : Bool → List Part → Option (List Lit)
written_if b parts = if b then None else Some (distinct_lits (filter_map part_literal parts))

-- a written clause comes from the parts of some clause
onto-cases : (parts : List Part) (rest : List (List Lit)) (b : Bool) (c : Clause) → Contains (map clause_of (cons_option (written_if b parts) rest)) c →
    (clause_of (distinct_lits (filter_map part_literal parts)) ≡ c) ⊎ Contains (map clause_of rest) c
onto-cases parts rest true c m = inr m
onto-cases parts rest false c m = Contains-cases (clause_of (distinct_lits (filter_map part_literal parts))) c (map clause_of rest) m

written-from : (clauses : List (List Part)) (c : Clause) → Contains (written_clauses clauses) c → (parts : List Part) × Contains clauses parts ×
    (distinct_lits (filter_map part_literal parts) ≡ c.lits)
written-from [] c m = absurd (Contains-none c m)
written-from (parts ∷ clauses) c m =
    elim (onto-cases parts (filter_map written clauses) (list_any is_fixed_true parts) c m) [
      | inl e ↦ (parts, Contains-head parts clauses, ap (λ (x : Clause). x.lits) e)
      | inr later ↦ let r = written-from clauses c later in (r.0, Contains-tail parts r.0 clauses r.1, r.2)
    ]

positive : (n : ℕ) → (n == 0) ≡ false → 0 < n
positive zero e = absurd (false≢true (sym e))
positive (suc n) e = omega arith

top-within : (net : ConditionNet) (most : ℕ) (b : Bool) → (length net.weights == 0) ≡ b →
    All (IsVariableOf (variable_count net most)) (if b then [] else map (λ (number : ℕ). literal (cell (first_price net) (most + 1) (length net.weights - 1) number) true) (upto (most + 1)))
top-within net most true e = λ k d l. absurd (omega arith)
top-within net most false e =
    let n = length net.weights in
    let sizes = sum_by (question_size net.nodes) net.questions in
    let top = λ (number : ℕ). literal (cell (first_price net) (most + 1) (n - 1) number) true in
    let some : 0 < n = positive n e in
    All-from (IsVariableOf (variable_count net most)) (map top (upto (most + 1))) (λ lit m.
    let r = from_map top (upto (most + 1)) lit m in
    let b : r.0 < most + 1 = below (most + 1) r.0 r.1 in
    subst (λ (l : Lit). IsVariableOf (variable_count net most) l) r.2
    (literal-within (variable_count net most) (cell (first_price net) (most + 1) (n - 1) r.0) true (price-within n sizes most (n - 1) r.0 (omega arith) (omega arith))))

pub formulas_are_over_variables : FormulasAreOverVariables
formulas_are_over_variables net most sound = record {
  clauses = All-from (λ (c : Clause). All (IsVariableOf (variable_count net most)) c.lits) (written_clauses (all_parts net most)) (λ c m.
      let w = written-from (all_parts net most) c m in
      All-from (IsVariableOf (variable_count net most)) c.lits (λ lit n.
      let in_lits : Contains (distinct_lits (filter_map part_literal w.0)) lit = subst (λ (ls : List Lit). Contains ls lit) (sym w.2) n in
      let r = literal-from w.0 lit (distinct-from (filter_map part_literal w.0) lit in_lits) in
      let inside : Within (variable_count net most) r.0 = all-within net most sound w.0 w.1 (Literal r.0 r.1) r.2 in
      subst (λ (l : Lit). IsVariableOf (variable_count net most) l) r.3 (literal-within (variable_count net most) r.0 r.1 inside)));
  tops = top-within net most (length net.weights == 0) refl;
}

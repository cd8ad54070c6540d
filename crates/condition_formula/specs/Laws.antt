-- What the repair formula says of a network.
use Rattle.std.specs.Prelude.{◌≡◌, ◌↔◌, ℕ, ◌+◌, ◌<◌, ◌≤◌, Bool, false, IsTrue, nat_lt, List, length}
use Rattle.std.specs.Prelude.{slice_index_or, slice_get, All, IfSome}
use Rattle.cnf_types.specs.declared.literal.Lit.{Lit}
use Rattle.cnf_types.specs.Literals.{variable, negated}
use Rattle.cnf_types.specs.Formulas.{value, clause_value, Satisfies}
use Rattle.condition_formula.specs.declared.network.ConditionNet.{ConditionNet}
use Rattle.condition_formula.specs.declared.network.Question.{Question}
use Rattle.condition_formula.specs.declared.part.Part.{Part}
use Rattle.condition_formula.specs.Conditions.{IsMet, IsSound}
use Rattle.condition_formula.specs.Prices.{price_of_first, price}
use Rattle.condition_formula.specs.Clauses.{edit_variable, Fulfils, written_clauses}
use Rattle.condition_formula.specs.Formulas.{demand_parts, repair_formula, tops_of}
use Rattle.condition_formula.specs.Prices.{price_parts}

-- whether an edit is chosen
abbrev pub chosen_in : List Bool → ℕ → Bool
chosen_in flags edit = slice_index_or flags edit false

-- the first variables are the flags of the edits
abbrev pub BeginsWith : (ℕ → Bool) → List Bool → Type 0
BeginsWith assignment flags =
    (edit : ℕ) → edit < length flags → assignment (edit_variable edit) ≡ chosen_in flags edit

-- the assignment keeps the bound: it says that the price is not above it
abbrev pub KeepsBound : (ℕ → Bool) → List Lit → ℕ → Type 0
KeepsBound assignment tops bound =
    IfSome (slice_get tops bound) (λ top. IsTrue (value assignment (negated top)))

-- each question is one over the network
abbrev pub IsSoundNet : ConditionNet → Type 0
IsSoundNet net = All (IsSound net.nodes net.links (length net.weights)) net.questions

-- every question is met where these edits are chosen
abbrev pub AreMet : ConditionNet → List Bool → Type 0
AreMet net flags = All (IsMet (chosen_in flags)) net.questions

-- some model begins with the flags and keeps the bound
pub record HasModel (net : ConditionNet) (most : ℕ) (flags : List Bool) (bound : ℕ) : Type 0 where
  pub assignment : ℕ → Bool
  pub begins : BeginsWith assignment flags
  pub satisfies : Satisfies assignment (repair_formula net most)
  pub keeps : KeepsBound assignment (tops_of net most) bound

-- the edits meet every question at no more than the price
pub record IsRepair (net : ConditionNet) (flags : List Bool) (bound : ℕ) : Type 0 where
  pub met : AreMet net flags
  pub affordable : price (chosen_in flags) net.weights ≤ bound

-- the formula with a bound has a model that begins with the flags exactly if they are a repair of
-- at most that price
abbrev pub ModelsAreRepairs : Type 0
ModelsAreRepairs =
    (net : ConditionNet) (most : ℕ) (flags : List Bool) (bound : ℕ) → IsSoundNet net →
    length flags ≡ length net.weights → bound ≤ most →
    HasModel net most flags bound ↔ IsRepair net flags bound

-- one model keeps all bounds at once
pub record HasOneModel (net : ConditionNet) (most : ℕ) (flags : List Bool) : Type 0 where
  pub assignment : ℕ → Bool
  pub begins : BeginsWith assignment flags
  pub satisfies : Satisfies assignment (repair_formula net most)
  pub keeps : (bound : ℕ) → price (chosen_in flags) net.weights ≤ bound → bound ≤ most →
      KeepsBound assignment (tops_of net most) bound

-- if the edits meet every question, one model keeps each bound from their price on
abbrev pub OneModelServes : Type 0
OneModelServes =
    (net : ConditionNet) (most : ℕ) (flags : List Bool) → IsSoundNet net →
    length flags ≡ length net.weights → AreMet net flags → HasOneModel net most flags

-- an assignment makes the written clauses true exactly if it makes the clauses true that they were
-- written from
abbrev pub WritingKeepsMeaning : Type 0
WritingKeepsMeaning =
    (assignment : ℕ → Bool) (clauses : List (List Part)) →
    Fulfils assignment clauses ↔
    All (λ c. IsTrue (clause_value assignment c.lits)) (written_clauses clauses)

-- some assignment has the flags of the edits as its first values, and makes the clauses true
abbrev pub HaveModel : (ℕ → Bool) → ℕ → List (List Part) → Type 0
HaveModel chosen edits clauses =
    (assignment : ℕ → Bool) × ((edit : ℕ) → edit < edits →
    assignment (edit_variable edit) ≡ chosen edit) × Fulfils assignment clauses

-- the clauses of a question, whose variables follow those of the edits, have a model exactly if the
-- question is met
abbrev pub QuestionsAreExact : Type 0
QuestionsAreExact =
    (chosen : ℕ → Bool) (nodes links edits first : ℕ) (q : Question) →
    IsSound nodes links edits q → edits < first →
    HaveModel chosen edits (demand_parts q nodes links first q.demand) ↔ IsMet chosen q

-- whether the chosen edits up to this one cost more than the number
abbrev pub costs_more : (ℕ → Bool) → List ℕ → ℕ → ℕ → Bool
costs_more chosen weights edit number = nat_lt number (price_of_first chosen weights (edit + 1))

-- the clauses of the price counter force the variable of each number below the price, and hold if
-- just these are true
pub record PricesAreCounted : Type 0 where
  pub forced : (assignment chosen : ℕ → Bool) (weights : List ℕ) (bound : ℕ) (above : ℕ → ℕ → ℕ) →
      ((edit : ℕ) → edit < length weights → assignment (edit_variable edit) ≡ chosen edit) →
      Fulfils assignment (price_parts weights bound above) →
      (edit number : ℕ) → edit < length weights → number ≤ bound →
      IsTrue (costs_more chosen weights edit number) → IsTrue (assignment (above edit number))
  pub enough : (assignment chosen : ℕ → Bool) (weights : List ℕ) (bound : ℕ) (above : ℕ → ℕ → ℕ) →
      ((edit : ℕ) → edit < length weights → assignment (edit_variable edit) ≡ chosen edit) →
      ((edit number : ℕ) → edit < length weights → number ≤ bound →
      assignment (above edit number) ≡ costs_more chosen weights edit number) →
      Fulfils assignment (price_parts weights bound above)

-- the variable of the literal is one of the first `vars`
pub record IsVariableOf (vars : ℕ) (lit : Lit) : Type 0 where
  pub least : 1 ≤ variable lit
  pub most : variable lit ≤ vars

-- all literals of the formula, and those of the price, are over the formula's variables
pub record IsOverVariables (net : ConditionNet) (most : ℕ) : Type 0 where
  pub clauses : All (λ c. All (IsVariableOf (repair_formula net most).vars) c.lits)
      (repair_formula net most).clauses
  pub tops : All (IsVariableOf (repair_formula net most).vars) (tops_of net most)

-- each network of sound questions has a formula over its own variables
abbrev pub FormulasAreOverVariables : Type 0
FormulasAreOverVariables =
    (net : ConditionNet) (most : ℕ) → IsSoundNet net → IsOverVariables net most

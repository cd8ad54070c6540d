-- How large a network of conditions may be, and when there is no formula of it.
use Rattle.std.specs.Prelude.{◌≡◌, ℕ, ◌-◌, ◌<◌, ◌≤◌, ◌^◌, min, length, All}
use Rattle.arc_base.specs.declared.limits.TheConstants.{VARIABLE_LIMIT, LITERAL_LIMIT, NODE_LIMIT}
use Rattle.arc_base.specs.declared.limits.TheConstants.{ARC_LIMIT, QUESTION_LIMIT}
use Rattle.arc_base.specs.declared.refusal.LimitKind.TheVariants.{Routers, Interfaces, Links}
use Rattle.arc_base.specs.declared.refusal.LimitKind.TheVariants.{Policies, Failures, Entries}
use Rattle.arc_base.specs.declared.refusal.LimitKind.TheVariants.{Classes, Edits, Literals}
use Rattle.arc_base.specs.declared.refusal.LimitKind.TheVariants.{Variables}
use Rattle.condition_formula.specs.declared.network.ConditionNet.{ConditionNet}
use Rattle.condition_formula.specs.declared.fault.EncodeFault.{EncodeFault}
use Rattle.condition_formula.specs.declared.fault.EncodeFault.TheVariants.{Limit, Memory}
use Rattle.condition_formula.specs.Formulas.{all_parts, variable_count}
use Rattle.condition_formula.specs.Clauses.{literal_count}

-- the network is small enough for its variables to be counted in 64 bits
pub record IsSmallNet (net : ConditionNet) : Type 0 where
  pub nodes : net.nodes ≤ NODE_LIMIT
  pub arcs : All (λ q. length q.arcs ≤ ARC_LIMIT) net.questions
  pub questions : length net.questions ≤ QUESTION_LIMIT

-- the formula is within the limits on variables and literals
pub record IsWithinLimits (net : ConditionNet) (bound : ℕ) : Type 0 where
  pub variables : variable_count net bound ≤ VARIABLE_LIMIT
  pub literals : literal_count (all_parts net bound) ≤ LITERAL_LIMIT

-- there are `count` variables, more than VARIABLE_LIMIT
pub record HasTooManyVariables (net : ConditionNet) (bound count : ℕ) : Type 0 where
  pub many : VARIABLE_LIMIT < count
  pub exact : count ≡ variable_count net bound

-- the variables are within their limit, but there are more literals than LITERAL_LIMIT: `count` of
-- them, or the greatest number of 64 bits if there are more
pub record HasTooManyLiterals (net : ConditionNet) (bound count : ℕ) : Type 0 where
  pub variables : variable_count net bound ≤ VARIABLE_LIMIT
  pub many : LITERAL_LIMIT < literal_count (all_parts net bound)
  pub exact : count ≡ min (literal_count (all_parts net bound)) (2 ^ 64 - 1)

-- why there is no formula: too many variables, too many literals, or out of memory
abbrev pub IsFaultOfNet : ConditionNet → ℕ → EncodeFault → Type 0
IsFaultOfNet net bound Memory = Unit {0}
IsFaultOfNet net bound (Limit Variables count) = HasTooManyVariables net bound count
IsFaultOfNet net bound (Limit Literals count) = HasTooManyLiterals net bound count
IsFaultOfNet net bound (Limit Routers count) = ⊥
IsFaultOfNet net bound (Limit Interfaces count) = ⊥
IsFaultOfNet net bound (Limit Links count) = ⊥
IsFaultOfNet net bound (Limit Policies count) = ⊥
IsFaultOfNet net bound (Limit Failures count) = ⊥
IsFaultOfNet net bound (Limit Entries count) = ⊥
IsFaultOfNet net bound (Limit Classes count) = ⊥
IsFaultOfNet net bound (Limit Edits count) = ⊥

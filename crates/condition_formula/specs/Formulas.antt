-- The repair formula: its clauses in order, and its variables. Edits have the first variables, then
-- come those of each question in order, and then those of the price counter.
use Rattle.std.specs.Prelude.{ℕ, ◌+◌, ◌*◌, ◌-◌, true, if◌then◌else◌, ◌==◌, List, [], ◌∷◌, ◌++◌}
use Rattle.std.specs.Prelude.{length, map, sum_by}
use Rattle.cnf_types.specs.declared.literal.Lit.{Lit}
use Rattle.cnf_types.specs.declared.clauses.Formula.{Formula}
use Rattle.cnf_types.specs.Literals.{literal}
use Rattle.condition_formula.specs.declared.network.Question.{Question}
use Rattle.condition_formula.specs.declared.network.Demand.{Demand}
use Rattle.condition_formula.specs.declared.network.Demand.TheVariants.{Blocked, Through, Reach}
use Rattle.condition_formula.specs.declared.network.ConditionNet.{ConditionNet}
use Rattle.condition_formula.specs.Lists.{upto}
use Rattle.condition_formula.specs.declared.part.Part.{Part}
use Rattle.condition_formula.specs.Clauses.{written_clauses}
use Rattle.condition_formula.specs.Sides.{kept_off_parts}
use Rattle.condition_formula.specs.Reaching.{reached_parts}
use Rattle.condition_formula.specs.Prices.{price_parts}

-- the variable at a row and a column of a table that begins with the variable `first`
abbrev pub cell : (first columns row column : ℕ) → ℕ
cell first columns row column = first + (row * columns + column)

-- the clauses of a question, whose variables begin at `first`
abbrev pub demand_parts : Question → ℕ → ℕ → ℕ → Demand → List (List Part)
demand_parts q nodes links first Blocked = kept_off_parts q (cell first nodes)
demand_parts q nodes links first Through = kept_off_parts q (cell first nodes)
demand_parts q nodes links first (Reach many) =
    reached_parts q nodes links many (cell first (length q.arcs))

-- how many variables a question with this demand has
abbrev pub demand_size : Question → ℕ → Demand → ℕ
demand_size q nodes Blocked = length q.classes * nodes
demand_size q nodes Through = length q.classes * nodes
demand_size q nodes (Reach many) = if q.source == q.target then 0 else many * length q.arcs

-- how many variables the question has
abbrev pub question_size : ℕ → Question → ℕ
question_size nodes q = demand_size q nodes q.demand

-- the clauses of all questions, whose variables begin at `first`
abbrev pub questions_parts : (nodes links first : ℕ) → List Question → List (List Part)
questions_parts nodes links first [] = []
questions_parts nodes links first (q ∷ qs) =
    demand_parts q nodes links first q.demand ++
    questions_parts nodes links (first + question_size nodes q) qs

-- the first variable of the price counter, after those of edits and questions
abbrev pub first_price : ConditionNet → ℕ
first_price net = length net.weights + 1 + sum_by (question_size net.nodes) net.questions

-- all clauses, as their parts
abbrev pub all_parts : ConditionNet → ℕ → List (List Part)
all_parts net bound =
    questions_parts net.nodes net.links (length net.weights + 1) net.questions
    ++ price_parts net.weights bound (cell (first_price net) (bound + 1))

-- how many variables there are
abbrev pub variable_count : ConditionNet → ℕ → ℕ
variable_count net bound =
    length net.weights + sum_by (question_size net.nodes) net.questions +
    length net.weights * (bound + 1)

-- the repair formula
abbrev pub repair_formula : ConditionNet → ℕ → Formula
repair_formula net bound =
    record { vars = variable_count net bound; clauses = written_clauses (all_parts net bound) }

-- for each number up to the bound the literal that says that the price is above it; none if there
-- are no edits
abbrev pub tops_of : ConditionNet → ℕ → List Lit
tops_of net bound =
    if length net.weights == 0 then [] else map (λ number.
    literal (cell (first_price net) (bound + 1) (length net.weights - 1) number) true)
    (upto (bound + 1))

-- Clauses of blocked and through: for each class a side that packets do not leave. `reached` is the
-- variable of a node, or of a class and a node: packets come there.
use Rattle.std.specs.Prelude.{ℕ, List, [], ◌∷◌, ◌++◌, length, map, flat_map}
use Rattle.condition_formula.specs.declared.network.ConditionArc.{ConditionArc}
use Rattle.condition_formula.specs.declared.network.Question.{Question}
use Rattle.condition_formula.specs.Lists.{upto}
use Rattle.condition_formula.specs.Conditions.{conditions_of, ends_of, counted_arcs}
use Rattle.condition_formula.specs.declared.part.Part.{Part}
use Rattle.condition_formula.specs.Clauses.{yes, no, denied}

-- packets that come to the tail of an open arc come to its head
abbrev pub step_parts : (ℕ → ℕ) → ℕ → ConditionArc → List Part
step_parts reached class arc =
    no (reached arc.tail) ∷ map denied (conditions_of arc class) ++ yes (reached arc.head) ∷ []

-- the clauses of a class: its packets that enter are at the source, go on over open arcs, and do
-- not leave at the target
abbrev pub side_parts : Question → (ℕ → ℕ) → ℕ → List (List Part)
side_parts q reached class =
    (denied (ends_of q class).enter ∷ yes (reached q.source) ∷ [])
    ∷ map (step_parts reached class) (counted_arcs q)
    ++ (no (reached q.target) ∷ denied (ends_of q class).leave ∷ []) ∷ []

-- the clauses of every class; `reached` is the variable of a class and a node
abbrev pub kept_off_parts : Question → (ℕ → ℕ → ℕ) → List (List Part)
kept_off_parts q reached =
    flat_map (λ class. side_parts q (reached class) class) (upto (length q.classes))

-- How clauses are written one after the other, and their literals counted. Contracts of helpers
-- cite these.
use Rattle.std.specs.Prelude.{◌≡◌, ℕ, ◌+◌, ◌-◌, ◌<◌, ◌≤◌, ◌^◌, min, ◌==◌, Bool, List, [], ◌∷◌, ◌++◌}
use Rattle.std.specs.Prelude.{map, filter, slice_index_or, slice_set, All}
use Rattle.arc_base.specs.declared.limits.TheConstants.{LITERAL_LIMIT}
use Rattle.condition_formula.specs.declared.part.Part.{Part}
use Rattle.condition_formula.specs.declared.part.Part.TheVariants.{Fixed, Literal}
use Rattle.condition_formula.specs.declared.pick.Pick.{Pick}
use Rattle.condition_formula.specs.declared.pick.Pick.TheVariants.{OutOf, Into, Over}
use Rattle.condition_formula.specs.declared.network.ConditionArc.{ConditionArc}
use Rattle.condition_formula.specs.declared.network.Question.{Question}
use Rattle.condition_formula.specs.declared.family.Family.{Family}
use Rattle.condition_formula.specs.declared.row.Row.{Row}
use Rattle.condition_formula.specs.declared.row.Index.{Index}
use Rattle.condition_formula.specs.Lists.{upto}
use Rattle.condition_formula.specs.declared.writer.Writer.{Writer}
use Rattle.condition_formula.specs.Clauses.{yes, no, written_clauses, literal_count}
use Rattle.condition_formula.specs.Formulas.{cell}
use Rattle.condition_formula.specs.Reaching.{arc_at, places}

-- the number of the part's variable can be doubled
abbrev pub IsSmall : Part → Type 0
IsSmall (Fixed truth) = Unit {0}
IsSmall (Literal variable positive) = variable < 2 ^ 62

-- the literals of the clauses were counted, and the clauses were added at the end unless there are
-- now more than LITERAL_LIMIT literals
pub record Adds (old new : Writer) (clauses : List (List Part)) : Type 0 where
  pub counted : new.literals ≡ min (old.literals + literal_count clauses) (2 ^ 64 - 1)
  pub kept : new.literals ≤ LITERAL_LIMIT → new.clauses ≡ old.clauses ++ written_clauses clauses

-- the number of the node or link that the arc is picked by
abbrev pub number_of : Pick → ConditionArc → ℕ
number_of OutOf arc = arc.tail
number_of Into arc = arc.head
number_of Over arc = arc.link.0

-- whether the arc is picked for the number
abbrev pub picks : Pick → ℕ → ConditionArc → Bool
picks pick number arc = number_of pick arc == number

-- the places of the arcs that are picked for the number
abbrev pub picked : Question → Pick → ℕ → List ℕ
picked q pick number = filter (λ place. picks pick number (arc_at q place)) (places q)

-- for each number below the count, the places of the arcs that are picked for it
abbrev pub rows_of : Question → Pick → ℕ → List Row
rows_of q pick count = map (λ number. record { places = picked q pick number }) (upto count)

-- the places in the row of a number, and none if there is no such row
abbrev pub row_at : List Row → ℕ → List ℕ
row_at rows number = (slice_index_or rows number (record { places = [] })).places

-- `count` empty rows
abbrev pub empty_rows : ℕ → List Row
empty_rows count = map (λ number. record { places = [] }) (upto count)

-- the rows with the place added to the row of the number
abbrev pub with_place : List Row → ℕ → ℕ → List Row
with_place rows number place =
    slice_set rows number (record { places = row_at rows number ++ place ∷ [] })

-- the index of the question's arcs: by tail, by head and by link
pub record IsIndex (q : Question) (nodes links : ℕ) (index : Index) : Type 0 where
  pub out_of : index.out_of ≡ rows_of q OutOf nodes
  pub into : index.into ≡ rows_of q Into nodes
  pub over : index.over ≡ rows_of q Over links

-- each variable can be doubled
abbrev pub AreSmall : List ℕ → Type 0
AreSmall variables = All (λ v. v < 2 ^ 62) variables

-- for each of the ones the clause that it is false or one of the others is true
abbrev pub each_implies : List ℕ → List ℕ → List (List Part)
each_implies ones others = map (λ v. no v ∷ map yes others) ones

-- for each of the others the clause that it and the one are not both true
abbrev pub excludes_each : ℕ → List ℕ → List (List Part)
excludes_each one others = map (λ v. no one ∷ no v ∷ []) others

-- the variable that says that the family uses the arc at a place
abbrev pub used_by : Family → ℕ → ℕ
used_by family = cell family.used.first family.used.columns family.number

-- the index of the family is that of its question's arcs
pub record HasIndex (family : Family) : Type 0 where
  pub out_of : family.index.now.out_of ≡ rows_of family.q.now OutOf family.nodes
  pub into : family.index.now.into ≡ rows_of family.q.now Into family.nodes

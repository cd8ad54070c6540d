use Rattle.std.proofs.Common.{◌≡◌, take, map}
use Rattle.condition_formula.specs.Formulas.{cell}
use Rattle.condition_formula.specs.Writing.{AreSmall}
use Rattle.condition_formula.proofs.index.variables_of.Given as goal

abbrev pub invariant-loop-place : goal.invariant-loop-place
invariant-loop-place l = record {
  variables : l.variables ≡ map (cell l.used.first l.used.columns l.family) (take l.place-index l.places);
  small : AreSmall l.variables;
}

use Rattle.std.proofs.Common.{◌≤◌, take}
use Rattle.sat_search.specs.Dropping.{AreLemmas}
use Rattle.sat_search.proofs.Waits.{Begins}
use Rattle.sat_search.proofs.lemmas.Lemmas.of.Given as goal

abbrev pub invariant-loop-step : goal.invariant-loop-step
invariant-loop-step l = record {
  lemmas : AreLemmas (take l.step-index l.steps) l.lemmas;
  few : l.lemmas.drops ≤ l.step-index;
  begins : Begins (take l.step-index l.steps) l.lemmas;
}

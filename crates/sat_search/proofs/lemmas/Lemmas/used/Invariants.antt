use Rattle.std.proofs.Common.{◌≡◌, ◌<◌, ℕ, length, true, Some, slice_get, get_or, take}
use Rattle.std.specs.List.{list_any}
use Rattle.sat_search.specs.Costs.{uses, Rise}
use Rattle.sat_search.proofs.lemmas.Lemmas.used.Given as goal

abbrev pub invariant-loop-step : goal.invariant-loop-step
invariant-loop-step l = record {
  size : length l.used.items ≡ l.old;
  used : Rise l.self.ids.items → (place id : ℕ) → place < l.old → slice_get l.self.ids.items place ≡ Some id → get_or l.used.items place true ≡ list_any (uses id) (take l.step-index l.steps);
}

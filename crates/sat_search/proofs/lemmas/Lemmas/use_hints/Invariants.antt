use Rattle.std.proofs.Common.{◌≡◌, length, take}
use Rattle.std.specs.List.{list_any}
use Rattle.sat_search.specs.Costs.{AreSetToo, is_hint_of, Rise}
use Rattle.sat_search.proofs.lemmas.Lemmas.use_hints.Given as goal

abbrev pub invariant-loop-hint : goal.invariant-loop-hint
invariant-loop-hint l = record {
  size : length l.used ≡ length l.initial.used;
  used : Rise l.self.ids.items → AreSetToo l.self.ids.items (λ id. list_any (is_hint_of id) (take l.hint-index l.hint-items)) l.initial.used l.used;
}

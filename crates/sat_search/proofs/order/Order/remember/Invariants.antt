use Rattle.std.proofs.Common.{◌≡◌, drop}
use Rattle.variable_heap.specs.Heaps.{HaveSame}
use Rattle.sat_search.specs.Orders.{IsOrder, met_all}
use Rattle.sat_search.proofs.order.Order.remember.Given as goal

abbrev pub invariant-loop-lit : goal.invariant-loop-lit
invariant-loop-lit l = record {
  order : IsOrder l.vars l.self;
  step : l.self.step ≡ l.initial.self.step;
  saved : l.self.saved ≡ l.initial.self.saved;
  same : HaveSame l.initial.self.heap.vars l.self.heap.vars;
  left : met_all l.initial.self.step (drop l.lit-index l.met) l.self.activity.items ≡ met_all l.initial.self.step l.met l.initial.self.activity.items;
}

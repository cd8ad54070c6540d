use Rattle.std.proofs.Common.{ap, rules}
use Rattle.sat_search.specs.declared.order.Order.{Order}
use Rattle.sat_search.proofs.Unset.{active_first, waits_without}
use Rattle.sat_search.proofs.order.Order.walk.Goals as goal

pub assume-requires-clause-active : goal.assume-requires-clause-active
assume-requires-clause-active c =
    active_first c.loop-var.self (record c.loop-var.self { heap = c.take_first.new.self }) c.as_slice.result.now c.in-Some.var c.as_slice.ensures.value c.in-Some.ensures.taken

pub returns-in-Some-assume-clause-waiting : goal.returns-in-Some-assume-clause-waiting
returns-in-Some-assume-clause-waiting c =
    waits_without c.loop-var.core c.assume.new.core c.loop-var.self
    (record c.loop-var.self { heap = c.take_first.new.self }) c.in-Some.var c.loop-var.invariant.waiting c.assume.ensures.kept.vars c.assume.ensures.stays
    c.in-Some.ensures.taken.gone c.assume.ensures.set

pub loop-var-preserved : goal.loop-var-preserved
loop-var-preserved c = record {
  order = search rules;
  rates = ap (λ (o : Order). record o { heap = c.take_first.new.self }) c.loop-var.invariant.rates;
  waiting = waits_without c.loop-var.core c.assume.new.core c.loop-var.self
      (record c.loop-var.self { heap = c.take_first.new.self }) c.in-Some.var c.loop-var.invariant.waiting c.assume.ensures.kept.vars c.assume.ensures.stays c.in-Some.ensures.taken.gone
      c.assume.ensures.set;
  sound = search rules;
  kept = search rules;
  rest = search rules;
}

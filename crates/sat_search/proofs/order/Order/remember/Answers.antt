use Rattle.std.proofs.Common.{sym, subst, rules, arith}
use Rattle.std.proofs.lemmas.Grind.{common_steps}
use Rattle.variable_heap.specs.Heaps.{Heap, HaveSame}
use Rattle.sat_search.proofs.order.Order.remember.Goals as goal

pub loop-lit-preserved : goal.loop-lit-preserved
loop-lit-preserved c = record {
  order = search rules;
  step = search rules;
  saved = search rules;
  same = λ w. (λ held. (c.raise.ensures.same w).0 ((c.loop-lit.invariant.same w).0 held), λ held. (c.loop-lit.invariant.same w).1 ((c.raise.ensures.same w).1 held));
  left = grind (arith, common_steps);
}

pub returns-clause-same : goal.returns-clause-same
returns-clause-same c = subst (λ (h : Heap). HaveSame c.args.self.now.heap.vars h.vars) (sym c.advance.ensures.heap) c.loop-lit.invariant.same

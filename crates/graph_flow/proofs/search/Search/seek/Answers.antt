use Rattle.std.proofs.Common.{true≢false, ◌∙◌, arith}
use Rattle.graph_flow.proofs.Searches.{count-fits, is-marked, done}
use Rattle.graph_flow.proofs.search.Search.seek.Goals as goal

pub loop-looked-init : goal.loop-looked-init
loop-looked-init c = record {
  search = c.begin.ensures.search _;
  within = omega arith;
  marks = omega (arith, c.begin.ensures.marks, c.requires.marks);
  queue = omega (arith, c.begin.ensures.queue, c.requires.queue);
}

pub loop-looked-smaller : goal.loop-looked-smaller
loop-looked-smaller c = omega (arith, count-fits c.loop-looked.self.marks.items, c.loop-looked.invariant.search.counted, c.loop-looked.invariant.marks)

pub returns-then-is_seen-clause-marked : goal.returns-then-is_seen-clause-marked
returns-then-is_seen-clause-marked c = is-marked _ _ _ _ _ _ c.loop-looked.invariant.search

pub returns-then-is_seen-clause-spread : goal.returns-then-is_seen-clause-spread
returns-then-is_seen-clause-spread c unseen = absurd (true≢false (c.if-is_seen.ensures ∙ unseen))

pub returns-clause-marked : goal.returns-clause-marked
returns-clause-marked c = is-marked _ _ _ _ _ _ c.loop-looked.invariant.search

pub returns-clause-spread : goal.returns-clause-spread
returns-clause-spread c unseen = done _ _ _ _ _ _ c.loop-looked.invariant.search (omega (arith, c.loop-looked-test.false))

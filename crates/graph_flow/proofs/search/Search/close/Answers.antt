use Rattle.std.proofs.Common.{◌≡◌, ℕ, arith, subst}
use Rattle.graph_flow.specs.SearchedArcs.{arcs_by}
use Rattle.graph_flow.specs.Marks.{IsSearch}
use Rattle.graph_flow.proofs.Searches.{count-fits}
use Rattle.graph_flow.proofs.search.Search.close.Goals as goal

pub loop-looked-smaller : goal.loop-looked-smaller
loop-looked-smaller c = omega (arith, count-fits c.loop-looked.self.marks.items, c.loop-looked.invariant.search.counted, c.loop-looked.invariant.marks)

pub returns-clause-search : goal.returns-clause-search
returns-clause-search c =
    let all : c.loop-looked.looked ≡ c.loop-looked.count = omega (arith, c.loop-looked-test.false, c.loop-looked.invariant.within) in
    subst (λ (n : ℕ). IsSearch (arcs_by c.args.ways c.args.g.now.arcs) c.args.from c.loop-looked.self.marks.items c.loop-looked.self.queue.items c.loop-looked.count n)
    all c.loop-looked.invariant.search

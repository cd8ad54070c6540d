use Rattle.std.proofs.Common.{◌<◌, length, Some, ◌∙◌, sym, arith}
use Rattle.std.proofs.lemmas.List.{get_or_default}
use Rattle.graph_flow.specs.SearchedArcs.{gives}
use Rattle.graph_flow.proofs.Searches.{seen-node, count-fits, count-room}
use Rattle.graph_flow.proofs.GivenArcs.{head-below, tail-row}
use Rattle.graph_flow.proofs.Looks.{row-joins, row-head, row-gives, any-default, looking-steps, looked-all}
use Rattle.graph_flow.proofs.search.Search.look.Goals as goal

pub index-node-requires : goal.index-node-requires
index-node-requires c = omega (arith, count-fits c.args.self.now.marks.items, c.requires.search.counted)

pub touching-arc-items-requires : goal.touching-arc-items-requires
touching-arc-items-requires c =
    let within : c.args.looked < length c.args.self.now.queue.items = omega (arith, count-fits c.args.self.now.marks.items, c.requires.search.counted) in
    let at = get_or_default c.args.self.now.queue.items c.args.looked 0 c.index-node.result.now within ∙ sym c.index-node.ensures in
    omega (arith, at, seen-node c.args.self.now.marks.items _ (c.requires.search.reached c.args.looked c.requires.place))

pub loop-arc-init : goal.loop-arc-init
loop-arc-init c =
    let within : c.args.looked < length c.args.self.now.queue.items = omega (arith, count-fits c.args.self.now.marks.items, c.requires.search.counted) in
    record {
      looking = record {
        search = c.requires.search;
        node_is = get_or_default c.args.self.now.queue.items c.args.looked 0 c.index-node.result.now within ∙ sym c.index-node.ensures;
        before = c.requires.place;
        passed = λ k d next l e from. absurd (omega arith);
      };
      more = omega arith;
      marks = c.requires.marks;
      queue = c.requires.queue;
    }

pub step-count-requires-clause-apart : goal.step-count-requires-clause-apart
step-count-requires-clause-apart c =
    (row-joins c.args.g.now c.index-node.result.now c.touching-arc-items.result.now c.loop-arc.arc-index _ c.touching-arc-items.ensures.graph c.touching-arc-items.ensures.arcs
    c.loop-arc-test.true).apart

pub step-count-requires-clause-within : goal.step-count-requires-clause-within
step-count-requires-clause-within c =
    row-head c.args.g.now c.index-node.result.now c.touching-arc-items.result.now c.loop-arc.arc-index _ _ c.touching-arc-items.ensures.graph c.touching-arc-items.ensures.arcs
    c.loop-arc-test.true c.loop-arc.invariant.marks

pub step-count-requires-clause-head : goal.step-count-requires-clause-head
step-count-requires-clause-head c next e =
    let some = any-default (gives c.args.ways) c.touching-arc-items.result.now c.loop-arc.arc-index _ (Some next) c.loop-arc-test.true e in
    let in_given = row-gives c.args.g.now.arcs (gives c.args.ways) c.index-node.result.now c.touching-arc-items.result.now c.loop-arc.arc-index next
    c.touching-arc-items.ensures.arcs c.loop-arc-test.true some in
    omega (arith, head-below c.args.g.now c.args.ways next c.touching-arc-items.ensures.graph c.requires.ways in_given, c.loop-arc.invariant.marks)

pub step-count-requires-clause-room : goal.step-count-requires-clause-room
step-count-requires-clause-room c head low unseen =
    omega (arith, count-room c.loop-arc.self.marks.items head (omega (arith, low)) unseen, c.loop-arc.invariant.looking.search.counted, c.loop-arc.invariant.marks, c.loop-arc.invariant.queue)

pub loop-arc-preserved : goal.loop-arc-preserved
loop-arc-preserved c =
    let both = looking-steps c.args.g.now.arcs (gives c.args.ways) c.args.from c.loop-arc.self.marks.items c.loop-arc.self.queue.items c.loop-arc.count c.args.looked
    c.index-node.result.now c.touching-arc-items.result.now c.loop-arc.arc-index _ c.step-count.new.self.marks.items c.step-count.new.self.queue.items c.step-count.result
    c.loop-arc.invariant.looking c.loop-arc-test.true c.touching-arc-items.ensures.arcs (omega (arith, c.loop-arc.invariant.marks, c.loop-arc.invariant.queue))
    (λ next e.
    let some = any-default (gives c.args.ways) c.touching-arc-items.result.now c.loop-arc.arc-index _ (Some next) c.loop-arc-test.true e in
    let in_given = row-gives c.args.g.now.arcs (gives c.args.ways) c.index-node.result.now c.touching-arc-items.result.now c.loop-arc.arc-index next
    c.touching-arc-items.ensures.arcs c.loop-arc-test.true some in
    omega (arith, head-below c.args.g.now c.args.ways next c.touching-arc-items.ensures.graph c.requires.ways in_given, c.loop-arc.invariant.marks))
    c.step-count.ensures.steps in
    record {
      looking = both.0;
      more = omega (arith, both.1, c.loop-arc.invariant.more);
      marks = c.step-count.ensures.marks ∙ c.loop-arc.invariant.marks;
      queue = c.step-count.ensures.queue ∙ c.loop-arc.invariant.queue;
    }

pub returns-clause-search : goal.returns-clause-search
returns-clause-search c = looked-all c.args.g.now.arcs (gives c.args.ways) c.args.from _ _ _ _ _ _ _ c.loop-arc.invariant.looking c.touching-arc-items.ensures.arcs c.loop-arc-test.false
    (tail-row c.args.g.now.arcs c.args.ways)

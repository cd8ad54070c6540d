use Rattle.std.proofs.Common.{◌≡◌, ◌<◌, ◌^◌, ℕ, List, [], ◌∷◌, ◌++◌, All, None, Some, length, set, reverse, sym, ap, ◌∙◌, subst, refl, arith, length-set}
use Rattle.std.proofs.lemmas.List.{with_items_is, reverse-append}
use Rattle.std.proofs.lemmas.List.Elements.{All-contains}
use Rattle.graph_flow.specs.declared.arcs.Arc.{Arc}
use Rattle.graph_flow.specs.declared.search.Mark.{Mark}
use Rattle.graph_flow.specs.Flows.{Units, unit_at}
use Rattle.graph_flow.specs.Residual.{residual, sent}
use Rattle.graph_flow.specs.Marks.{AreSteps, IsSearch, depth_of, mark_at, way_to}
use Rattle.graph_flow.proofs.Lists.{Contains-here}
use Rattle.graph_flow.proofs.Needs.{Walked, started, over_seen, over_unseen, tail_seen, head_node, walked-all}
use Rattle.graph_flow.proofs.needed.needed_units.Goals as goal

-- the walk with its next arc in front
next : (arcs : List Arc) (s t : ℕ) (carried needed : Units) (old new : List Arc) (arc : Arc) → old ≡ new ++ arc ∷ [] → Walked arcs s t carried needed (reverse old) →
    Walked arcs s t carried needed (arc ∷ reverse new)
next arcs s t carried needed old new arc is w = subst (λ (rest : List Arc). Walked arcs s t carried needed rest) (ap reverse is ∙ reverse-append new (arc ∷ [])) w

nothing-left : (back : List Arc) → length back ≡ 0 → reverse back ≡ []
nothing-left [] e = refl
nothing-left (arc ∷ back) e = absurd (omega (arith, e))

pub arcs_back-requires-clause-node : goal.arcs_back-requires-clause-node
arcs_back-requires-clause-node c = omega (arith, c.deref.ensures.len, c.requires.marks, c.requires.target)

pub arcs_back-requires-clause-steps : goal.arcs_back-requires-clause-steps
arcs_back-requires-clause-steps c = subst (λ (marks : List Mark). AreSteps marks) (sym c.deref.ensures.value) c.requires.spread.marked.steps

pub arcs_back-requires-clause-shallow : goal.arcs_back-requires-clause-shallow
arcs_back-requires-clause-shallow c =
    let low = c.requires.spread.marked.shallow c.args.t in
    subst (λ (marks : List Mark). depth_of (mark_at marks c.args.t) < 2 ^ 32) (sym c.deref.ensures.value) (omega (arith, low, c.requires.marks, c.requires.few))

pub send-requires-clause-node : goal.send-requires-clause-node
send-requires-clause-node c = omega (arith, c.deref-2.ensures.len, c.requires.marks, c.requires.target)

pub send-requires-clause-steps : goal.send-requires-clause-steps
send-requires-clause-steps c = subst (λ (marks : List Mark). AreSteps marks) (sym c.deref-2.ensures.value) c.requires.spread.marked.steps

pub send-requires-clause-links : goal.send-requires-clause-links
send-requires-clause-links c at arc depth e =
    let is_arc = c.requires.spread.marked.over at arc depth (ap (λ (marks : List Mark). mark_at marks at) (sym c.deref-2.ensures.value) ∙ e) in
    subst (λ (units : Units). arc.link.0 < length units) (sym c.deref_mut.ensures.value)
    (All-contains (λ (a : Arc). a.link.0 < length c.in_ok-carried.carried.items) c.args.g.now.arcs arc c.in_ok-carried.ensures.room is_arc)

pub run-count-requires-clause-ways : goal.run-count-requires-clause-ways
run-count-requires-clause-ways c link arc e =
    let size : length c.send.new.units ≡ c.in_ok-carried.carried.len = omega arith in
    let now = with_items_is c.in_ok-carried.carried c.send.new.units size ∙ c.send.ensures ∙ ap (λ (units : Units). sent units (way_to c.deref-2.result.now c.args.t)) c.deref_mut.ensures.value
    ∙ ap (λ (marks : List Mark). sent c.in_ok-carried.carried.items (way_to marks c.args.t)) c.deref-2.ensures.value in
    let w = started c.args.g.now c.requires.graph c.args.s c.args.t c.args.search.marks.items c.requires.spread c.requires.seen c.in_ok-carried.carried.items c.in_ok-needed.needed.items
    c.in_ok-carried.ensures.none c.in_ok-needed.ensures.none c.in_ok-carried.ensures.room in
    w.on.is_arc link arc (ap (λ (units : Units). unit_at units link) (sym (c.deref-3.ensures.value ∙ now)) ∙ e)

pub loop-arc-init : goal.loop-arc-init
loop-arc-init c =
    let size : length c.send.new.units ≡ c.in_ok-carried.carried.len = omega arith in
    let now = with_items_is c.in_ok-carried.carried c.send.new.units size ∙ c.send.ensures ∙ ap (λ (units : Units). sent units (way_to c.deref-2.result.now c.args.t)) c.deref_mut.ensures.value
    ∙ ap (λ (marks : List Mark). sent c.in_ok-carried.carried.items (way_to marks c.args.t)) c.deref-2.ensures.value in
    let way = c.in_ok-back.ensures.arcs ∙ ap (λ (marks : List Mark). way_to marks c.args.t) c.deref.ensures.value in
    let w = started c.args.g.now c.requires.graph c.args.s c.args.t c.args.search.marks.items c.requires.spread c.requires.seen c.in_ok-carried.carried.items c.in_ok-needed.needed.items
    c.in_ok-carried.ensures.none c.in_ok-needed.ensures.none c.in_ok-carried.ensures.room in
    record {
      walked = subst (λ (units : Units). Walked c.args.g.now.arcs c.args.s c.args.t units c.in_ok-needed.needed.items (reverse c.in_ok-back.back.items)) (sym now)
          (subst (λ (rest : List Arc). Walked c.args.g.now.arcs c.args.s c.args.t
          (sent c.in_ok-carried.carried.items (way_to c.args.search.marks.items c.args.t)) c.in_ok-needed.needed.items rest) (sym way) w);
      search = subst (λ (units : Units). IsSearch (residual units c.args.g.now.arcs) c.args.s c.run-count.new.self.marks.items c.run-count.new.self.queue.items c.run-count.result c.run-count.result)
          c.deref-3.ensures.value c.run-count.ensures.search;
      room = c.in_ok-needed.ensures.room;
      marks = omega (arith, c.run-count.ensures.marks, c.requires.marks);
      queue = omega (arith, c.run-count.ensures.queue, c.requires.queue);
    }

pub is_seen-requires : goal.is_seen-requires
is_seen-requires c =
    let inv = c.loop-arc.invariant in
    let w = next c.args.g.now.arcs c.args.s c.args.t c.loop-arc.carried.items c.loop-arc.needed.items c.loop-arc.back.items c.pop.new.self.items c.in-Some.arc c.in-Some.ensures.items inv.walked in
    let low = head_node c.args.g.now c.requires.graph c.args.s c.args.t c.loop-arc.carried.items c.loop-arc.needed.items c.loop-arc.search.marks.items c.loop-arc.search.queue.items c.loop-arc.count
    c.in-Some.arc (reverse c.pop.new.self.items) w inv.search in
    omega (arith, low, inv.marks)

pub widen-count-requires-clause-units : goal.widen-count-requires-clause-units
widen-count-requires-clause-units c link arc e =
    c.loop-arc.invariant.walked.on.is_arc link arc (ap (λ (units : Units). unit_at units link) (sym c.deref_mut-then-not-is_seen.ensures.value) ∙ e)

pub widen-count-requires-clause-of_link : goal.widen-count-requires-clause-of_link
widen-count-requires-clause-of_link c link arc e =
    c.loop-arc.invariant.walked.on.of_link link arc (ap (λ (units : Units). unit_at units link) (sym c.deref_mut-then-not-is_seen.ensures.value) ∙ e)

pub widen-count-requires-clause-arc : goal.widen-count-requires-clause-arc
widen-count-requires-clause-arc c =
    let w = next c.args.g.now.arcs c.args.s c.args.t c.loop-arc.carried.items c.loop-arc.needed.items c.loop-arc.back.items c.pop.new.self.items c.in-Some.arc c.in-Some.ensures.items
    c.loop-arc.invariant.walked in
    ap (λ (units : Units). unit_at units c.in-Some.arc.link.0) c.deref_mut-then-not-is_seen.ensures.value ∙ w.full c.in-Some.arc (Contains-here c.in-Some.arc (reverse c.pop.new.self.items))

pub widen-count-requires-clause-tail : goal.widen-count-requires-clause-tail
widen-count-requires-clause-tail c =
    let inv = c.loop-arc.invariant in
    let w = next c.args.g.now.arcs c.args.s c.args.t c.loop-arc.carried.items c.loop-arc.needed.items c.loop-arc.back.items c.pop.new.self.items c.in-Some.arc c.in-Some.ensures.items inv.walked in
    tail_seen c.args.g.now c.requires.graph c.args.s c.args.t c.loop-arc.carried.items c.loop-arc.needed.items c.loop-arc.search.marks.items c.loop-arc.search.queue.items c.loop-arc.count
    c.in-Some.arc (reverse c.pop.new.self.items) w inv.search

pub index_mut-requires : goal.index_mut-requires
index_mut-requires c =
    let inv = c.loop-arc.invariant in
    let w = next c.args.g.now.arcs c.args.s c.args.t c.loop-arc.carried.items c.loop-arc.needed.items c.loop-arc.back.items c.pop.new.self.items c.in-Some.arc c.in-Some.ensures.items inv.walked in
    omega (arith, All-contains (λ (a : Arc). a.link.0 < length c.loop-arc.needed.items) c.args.g.now.arcs c.in-Some.arc inv.room w.path.0)

pub loop-arc-preserved-then-not-is_seen : goal.loop-arc-preserved-then-not-is_seen
loop-arc-preserved-then-not-is_seen c =
    let inv = c.loop-arc.invariant in
    let link = c.in-Some.arc.link.0 in
    let w = next c.args.g.now.arcs c.args.s c.args.t c.loop-arc.carried.items c.loop-arc.needed.items c.loop-arc.back.items c.pop.new.self.items c.in-Some.arc c.in-Some.ensures.items inv.walked in
    let size : length c.widen-count.new.carried ≡ c.loop-arc.carried.len = omega arith in
    let held = with_items_is c.loop-arc.carried c.widen-count.new.carried size in
    let now = held ∙ c.widen-count.ensures.carried ∙ ap (λ (units : Units). set units link None) c.deref_mut-then-not-is_seen.ensures.value in
    let after = over_unseen c.args.g.now c.requires.graph c.args.s c.args.t c.loop-arc.carried.items c.loop-arc.needed.items c.loop-arc.search.marks.items c.loop-arc.search.queue.items
    c.loop-arc.count
    c.in-Some.arc (reverse c.pop.new.self.items) w inv.search (sym c.is_seen.ensures ∙ c.if-not-is_seen.true)
    (All-contains (λ (a : Arc). a.link.0 < length c.loop-arc.needed.items) c.args.g.now.arcs c.in-Some.arc inv.room w.path.0) in
    record {
      walked = subst (λ (units : Units). Walked c.args.g.now.arcs c.args.s c.args.t units (set c.loop-arc.needed.items link (Some c.in-Some.arc)) (reverse c.pop.new.self.items)) (sym now) after;
      search = subst (λ (units : Units). IsSearch (residual units c.args.g.now.arcs) c.args.s c.widen-count.new.self.marks.items c.widen-count.new.self.queue.items c.widen-count.result
          c.widen-count.result)
          (sym held) c.widen-count.ensures.search;
      room = subst (λ (n : ℕ). All (λ (a : Arc). a.link.0 < n) c.args.g.now.arcs) (sym (length-set c.loop-arc.needed.items link (Some c.in-Some.arc))) inv.room;
      marks = omega (arith, c.widen-count.ensures.marks, inv.marks);
      queue = omega (arith, c.widen-count.ensures.queue, inv.queue);
    }

pub loop-arc-preserved : goal.loop-arc-preserved
loop-arc-preserved c =
    let inv = c.loop-arc.invariant in
    let w = next c.args.g.now.arcs c.args.s c.args.t c.loop-arc.carried.items c.loop-arc.needed.items c.loop-arc.back.items c.pop.new.self.items c.in-Some.arc c.in-Some.ensures.items inv.walked in
    record {
      walked = over_seen c.args.g.now c.requires.graph c.args.s c.args.t c.loop-arc.carried.items c.loop-arc.needed.items c.loop-arc.search.marks.items c.loop-arc.search.queue.items c.loop-arc.count
          c.in-Some.arc (reverse c.pop.new.self.items) w inv.search (sym c.is_seen.ensures ∙ c.if-not-is_seen.false);
      search = inv.search;
      room = inv.room;
      marks = inv.marks;
      queue = inv.queue;
    }

pub returns-clause-exact : goal.returns-clause-exact
returns-clause-exact c =
    let empty = nothing-left c.loop-arc.back.items (omega (arith, c.in_default.ensures.cases.0)) in
    walked-all c.args.g.now.arcs c.args.s c.args.t c.loop-arc.carried.items c.loop-arc.needed.items
    (subst (λ (rest : List Arc). Walked c.args.g.now.arcs c.args.s c.args.t c.loop-arc.carried.items c.loop-arc.needed.items rest) empty c.loop-arc.invariant.walked)

pub returns-clause-of_link : goal.returns-clause-of_link
returns-clause-of_link c = c.loop-arc.invariant.walked.of_link

use Rattle.std.proofs.Common.{◌≡◌, ◌+◌, ◌<◌, List, All, length, true≢false, sym, ap, ◌∙◌, subst, refl, arith}
use Rattle.std.proofs.lemmas.List.{with_items_is}
use Rattle.graph_flow.specs.declared.arcs.Arc.{Arc}
use Rattle.graph_flow.specs.declared.search.Mark.{Mark}
use Rattle.graph_flow.specs.Flows.{Units, FlowState, IsFlow, IsGreatest, leaving}
use Rattle.graph_flow.specs.Residual.{residual, sent}
use Rattle.graph_flow.specs.Marks.{AreSteps, IsMarked, IsSpread, mark_at, way_to}
use Rattle.graph_flow.proofs.Turns.{OnArcs}
use Rattle.graph_flow.proofs.Grows.{ends-at, no-more, more-leave, grown-flow, not-greatest, marked-place}
use Rattle.graph_flow.proofs.flow.Flow.grow.Goals as goal

pub returns-then-not-is_seen-clause-greatest : goal.returns-then-not-is_seen-clause-greatest
returns-then-not-is_seen-clause-greatest c =
    let same = sym c.self.view_is in
    let flow = subst (λ (f : FlowState). IsFlow c.args.g.now.arcs c.args.s c.args.t (leaving f.units c.args.s) f.units) same c.requires.flow in
    let spread = subst (λ (units : Units). IsSpread (residual units c.args.g.now.arcs) c.args.s c.seek.new.self.marks.items) c.deref.ensures.value
    (c.seek.ensures.spread (sym c.if-not-is_seen.ensures)) in
    let most = no-more c.args.g.now c.args.s c.args.t c.self.inside.units.items c.seek.new.self.marks.items c.nodes.ensures.graph c.requires.source c.requires.target flow spread
    (sym c.if-not-is_seen.ensures) in
    (λ _. subst (λ (f : FlowState). IsGreatest c.args.g.now.arcs c.args.s c.args.t (leaving f.units c.args.s)) c.self.view_is most, λ _. refl)

pub returns-then-not-is_seen-clause-side : goal.returns-then-not-is_seen-clause-side
returns-then-not-is_seen-clause-side c _ =
    let same = sym c.self.view_is in
    let flow = subst (λ (f : FlowState). IsFlow c.args.g.now.arcs c.args.s c.args.t (leaving f.units c.args.s) f.units) same c.requires.flow in
    let spread = subst (λ (units : Units). IsSpread (residual units c.args.g.now.arcs) c.args.s c.seek.new.self.marks.items) c.deref.ensures.value
    (c.seek.ensures.spread (sym c.if-not-is_seen.ensures)) in
    ends-at c.args.g.now c.args.s c.args.t c.self.inside.units.items c.seek.new.self.marks.items c.nodes.ensures.graph c.requires.source c.requires.target flow spread (sym c.if-not-is_seen.ensures)

pub send-requires-clause-steps : goal.send-requires-clause-steps
send-requires-clause-steps c = subst (λ (marks : List Mark). AreSteps marks) (sym c.deref-2.ensures.value) c.seek.ensures.marked.steps

pub send-requires-clause-links : goal.send-requires-clause-links
send-requires-clause-links c at arc depth e =
    let same = sym c.self.view_is in
    let flow = subst (λ (f : FlowState). IsFlow c.args.g.now.arcs c.args.s c.args.t (leaving f.units c.args.s) f.units) same c.requires.flow in
    let on : OnArcs c.args.g.now.arcs c.self.inside.units.items = record { is_arc = flow.is_arc; of_link = flow.of_link } in
    let room = subst (λ (f : FlowState). All (λ (a : Arc). a.link.0 < length f.units) c.args.g.now.arcs) same c.requires.room.links in
    let marked = subst (λ (units : Units). IsMarked (residual units c.args.g.now.arcs) c.args.s c.seek.new.self.marks.items) c.deref.ensures.value c.seek.ensures.marked in
    let place = marked-place c.args.g.now c.args.s c.self.inside.units.items c.seek.new.self.marks.items on marked room at arc depth
    (ap (λ (marks : List Mark). mark_at marks at) (sym c.deref-2.ensures.value) ∙ e) in
    subst (λ (units : Units). arc.link.0 < length units) (sym c.deref_mut.ensures.value) place

pub returns-clause-greatest : goal.returns-clause-greatest
returns-clause-greatest c =
    let same = sym c.self.view_is in
    let flow = subst (λ (f : FlowState). IsFlow c.args.g.now.arcs c.args.s c.args.t (leaving f.units c.args.s) f.units) same c.requires.flow in
    let room = subst (λ (f : FlowState). All (λ (a : Arc). a.link.0 < length f.units) c.args.g.now.arcs) same c.requires.room.links in
    let marked = subst (λ (units : Units). IsMarked (residual units c.args.g.now.arcs) c.args.s c.seek.new.self.marks.items) c.deref.ensures.value c.seek.ensures.marked in (
      λ h. absurd (true≢false h),
      λ most. absurd (not-greatest c.args.g.now c.args.s c.args.t c.self.inside.units.items c.seek.new.self.marks.items c.nodes.ensures.graph c.requires.source c.requires.target
          flow marked c.requires.apart room (sym c.if-not-is_seen.ensures)
          (subst (λ (f : FlowState). IsGreatest c.args.g.now.arcs c.args.s c.args.t (leaving f.units c.args.s)) same most)),
    )

pub returns-clause-raised : goal.returns-clause-raised
returns-clause-raised c _ =
    let same = sym c.self.view_is in
    let flow = subst (λ (f : FlowState). IsFlow c.args.g.now.arcs c.args.s c.args.t (leaving f.units c.args.s) f.units) same c.requires.flow in
    let room = subst (λ (f : FlowState). All (λ (a : Arc). a.link.0 < length f.units) c.args.g.now.arcs) same c.requires.room.links in
    let marked = subst (λ (units : Units). IsMarked (residual units c.args.g.now.arcs) c.args.s c.seek.new.self.marks.items) c.deref.ensures.value c.seek.ensures.marked in
    let size : length c.send.new.units ≡ c.self.inside.units.len = omega arith in
    let new = with_items_is c.self.inside.units c.send.new.units size ∙ c.send.ensures ∙ ap (λ (units : Units). sent units (way_to c.deref-2.result.now c.args.t)) c.deref_mut.ensures.value
    ∙ ap (λ (marks : List Mark). sent c.self.inside.units.items (way_to marks c.args.t)) c.deref-2.ensures.value in
    let more = more-leave c.args.g.now c.args.s c.args.t c.self.inside.units.items c.seek.new.self.marks.items c.nodes.ensures.graph c.requires.source c.requires.target flow
    marked c.requires.apart room (sym c.if-not-is_seen.ensures) in
    ap (λ (units : Units). leaving units c.args.s) new ∙ more ∙ ap (λ (f : FlowState). leaving f.units c.args.s + 1) c.self.view_is

pub returns-clause-flow : goal.returns-clause-flow
returns-clause-flow c =
    let same = sym c.self.view_is in
    let flow = subst (λ (f : FlowState). IsFlow c.args.g.now.arcs c.args.s c.args.t (leaving f.units c.args.s) f.units) same c.requires.flow in
    let room = subst (λ (f : FlowState). All (λ (a : Arc). a.link.0 < length f.units) c.args.g.now.arcs) same c.requires.room.links in
    let marked = subst (λ (units : Units). IsMarked (residual units c.args.g.now.arcs) c.args.s c.seek.new.self.marks.items) c.deref.ensures.value c.seek.ensures.marked in
    let size : length c.send.new.units ≡ c.self.inside.units.len = omega arith in
    let new = with_items_is c.self.inside.units c.send.new.units size ∙ c.send.ensures ∙ ap (λ (units : Units). sent units (way_to c.deref-2.result.now c.args.t)) c.deref_mut.ensures.value
    ∙ ap (λ (marks : List Mark). sent c.self.inside.units.items (way_to marks c.args.t)) c.deref-2.ensures.value in
    subst (λ (units : Units). IsFlow c.args.g.now.arcs c.args.s c.args.t (leaving units c.args.s) units) (sym new)
    (grown-flow c.args.g.now c.args.s c.args.t c.self.inside.units.items c.seek.new.self.marks.items c.nodes.ensures.graph c.requires.source c.requires.target flow marked
    c.requires.apart room (sym c.if-not-is_seen.ensures))

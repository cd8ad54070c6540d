use Rattle.std.proofs.Common.{◌≤◌, length, ap, arith, false}
use Rattle.policy_encode.proofs.Making.{link_step, links_all}
use Rattle.policy_encode.proofs.condition_arcs.ArcContext.arcs.Goals as goal

pub loop-place-preserved : goal.loop-place-preserved
loop-place-preserved c = λ list is.
    link_step c.args.self.now.net.now list c.args.self.now.to c.args.self.now.classes.now c.slice-row-items.result.now
    (record { a = record { 0 = 0 }; b = record { 0 = 0 }; waypoint = false }) c.loop-place.arcs c.add_link.new.arcs c.loop-place.place
    c.slice-row-items.ensures.items c.loop-place-test.true (c.loop-place.invariant list is) (c.in_ok-add_link.ensures list is)

pub returns : goal.returns
returns c = λ list is.
    let past : length c.args.self.now.net.now.links ≤ c.loop-place.place = omega (arith, c.loop-place-test.false, ap length c.slice-row-items.ensures.items) in
    links_all c.args.self.now.net.now list c.args.self.now.to c.args.self.now.classes.now c.loop-place.arcs c.loop-place.place c.is_told.result c.is_told.ensures.value
    c.if-not-is_told.false past (c.loop-place.invariant list is)

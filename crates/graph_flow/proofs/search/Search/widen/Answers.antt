use Rattle.std.proofs.Common.{None, refl, arith}
use Rattle.graph_flow.proofs.Turns.{OnArcs, OnArcs-set, none≢some}
use Rattle.graph_flow.proofs.Cuts.{place_below}
use Rattle.graph_flow.proofs.Opened.{has_room, opened_as}
use Rattle.graph_flow.proofs.search.Search.widen.Goals as goal

pub follow-more-requires-clause-room : goal.follow-more-requires-clause-room
follow-more-requires-clause-room c unseen =
    let on : OnArcs c.args.g.now.arcs c.args.carried.now = record { is_arc = c.requires.units; of_link = c.requires.of_link } in
    omega (
      arith,
      has_room c.args.g.now c.requires.graph c.args.carried.now on c.args.arc c.requires.arc c.args.from c.args.self.now.marks.items c.args.self.now.queue.items c.args.count
          c.requires.search (omega (arith, c.requires.marks)) (omega (arith, c.requires.queue, c.requires.marks)) c.requires.tail unseen,
    )

pub close-requires-clause-ways : goal.close-requires-clause-ways
close-requires-clause-ways c =
    let on : OnArcs c.args.g.now.arcs c.args.carried.now = record { is_arc = c.requires.units; of_link = c.requires.of_link } in
    let after = OnArcs-set c.args.g.now.arcs c.args.carried.now c.args.arc.link.0 None on (place_below c.args.carried.now c.args.arc.link.0 c.args.arc c.requires.arc)
    (λ b e. absurd (none≢some b None refl e)) in
    after.is_arc

pub close-requires-clause-search : goal.close-requires-clause-search
close-requires-clause-search c =
    let on : OnArcs c.args.g.now.arcs c.args.carried.now = record { is_arc = c.requires.units; of_link = c.requires.of_link } in
    let at = opened_as c.args.g.now c.requires.graph c.args.carried.now on c.args.arc c.requires.arc c.args.from c.args.self.now.marks.items c.args.self.now.queue.items c.args.count
    c.requires.search (omega (arith, c.requires.marks)) (omega (arith, c.requires.queue, c.requires.marks)) c.requires.tail c.requires.head
    c.follow-more.new.self.marks.items c.follow-more.new.self.queue.items c.follow-more.result c.follow-more.ensures.follows in
    at.0

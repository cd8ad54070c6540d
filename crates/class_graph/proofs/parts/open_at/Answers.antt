use Rattle.std.proofs.Common.{sym, arith}
use Rattle.class_graph.proofs.ClassParts.{takes_as, opens_rising, opens_falling}
use Rattle.class_graph.specs.Answers.{EndsAllow}
use Rattle.class_graph.proofs.parts.open_at.Goals as goal

pub returns-then-a-b : goal.returns-then-a-b
returns-then-a-b c =
    let a = c.in-Some-get.a.now in
    let b = c.in-Some-get-2.b.now in
    let link = c.in-Some.link.now in
    opens_rising c.args.net.now c.args.mode c.args.answers.now c.args.place link a b (sym c.in-Some.ensures.item) (sym c.in-Some-get.ensures.item) (sym c.in-Some-get-2.ensures.item)
    c.takes-forth.result c.takes-back.result
    (takes_as c.args.mode c.takes-forth.result c.arc_allows.result link.waypoint (EndsAllow c.args.answers.now a b) c.takes-forth.ensures c.arc_allows.ensures)
    (takes_as c.args.mode c.takes-back.result c.arc_allows-2.result link.waypoint (EndsAllow c.args.answers.now b a) c.takes-back.ensures c.arc_allows-2.ensures)
    (omega (arith, c.if-a-b.true))

pub returns-else-a-b : goal.returns-else-a-b
returns-else-a-b c =
    let a = c.in-Some-get.a.now in
    let b = c.in-Some-get-2.b.now in
    let link = c.in-Some.link.now in
    opens_falling c.args.net.now c.args.mode c.args.answers.now c.args.place link a b (sym c.in-Some.ensures.item) (sym c.in-Some-get.ensures.item) (sym c.in-Some-get-2.ensures.item)
    c.takes-forth.result c.takes-back.result
    (takes_as c.args.mode c.takes-forth.result c.arc_allows.result link.waypoint (EndsAllow c.args.answers.now a b) c.takes-forth.ensures c.arc_allows.ensures)
    (takes_as c.args.mode c.takes-back.result c.arc_allows-2.result link.waypoint (EndsAllow c.args.answers.now b a) c.takes-back.ensures c.arc_allows-2.ensures)
    (omega (arith, c.if-a-b.false))

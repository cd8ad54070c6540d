use Rattle.std.proofs.Common.{IsTrue, sym, ◌∙◌}
use Rattle.class_graph.specs.Building.{flag}
use Rattle.class_graph.proofs.NetworkArcs.{flag_tells, read_arc, ReadArc}
use Rattle.class_graph.proofs.Denied.{denied_read}
use Rattle.class_graph.proofs.denials.denies.Goals as goal

pub returns : goal.returns
returns c =
    let net = c.args.net.now in
    let to = c.args.pair.now.to in
    let link = c.args.link.0 in
    let row = c.in-Some-get.row.now in
    let tail = c.in-Some-get-2.tail.now in
    let head = c.in-Some-get-3.head.now in
    let lead : IsTrue (flag c.in-Some.flags.now c.args.from_a) = sym c.leads.ensures ∙ c.if-not-leads.false in
    let read : ReadArc net to link c.args.from_a row tail head = read_arc net to link c.args.from_a row c.tail.result c.head.result tail head
    (sym c.in-Some-get.ensures.item) c.tail.ensures c.head.ensures (sym c.in-Some-get-2.ensures.item) (sym c.in-Some-get-3.ensures.item) in
    denied_read net to c.args.answers.now link c.args.from_a row tail head read
    ((flag_tells net link to c.in-Some.flags.now (c.requires.each link c.in-Some.flags.now (sym c.in-Some.ensures.item)) c.args.from_a).0 lead)
    c.arc_allows.result c.arc_allows.ensures.0 c.arc_allows.ensures.1

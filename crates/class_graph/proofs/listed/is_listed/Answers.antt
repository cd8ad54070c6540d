use Rattle.std.proofs.Common.{sym}
use Rattle.class_graph.proofs.Unlisted.{unlisted}
use Rattle.class_graph.proofs.listed.is_listed.Goals as goal

pub returns : goal.returns
returns c off =
    unlisted c.args.net.now c.args.place c.in-Some.link.now c.in-Some-get.a.now c.in-Some-get-2.b.now (sym c.in-Some.ensures.item) (sym c.in-Some-get.ensures.item)
    (sym c.in-Some-get-2.ensures.item) (c.has_list.ensures c.if-has_list.false) (c.has_list-2.ensures off)

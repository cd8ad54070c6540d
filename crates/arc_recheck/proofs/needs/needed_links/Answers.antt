use Rattle.std.proofs.lemmas.Result.{IfOk-weaker}
use Rattle.arc_recheck.proofs.Ways.{answered}
use Rattle.verdicts.proofs.Reached.{pair_source, pair_target}
use Rattle.arc_recheck.proofs.needs.needed_links.Goals as goal

pub needed_links-requires-clause-source : goal.needed_links-requires-clause-source
needed_links-requires-clause-source c =
    pair_source c.args.net.now c.requires.valid c.requires.pair.0 c.args.pair.now c.requires.pair.1 c.args.graph.now c.requires.graph.nodes

pub needed_links-requires-clause-target : goal.needed_links-requires-clause-target
needed_links-requires-clause-target c =
    pair_target c.args.net.now c.requires.valid c.requires.pair.0 c.args.pair.now c.requires.pair.1 c.args.graph.now c.requires.graph.nodes

pub returns : goal.returns
returns c =
    IfOk-weaker c.needed_links.result _ _
    (λ found are ends is. answered c.args.net.now ends c.args.pair.now is c.args.graph.now c.requires.graph found are)
    c.needed_links.ensures

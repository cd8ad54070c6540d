use Rattle.std.proofs.Common.{sym, ◌∙◌}
use Rattle.std.proofs.lemmas.Bool.{false≢true}
use Rattle.std.proofs.lemmas.Result.{IfOk-weaker}
use Rattle.net_model.specs.Packets.{subject}
use Rattle.class_graph.proofs.LastGraphs.{some_graph, graph_of}
use Rattle.witness_check.specs.Cases.{ends_in}
use Rattle.arc_recheck.proofs.Passing.{passes_told}
use Rattle.arc_recheck.proofs.Hanging.{none_of_kind, none_of_verdict, none_of_passes, alone_of_needed}
use Rattle.arc_recheck.proofs.singles.alone_with.Goals as goal

pub returns-then-not-is_reach-clause-answer : goal.returns-then-not-is_reach-clause-answer
returns-then-not-is_reach-clause-answer c = none_of_kind c.args.net.now c.args.policy.now (sym c.is_reach.ensures ∙ c.if-not-is_reach.true)

pub returns-then-not-shows_routes-clause-answer : goal.returns-then-not-shows_routes-clause-answer
returns-then-not-shows_routes-clause-answer c =
    none_of_verdict c.args.net.now c.requires.valid c.args.policy.now (sym c.is_reach.ensures ∙ c.if-not-is_reach.false) c.args.verdict.now c.requires.right
    (sym c.shows_routes.ensures ∙ c.if-not-shows_routes.true)

pub returns-then-not-each_passes-clause-answer : goal.returns-then-not-each_passes-clause-answer
returns-then-not-each_passes-clause-answer c =
    let told = passes_told c.of-case.result.net.now c.args.net.now (ends_in c.of-case.result) c.of-case.result.whole (subject c.args.policy.now) c.of-case.ensures.net c.of-case.ensures.whole
    c.each_passes.result c.each_passes.ensures in
    none_of_passes c.args.net.now c.requires.valid c.args.policy.now (ends_in c.of-case.result) c.of-case.ensures.ends
    (λ all. false≢true (sym c.if-not-each_passes.true ∙ told.1 all))

pub returns-clause-answer : goal.returns-clause-answer
returns-clause-answer c =
    let told = passes_told c.of-case.result.net.now c.args.net.now (ends_in c.of-case.result) c.of-case.result.whole (subject c.args.policy.now) c.of-case.ensures.net c.of-case.ensures.whole
    c.each_passes.result c.each_passes.ensures in
    IfOk-weaker c.needed_links.result _ _
    (λ found needed. alone_of_needed c.args.net.now c.requires.valid c.args.policy.now (sym c.is_reach.ensures ∙ c.if-not-is_reach.false) c.args.verdict.now c.requires.right
    (sym c.shows_routes.ensures ∙ c.if-not-shows_routes.false) (ends_in c.of-case.result) c.of-case.ensures.ends (told.0 c.if-not-each_passes.false)
    c.subject.result c.subject.ensures c.in_ok-pair.pair c.in_ok-pair.ensures found needed)
    c.needed_links.ensures

pub graph_in-requires : goal.graph_in-requires
graph_in-requires c = some_graph c.args.net.now c.in_ok-pair.pair.to c.refresh_graph.new.last c.in_ok-refresh_graph.ensures.graph

pub needed_links-requires-clause-graph : goal.needed_links-requires-clause-graph
needed_links-requires-clause-graph c =
    graph_of c.args.net.now c.in_ok-pair.pair.to c.refresh_graph.new.last c.graph_in.result.now c.in_ok-refresh_graph.ensures.graph c.graph_in.ensures

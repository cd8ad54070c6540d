use Rattle.std.proofs.lemmas.Result.{IfOk-weaker}
use Rattle.class_graph.proofs.LastGraphs.{some_graph, graph_of, listed_of}
use Rattle.verdicts.proofs.Verdicts.{blocked_as, through_as}
use Rattle.verdicts.proofs.judgement.judge_classes.Goals as goal

pub returns-in-Blocked-clause-verdict : goal.returns-in-Blocked-clause-verdict
returns-in-Blocked-clause-verdict c =
    IfOk-weaker c.judge_blocking.result _ _
    (λ v answer. λ ends whole is parts. blocked_as c.args.net.now ends c.args.kind c.in-Blocked.is whole c.args.parts.now parts v (answer ends is)) c.judge_blocking.ensures

pub returns-in-Through-clause-verdict : goal.returns-in-Through-clause-verdict
returns-in-Through-clause-verdict c =
    IfOk-weaker c.judge_blocking-in-Through.result _ _
    (λ v answer. λ ends whole is parts. through_as c.args.net.now ends c.args.kind c.in-Through.is whole c.args.parts.now parts v (answer ends is)) c.judge_blocking-in-Through.ensures

pub graph_in-graph-requires : goal.graph_in-graph-requires
graph_in-graph-requires c = some_graph c.args.net.now c.args.pair.now.to c.refresh_graph.new.last c.in_ok-refresh_graph.ensures.graph

pub listed_in-listed-requires : goal.listed_in-listed-requires
listed_in-listed-requires c = some_graph c.args.net.now c.args.pair.now.to c.refresh_graph.new.last c.in_ok-refresh_graph.ensures.graph

pub judge_blocking-requires-clause-graph : goal.judge_blocking-requires-clause-graph
judge_blocking-requires-clause-graph c =
    graph_of c.args.net.now c.args.pair.now.to c.refresh_graph.new.last c.graph_in-graph.result.now c.in_ok-refresh_graph.ensures.graph c.graph_in-graph.ensures

pub judge_blocking-requires-in-Through-clause-graph : goal.judge_blocking-requires-in-Through-clause-graph
judge_blocking-requires-in-Through-clause-graph c =
    graph_of c.args.net.now c.args.pair.now.to c.refresh_graph.new.last c.graph_in-graph.result.now c.in_ok-refresh_graph.ensures.graph c.graph_in-graph.ensures

pub judge_reach-requires-clause-graph : goal.judge_reach-requires-clause-graph
judge_reach-requires-clause-graph c =
    graph_of c.args.net.now c.args.pair.now.to c.refresh_graph.new.last c.graph_in-graph.result.now c.in_ok-refresh_graph.ensures.graph c.graph_in-graph.ensures

pub judge_reach-requires-clause-listed : goal.judge_reach-requires-clause-listed
judge_reach-requires-clause-listed c =
    listed_of c.args.net.now c.refresh_graph.new.last c.listed_in-listed.result.now c.refresh_graph.ensures.last
    (some_graph c.args.net.now c.args.pair.now.to c.refresh_graph.new.last c.in_ok-refresh_graph.ensures.graph) c.listed_in-listed.ensures

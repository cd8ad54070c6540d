use Rattle.graph_flow.proofs.Rows.{undone}
use Rattle.graph_flow.proofs.graph.add.Goals as goal

pub returns-in-Err-clause-err : goal.returns-in-Err-clause-err
returns-in-Err-clause-err c =
    undone c.args.rows.now c.args.arc.tail c.args.arc.head c.push.new.self c.push-2.new.self c.pop.new.self _ _ _ c.args.arc c.requires.tail
    c.in_ok-push.ensures.ok c.in-Err.ensures.err c.pop.ensures

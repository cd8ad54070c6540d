use Rattle.std.proofs.lemmas.Result.{err_from_is_err_and}
use Rattle.net_checks.proofs.Adjacencies.{types_fail, ids_decide}
use Rattle.net_checks.proofs.adjacency.try_adjacency.Goals as goal

pub returns-in_err-try_types : goal.returns-in_err-try_types
returns-in_err-try_types c = λ doc rows.
    let p = err_from_is_err_and c.from_residual.result c.from_residual.ensures.1 in
    rw (p.1, p.2)
    (types_fail doc c.args.configs.now c.requires.named c.args.net.now rows c.in_err-try_types.field-0.0 c.in_err-try_types.ensures)

pub returns : goal.returns
returns c = λ doc rows.
    ids_decide doc c.args.configs.now c.requires.named c.args.net.now rows c.in_ok-try_types.ensures.0 c.try_router_ids.result c.try_router_ids.ensures

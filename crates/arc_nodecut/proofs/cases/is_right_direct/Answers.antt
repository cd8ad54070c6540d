use Rattle.std.proofs.lemmas.Bool.{false≢true}
use Rattle.std.proofs.Common.{sym, ◌∙◌}
use Rattle.witness_check.specs.Cases.{ends_in}
use Rattle.arc_nodecut.proofs.Serving.{direct_if, local_not_direct, unjoined_not_direct}
use Rattle.arc_nodecut.proofs.cases.is_right_direct.Goals as goal

pub returns : goal.returns
returns c =
    direct_if c.args.case.now.net.now (ends_in c.args.case.now) c.args.case.now.whole c.args.link (λ e. false≢true (sym c.if-is_local.false ∙ c.is_local.ensures.1 e))
    (c.joins.ensures.0 c.if-not-joins.false) c.is_served.result c.is_served.ensures

pub returns-then-is_local : goal.returns-then-is_local
returns-then-is_local c = local_not_direct c.args.case.now.net.now (ends_in c.args.case.now) c.args.case.now.whole c.args.link (c.is_local.ensures.0 c.if-is_local.true)

pub returns-then-not-joins : goal.returns-then-not-joins
returns-then-not-joins c = unjoined_not_direct c.args.case.now.net.now (ends_in c.args.case.now) c.args.case.now.whole c.args.link (λ j. false≢true (sym c.if-not-joins.true ∙ c.joins.ensures.1 j))

use Rattle.std.proofs.Common.{sym, ◌∙◌}
use Rattle.std.proofs.lemmas.Bool.{false≢true}
use Rattle.net_build.proofs.NetworkTried.{has_ends}
use Rattle.reach_commands.proofs.AddedPolicy.{ends_refused}
use Rattle.reach_commands.proofs.added.with_policy.Goals as goal

pub returns-then-not-has_endpoints-clause-told : goal.returns-then-not-has_endpoints-clause-told
returns-then-not-has_endpoints-clause-told c =
    ends_refused c.args.document.now c.args.net.now c.args.policies c.args.policy c.refused.result
    (λ ends. false≢true (sym c.if-not-has_endpoints.true ∙ c.has_endpoints.ensures.1 ends)) c.refused.ensures

pub returns-clause-ends : goal.returns-clause-ends
returns-clause-ends c = has_ends c.args.net.now c.requires c.args.policy (c.has_endpoints.ensures.0 c.if-not-has_endpoints.false)

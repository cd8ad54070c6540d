use Rattle.std.proofs.Common.{subst}
use Rattle.std.specs.Option.{option_copied}
use Rattle.arc_recheck.specs.Rechecks.{IsOldKept}
use Rattle.arc_recheck.proofs.Anew.{is_anew}
use Rattle.arc_recheck.proofs.rechecking.recheck_few.Goals as goal

pub returns-in-Some-clause-rechecked : goal.returns-in-Some-clause-rechecked
returns-in-Some-clause-rechecked c = subst (IsOldKept c.args.net.now c.args.policy.now (option_copied c.args.old)) c.in-Some.is c.in_ok-kept.ensures c.args.policies.now

pub returns-in_ok-verdict-in-None-clause-rechecked : goal.returns-in_ok-verdict-in-None-clause-rechecked
returns-in_ok-verdict-in-None-clause-rechecked c =
    is_anew c.args.net.now c.args.policies.now c.args.policy.now (option_copied c.args.old) c.in_ok-verdict-in-None.verdict
    (subst (IsOldKept c.args.net.now c.args.policy.now (option_copied c.args.old)) c.in-None.is c.in_ok-kept.ensures)
    c.in_ok-verdict-in-None.ensures.right c.in_ok-verdict-in-None.ensures.fixed

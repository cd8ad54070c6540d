use Rattle.std.proofs.Common.{false, sym, subst}
use Rattle.std.specs.Option.{option_copied}
use Rattle.std.proofs.lemmas.Result.{err_from_is_err_and}
use Rattle.net_model.specs.Witnesses.{IsRight}
use Rattle.traffic_classes.proofs.Marked.{there}
use Rattle.verdicts.specs.Fixed.{IsFixed}
use Rattle.verdicts.proofs.Verdicts.{at_some}
use Rattle.arc_recheck.specs.Rechecks.{IsOldKept, IsRechecked}
use Rattle.arc_recheck.proofs.Anew.{is_anew, many_anew}
use Rattle.arc_recheck.proofs.rechecking.recheck.Goals as goal

pub returns-in-Some-kept-clause-rechecked : goal.returns-in-Some-kept-clause-rechecked
returns-in-Some-kept-clause-rechecked c =
    there _ c.in-Some.policy.now (λ p. IsRechecked c.args.net.now c.args.policies.now p (option_copied c.args.old) c.in-Some-kept.rechecked) c.in-Some.ensures.item
    (subst (IsOldKept c.args.net.now c.in-Some.policy.now (option_copied c.args.old)) c.in-Some-kept.is c.in_ok-kept.ensures c.args.policies.now)

pub returns-in_ok-verdict-in-None-clause-rechecked : goal.returns-in_ok-verdict-in-None-clause-rechecked
returns-in_ok-verdict-in-None-clause-rechecked c =
    let policy = c.in-Some.policy.now in
    let v = c.in_ok-verdict-in-None.verdict in
    there _ policy (λ p. IsRechecked c.args.net.now c.args.policies.now p (option_copied c.args.old) (record { kept = false; verdict = v })) c.in-Some.ensures.item
    (is_anew c.args.net.now c.args.policies.now policy (option_copied c.args.old) v (subst (IsOldKept c.args.net.now policy (option_copied c.args.old)) c.in-None.is c.in_ok-kept.ensures)
    (at_some _ policy (λ p. IsRight c.args.net.now p v) (sym c.in-Some.ensures.item) c.in_ok-verdict-in-None.ensures.right)
    (at_some _ policy (λ p. IsFixed c.args.net.now c.args.policies.now p v) (sym c.in-Some.ensures.item) c.in_ok-verdict-in-None.ensures.fixed))

pub returns-in_err-verdict-in-None-clause-many : goal.returns-in_err-verdict-in-None-clause-many
returns-in_err-verdict-in-None-clause-many c =
    let p = err_from_is_err_and c.from_residual-in_err-verdict-in-None.result c.from_residual-in_err-verdict-in-None.ensures.1 in
    rw (p.1, p.2) (many_anew c.args.net.now c.args.policies.now _ c.in-Some.policy.now (option_copied c.args.old) (sym c.in-Some.ensures.item)
    (subst (IsOldKept c.args.net.now c.in-Some.policy.now (option_copied c.args.old)) c.in-None.is c.in_ok-kept.ensures)
    c.in_err-verdict-in-None.field-0.0 c.in_err-verdict-in-None.ensures.many)

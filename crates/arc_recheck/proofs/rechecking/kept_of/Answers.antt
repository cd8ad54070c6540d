use Rattle.std.proofs.Common.{Some, ap, refl, sym, subst, ◌∙◌}
use Rattle.std.specs.Option.{option_copied}
use Rattle.std.specs.Prelude.{IsSomeAnd}
use Rattle.std.proofs.lemmas.Bool.{false≢true}
use Rattle.net_model.specs.Witnesses.{IsRight}
use Rattle.arc_recheck.proofs.rechecking.kept_of.Goals as goal

pub returns-in_default : goal.returns-in_default
returns-in_default c = λ can. subst (λ o. IsSomeAnd (option_copied o) (IsRight c.args.net.now c.args.policy.now)) c.in_default.is can

pub returns-then-not-accepts : goal.returns-then-not-accepts
returns-then-not-accepts c = λ can.
    false≢true (sym c.if-not-accepts.true ∙ c.accepts.ensures.1 (subst (λ o. IsSomeAnd (option_copied o) (IsRight c.args.net.now c.args.policy.now)) c.in-Some.is can))

pub returns : goal.returns
returns c = λ policies.
    let at = ap option_copied c.in-Some.is in
    let right = c.accepts.ensures.0 c.if-not-accepts.false in
    record {
      kept = (λ t. subst (λ o. IsSomeAnd o (IsRight c.args.net.now c.args.policy.now)) (sym at) right, λ can. refl);
      same = λ t. at ∙ ap Some (sym c.in_ok-copy.ensures);
      anew = λ off. absurd (false≢true (sym off));
      right = subst (IsRight c.args.net.now c.args.policy.now) (sym c.in_ok-copy.ensures) right;
    }

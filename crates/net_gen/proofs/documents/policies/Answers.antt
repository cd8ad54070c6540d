use Rattle.std.proofs.Common.{◌≡◌, ℕ, ◌+◌, [], ◌∷◌, List, sym, subst, arith}
use Rattle.std.specs.Prelude.{map}
use Rattle.std.specs.List.{AllZip}
use Rattle.arc_base.proofs.Zips.{AllZip-append}
use Rattle.net_model.specs.declared.policies.Policy.{Policy}
use Rattle.net_model.specs.declared.policies.PolicyKind.TheVariants.{Blocked, Reach}
use Rattle.net_gen.specs.Plans.{numbers}
use Rattle.net_gen.specs.Generated.{Asks, asked, asked_around}
use Rattle.net_gen.proofs.Counted.{asked_more, pushed_long}
use Rattle.net_gen.proofs.documents.policies.Goals as goal

pub loop-place-preserved : goal.loop-place-preserved
loop-place-preserved c =
    let asks : Asks (asked_around c.args.routers (c.loop-place.place + 1)) c.policy.result =
    subst (λ (target : ℕ). Asks (record { kind = Reach 1; source = c.loop-place.place + 1; target = target }) c.policy.result) c.next.ensures c.policy.ensures in
    record {
      asked = asked_more (asked_around c.args.routers) c.loop-place.place c.loop-place.policies c.push.new.self c.policy.result c.in_ok-push.ensures.ok c.loop-place.invariant.asked asks;
      long = pushed_long c.loop-place.policies c.push.new.self c.policy.result c.loop-place.place c.in_ok-push.ensures.ok c.loop-place.invariant.long;
    }

pub returns : goal.returns
returns c =
    let n = c.args.routers in
    let end : c.loop-place.place ≡ n = omega (arith, c.loop-place-test.false, c.loop-place.auto.place-end) in
    let around : AllZip Asks (map (asked_around n) (numbers n)) c.loop-place.policies =
    subst (λ (k : ℕ). AllZip Asks (map (asked_around n) (numbers k)) c.loop-place.policies) end c.loop-place.invariant.asked in
    subst (λ (ps : List Policy). AllZip Asks (asked n) ps) (sym c.in_ok-push-2.ensures.ok)
    (AllZip-append Asks (map (asked_around n) (numbers n)) c.loop-place.policies (record { kind = Blocked; source = 1; target = n } ∷ []) (c.policy-2.result ∷ []) around (c.policy-2.ensures, tt))

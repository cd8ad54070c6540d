use Rattle.std.proofs.Common.{◌≡◌, ℕ, ◌+◌, ◌<◌, List, [], ◌∷◌, ◌++◌, length, get_or, take, ap, subst, sym, ◌∙◌}
use Rattle.std.specs.Prelude.{All}
use Rattle.std.proofs.lemmas.List.{take_more, take_all}
use Rattle.std.proofs.lemmas.List.Elements.{All-push}
use Rattle.arc_base.specs.declared.refusal.Kind.TheVariants as kinds
use Rattle.net_doc.specs.declared.fault.Refusal.{Refusal}
use Rattle.net_model.specs.declared.policies.Policy.{Policy}
use Rattle.net_rules.specs.Reasons.{NoRefusal, IsEarliest, InDocument}
use Rattle.net_rules.specs.Addressing.{HasEndpoints}
use Rattle.net_rules.proofs.Firsts.{tried_refused, bad_item, good_item, none_all}
use Rattle.net_checks.proofs.ends.try_endpoints.Goals as goal

all_more : {X : Type 0} (P : X → Type 0) (xs : List X) (n : ℕ) (x : X) → n < length xs → x ≡ get_or xs n x → All P (take n xs) → P x → All P (take (n + 1) xs)
all_more P xs n x within is all one =
    subst (λ l. All P l) (sym (take_more xs n x within ∙ ap (λ z. take n xs ++ z ∷ []) (sym is))) (All-push P (take n xs) x all one)

pub returns-then-not-has_endpoints-clause-tried : goal.returns-then-not-has_endpoints-clause-tried
returns-then-not-has_endpoints-clause-tried c =
    let Offends : ℕ → Policy → Type 0 = λ place policy. ¬ HasEndpoints c.args.net.now policy.from policy.to in
    let r : Refusal = record { file = 0; number = c.loop-place.place + 1; kind = kinds.Endpoint } in
    tried_refused (InDocument kinds.Endpoint Offends c.args.doc.now.policies) (λ (done : Unit {0}). Unit {0}) c.in_document.result r c.in_document.ensures
    (subst (λ (policies : List Policy). IsEarliest (InDocument kinds.Endpoint Offends policies) r) c.slice-policy-items.ensures.items
    (bad_item kinds.Endpoint (λ (policy : Policy). HasEndpoints c.args.net.now policy.from policy.to) c.slice-policy-items.result.now c.loop-place.place c.policy-item.result
    c.loop-place-test.true c.policy-item.is c.has_endpoints.result c.has_endpoints.ensures c.loop-place.invariant.none c.if-not-has_endpoints.true))

pub loop-place-preserved : goal.loop-place-preserved
loop-place-preserved c =
    let Good : Policy → Type 0 = λ policy. HasEndpoints c.args.net.now policy.from policy.to in
    record {
      none = good_item kinds.Endpoint Good c.slice-policy-items.result.now c.loop-place.place c.policy-item.result c.loop-place-test.true c.policy-item.is c.has_endpoints.result
          c.has_endpoints.ensures c.loop-place.invariant.none c.if-not-has_endpoints.false;
      ends = all_more Good c.slice-policy-items.result.now c.loop-place.place c.policy-item.result c.loop-place-test.true c.policy-item.is c.loop-place.invariant.ends
          (c.has_endpoints.ensures.0 c.if-not-has_endpoints.false);
    }

pub returns-clause-tried : goal.returns-clause-tried
returns-clause-tried c =
    let Offends : ℕ → Policy → Type 0 = λ place policy. ¬ HasEndpoints c.args.net.now policy.from policy.to in (
      subst (λ (policies : List Policy). NoRefusal (InDocument kinds.Endpoint Offends policies)) c.slice-policy-items.ensures.items
          (none_all kinds.Endpoint Offends c.slice-policy-items.result.now c.loop-place.place c.loop-place-test.false c.loop-place.invariant.none),
      tt,
    )

pub returns-clause-ends : goal.returns-clause-ends
returns-clause-ends c =
    subst (λ (policies : List Policy). All (λ (policy : Policy). HasEndpoints c.args.net.now policy.from policy.to) policies)
    (take_all c.loop-place.place c.slice-policy-items.result.now c.loop-place-test.false ∙ c.slice-policy-items.ensures.items) c.loop-place.invariant.ends

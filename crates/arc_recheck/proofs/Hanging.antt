-- The links that are needed are those that a reach policy hangs on.
use Rattle.std.proofs.Common.{◌≡◌, ℕ, ◌-◌, ◌^◌, ◌≤◌, true, false, Option, Some, None, List, length, refl, sym, ap, ◌∙◌, subst, arith}
use Rattle.std.proofs.Math.Nat.{min-le_left}
use Rattle.std.proofs.lemmas.Bool.{false≢true}
use Rattle.arc_base.specs.declared.place.Link.{Link}
use Rattle.net_model.specs.declared.policies.Class.{Class}
use Rattle.net_model.specs.declared.policies.Policy.{Policy}
use Rattle.net_model.specs.declared.policies.PolicyKind.{PolicyKind}
use Rattle.net_model.specs.declared.policies.PolicyKind.TheVariants.{Blocked, Through, Reach}
use Rattle.net_model.specs.declared.rows.Network.{Network}
use Rattle.net_model.specs.declared.verdicts.Verdict.{Verdict}
use Rattle.net_model.specs.declared.verdicts.Verdict.TheVariants.{Closed, Paths, Walk, Denied, Cut, Refused}
use Rattle.net_model.specs.Packets.{subject}
use Rattle.net_model.specs.Forwarding.{Ends, AreEnds}
use Rattle.net_model.specs.Policies.{IsClear, Reaches}
use Rattle.net_model.specs.Validity.{IsValid}
use Rattle.net_model.specs.Witnesses.{IsRight, IsRightFor, IsRightReach}
use Rattle.net_model.proofs.Hosts.{one_pair_of_ends}
use Rattle.net_laws.proofs.RightPaths.{refusals_are_right}
use Rattle.net_laws.proofs.RightCuts.{right_denials_break_reach}
use Rattle.class_graph.specs.Hosts.{IsHostPair, IsHostPairOf}
use Rattle.class_graph.specs.Passing.{EachPasses}
use Rattle.class_graph.specs.declared.hosts.HostPair.{HostPair}
use Rattle.verdicts.specs.Fixed.{IsFixed}
use Rattle.traffic_classes.specs.Classes.{told}
use Rattle.verdicts.proofs.Lists.{rising_numbers}
use Rattle.net_laws.specs.Breaking.{no_link}
use Rattle.net_laws.specs.Routes.{just, HasRoute}
use Rattle.arc_recheck.specs.Needed.{AreNeeded, IsNeededAnswer}
use Rattle.arc_recheck.specs.Singles.{HoldsBut, HoldsNot, IsAloneAnswer, PolicyHasFewClasses, is_reach, shows_routes}
use Rattle.net_laws.proofs.LeftRoutes.{routes_decide}
use Rattle.net_laws.proofs.AllUp.{routes_decide_all_up}
use Rattle.arc_recheck.proofs.Passing.{passes_when_reached}

module _ (net : Network) (valid : IsValid net) (policy : Policy) (ends : Ends) (are : AreEnds net (subject policy) ends)
    (clear : IsClear net ends (subject policy)) (passes : EachPasses net ends (subject policy)) where
  -- where there is a route the needed links are alone
  holds_but : (k : ℕ) → policy.kind ≡ Reach k → (links : List Link) → AreNeeded net ends links → HoldsBut net policy links
  holds_but k reach links needed = record {
    ends = ends;
    holds = record {
      are_ends = are;
      failures = k;
      reach = reach;
      clear = clear;
      holds = (routes_decide_all_up net valid ends (subject policy) are clear passes).1 needed.route;
    };
    alone = record {
      rising = rising_numbers links needed.rising;
      exact = λ link. (
        λ has. record {
          of_network = ((needed.exact link).0 has).0;
          breaks = λ reaches. ((needed.exact link).0 has).1 ((routes_decide net valid ends (subject policy) are clear passes (just link)).0 reaches);
        },
        λ alone. (needed.exact link).1 (
          alone.of_network,
          λ route. alone.breaks ((routes_decide net valid ends (subject policy) are clear passes (just link)).1 route),
        ),
      );
    };
  }

  -- where there is none the policy does not hold
  holds_not : (¬ HasRoute net ends no_link) → HoldsNot net policy
  holds_not none others holds =
      let same : others ≡ ends = one_pair_of_ends net valid (subject policy) others ends holds.are_ends are in
      none ((routes_decide_all_up net valid ends (subject policy) are clear passes).0 (subst (λ (e : Ends). Reaches net e (subject policy) 0) same holds.holds))

  answered : (k : ℕ) → policy.kind ≡ Reach k → (found : Option (List Link)) → IsNeededAnswer net ends found → IsAloneAnswer net policy found
  answered k reach None none = holds_not none
  answered k reach (Some links) needed = holds_but k reach links needed

-- a verdict with paths or a cut shows that the policy is clear
shown_clear : (net : Network) (ends : Ends) (k : ℕ) (whole : Class) (v : Verdict) → IsRightReach net ends k whole v → shows_routes v ≡ true → IsClear net ends whole
shown_clear net ends k whole (Paths paths) right shows = right.clear
shown_clear net ends k whole (Cut links side) right shows = right.clear
shown_clear net ends k whole (Closed sides) right shows = absurd right
shown_clear net ends k whole (Walk class path) right shows = absurd right
shown_clear net ends k whole (Denied class) right shows = absurd (false≢true shows)
shown_clear net ends k whole (Refused p link) right shows = absurd (false≢true shows)

-- any other shows that it is not clear or does not hold
shown_broken : (net : Network) → IsValid net → (ends : Ends) (k : ℕ) (whole : Class) → AreEnds net whole ends → (v : Verdict) → IsRightReach net ends k whole v →
    shows_routes v ≡ false → IsClear net ends whole → Reaches net ends whole 0 → ⊥
shown_broken net valid ends k whole are (Denied class) right shows clear reaches = right_denials_break_reach net valid ends 0 whole class are right reaches
shown_broken net valid ends k whole are (Refused p link) right shows clear reaches = refusals_are_right net ends whole p link right clear
shown_broken net valid ends k whole are (Closed sides) right shows clear reaches = right
shown_broken net valid ends k whole are (Walk class path) right shows clear reaches = right
shown_broken net valid ends k whole are (Paths paths) right shows clear reaches = false≢true (sym shows)
shown_broken net valid ends k whole are (Cut links side) right shows clear reaches = false≢true (sym shows)

reach_of : (kind : PolicyKind) → is_reach kind ≡ true → (k : ℕ) × (kind ≡ Reach k)
reach_of Blocked is = absurd (false≢true is)
reach_of Through is = absurd (false≢true is)
reach_of (Reach k) is = (k, refl)

-- a policy of another kind
pub none_of_kind : (net : Network) (policy : Policy) → is_reach policy.kind ≡ false → HoldsNot net policy
none_of_kind net policy other ends holds = false≢true (sym other ∙ ap is_reach holds.reach)

-- a policy whose verdict shows neither paths nor a cut
pub none_of_verdict : (net : Network) → IsValid net → (policy : Policy) → is_reach policy.kind ≡ true → (v : Verdict) → IsRight net policy v → shows_routes v ≡ false → HoldsNot net policy
none_of_verdict net valid policy kind v right shows others holds =
    let reach : (k : ℕ) × (policy.kind ≡ Reach k) = reach_of policy.kind kind in
    let same : others ≡ right.ends = one_pair_of_ends net valid (subject policy) others right.ends holds.are_ends right.are_ends in
    let shown : IsRightReach net right.ends reach.0 (subject policy) v =
    subst (λ (kind : PolicyKind). IsRightFor net right.ends kind (subject policy) v) reach.1 right.right in
    shown_broken net valid right.ends reach.0 (subject policy) right.are_ends v shown shows
    (subst (λ (e : Ends). IsClear net e (subject policy)) same holds.clear) (subst (λ (e : Ends). Reaches net e (subject policy) 0) same holds.holds)

-- a policy of which not each packet enters and leaves
pub none_of_passes : (net : Network) → IsValid net → (policy : Policy) (ends : Ends) → AreEnds net (subject policy) ends → (EachPasses net ends (subject policy) → ⊥) → HoldsNot net policy
none_of_passes net valid policy ends are kept others holds =
    let same : others ≡ ends = one_pair_of_ends net valid (subject policy) others ends holds.are_ends are in
    kept (subst (λ (e : Ends). EachPasses net e (subject policy)) same (passes_when_reached net valid others (subject policy) holds.are_ends holds.clear holds.holds))

-- a policy whose verdict does, and whose packets enter and leave
pub alone_of_needed : (net : Network) → IsValid net → (policy : Policy) → is_reach policy.kind ≡ true → (v : Verdict) → IsRight net policy v → shows_routes v ≡ true →
    (ends : Ends) → AreEnds net (subject policy) ends → EachPasses net ends (subject policy) → (class : Class) → class ≡ subject policy → (pair : HostPair) → IsHostPairOf net class pair →
    (found : Option (List Link)) → ((ends : Ends) → IsHostPair net ends pair → IsNeededAnswer net ends found) → IsAloneAnswer net policy found
alone_of_needed net valid policy kind v right shows ends are passes class whole pair is found needed =
    let reach : (k : ℕ) × (policy.kind ≡ Reach k) = reach_of policy.kind kind in
    let of_policy : IsHostPairOf net (subject policy) pair = subst (λ (c : Class). IsHostPairOf net c pair) whole is in
    let from_right : right.ends ≡ ends = one_pair_of_ends net valid (subject policy) right.ends ends right.are_ends are in
    let from_pair : of_policy.ends ≡ ends = one_pair_of_ends net valid (subject policy) of_policy.ends ends of_policy.are_ends are in
    let shown : IsRightReach net right.ends reach.0 (subject policy) v =
    subst (λ (kind : PolicyKind). IsRightFor net right.ends kind (subject policy) v) reach.1 right.right in
    let clear : IsClear net ends (subject policy) =
    subst (λ (e : Ends). IsClear net e (subject policy)) from_right (shown_clear net right.ends reach.0 (subject policy) v shown shows) in
    answered net valid policy ends are clear passes reach.0 reach.1 found
    (subst (λ (e : Ends). IsNeededAnswer net e found) from_pair (needed of_policy.ends of_policy.is_pair))

-- the verdict was given of few classes, which are few as they are told, too
pub few_of_fixed : (net : Network) (policies : List Policy) (policy : Policy) (v : Verdict) → IsFixed net policies policy v → PolicyHasFewClasses net policies policy
few_of_fixed net policies policy v fixed = record {
  count = told (length fixed.classes);
  classes = record { classes = fixed.classes; are = fixed.are_classes; counted = refl };
  few = let less : told (length fixed.classes) ≤ length fixed.classes = min-le_left (length fixed.classes) (2 ^ 64 - 1) in omega (arith, less, fixed.few);
}

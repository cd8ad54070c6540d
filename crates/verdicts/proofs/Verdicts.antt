-- The verdicts that the parts of the judgement give.
use Rattle.std.proofs.Common.{◌≡◌, ◌≢◌, ℕ, ◌≤◌, Option, Some, List, [], length, refl, sym, ap, ◌∙◌, subst, inl, inr, arith}
use Rattle.std.specs.Prelude.{All, AllPairs, Contains, sum_by, IfSome}
use Rattle.std.proofs.lemmas.List.Elements.{All-contains, All-nil}
use Rattle.net_model.specs.declared.lists.Packet.{Packet}
use Rattle.net_model.specs.declared.policies.Class.{Class}
use Rattle.net_model.specs.declared.policies.Policy.{Policy}
use Rattle.net_model.specs.declared.policies.PolicyKind.{PolicyKind}
use Rattle.net_model.specs.declared.policies.PolicyKind.TheVariants.{Blocked, Through}
use Rattle.net_model.specs.declared.rows.Network.{Network}
use Rattle.net_model.specs.declared.verdicts.ClassSide.{ClassSide}
use Rattle.net_model.specs.declared.verdicts.LinkPath.{LinkPath}
use Rattle.net_model.specs.declared.verdicts.Verdict.{Verdict}
use Rattle.net_model.specs.declared.verdicts.Verdict.TheVariants.{Closed, Paths, Walk, Denied, Cut, Refused}
use Rattle.net_model.specs.Packets.{LiesIn, ShareNoPacket, packets, subject, first_packet}
use Rattle.net_model.specs.Forwarding.{Ends, source_router, target_router}
use Rattle.net_model.specs.Policies.{IsClear}
use Rattle.net_model.specs.Witnesses.{IsRightClosed, IsRightWalk, IsRightBlocking, IsRight, IsUniformFor}
use Rattle.class_graph.specs.Barriers.{AreUndenied, IsDenialBetween}
use Rattle.class_graph.specs.Passing.{EachPasses, AllPass, IsFirstKeptOut}
use Rattle.class_graph.specs.Hosts.{IsHostPair, IsHostPairOf}
use Rattle.class_graph.specs.declared.hosts.HostPair.{HostPair}
use Rattle.net_model.proofs.Readings.{item_at_place}
use Rattle.traffic_classes.specs.Classes.{AreClasses}
use Rattle.traffic_classes.specs.Parts.{MakeUp}
use Rattle.class_graph.specs.declared.first_denials.Denial.{Denial}
use Rattle.verdicts.specs.Fixed.{IsLeastClosed, AreLeastSides, IsFixedBlocking, IsFixed}
use Rattle.verdicts.specs.Judged.{IsBlockingAnswer, IsReachVerdict, IsVerdict}
use Rattle.verdicts.specs.Reaching.{IsPathsOrCut}
use Rattle.verdicts.proofs.Lists.{all_of_map, pairs_of_map, sum_of_map, rising_numbers}
use Rattle.class_graph.proofs.FirstDenials.{right_refusal}
use Rattle.class_graph.proofs.Clear.{at_class, permits_all, none_passes}

-- the least sides of the classes are right
right_closed : (net : Network) (ends : Ends) (kind : PolicyKind) (whole : Class) (classes : List Class) → MakeUp net whole classes → (sides : List ClassSide) →
    AreLeastSides net ends kind classes sides → IsRightClosed net ends kind whole sides
right_closed net ends kind whole classes parts sides are =
    let class_of : ClassSide → Class = λ s. s.class in
    let part : All (λ (s : ClassSide). LiesIn s.class whole) sides =
    all_of_map class_of (λ (c : Class). LiesIn c whole) sides (subst (All (λ (c : Class). LiesIn c whole)) (sym are.in_order) parts.parts) in
    let uniform : All (λ (s : ClassSide). IsUniformFor net s.class) sides =
    all_of_map class_of (IsUniformFor net) sides (subst (All (IsUniformFor net)) (sym are.in_order) parts.uniform) in
    record {
      right = λ k d low. (
          let least : IsLeastClosed net ends kind _ _ = are.least k d low in
          record { part = part k d low; uniform = uniform k d low; closed = least.closed });
      disjoint = pairs_of_map class_of ShareNoPacket sides (subst (AllPairs ShareNoPacket) (sym are.in_order) parts.disjoint);
      all = sym (sum_of_map class_of packets sides) ∙ ap (sum_by packets) are.in_order ∙ parts.sizes;
    }

right_walk_of : (net : Network) (ends : Ends) (kind : PolicyKind) (whole class : Class) (path : LinkPath) → LiesIn class whole → IsRightWalk net ends kind class class path →
    IsRightWalk net ends kind whole class path
right_walk_of net ends kind whole class path part right = record {
  part = part;
  path = right.path;
  once = right.once;
  enters = right.enters;
  permitted = right.permitted;
  leaves = right.leaves;
  breaks = right.breaks;
}

right_blocking : (net : Network) (ends : Ends) (kind : PolicyKind) (whole : Class) (classes : List Class) → MakeUp net whole classes → (v : Verdict) →
    IsBlockingAnswer net ends kind classes v → IsRightBlocking net ends kind whole v
right_blocking net ends kind whole classes parts (Closed sides) is = right_closed net ends kind whole classes parts sides is
right_blocking net ends kind whole classes parts (Walk class path) is =
    right_walk_of net ends kind whole class path
    (All-contains (λ (c : Class). LiesIn c whole) classes class parts.parts (item_at_place classes (is.0).place class (is.0).at_place)) (is.1)
right_blocking net ends kind whole classes parts (Paths paths) is = is
right_blocking net ends kind whole classes parts (Denied class) is = is
right_blocking net ends kind whole classes parts (Cut links side) is = is
right_blocking net ends kind whole classes parts (Refused p link) is = is

fixed_blocking : (net : Network) (ends : Ends) (kind : PolicyKind) (classes : List Class) (v : Verdict) → IsBlockingAnswer net ends kind classes v → IsFixedBlocking net ends kind classes v
fixed_blocking net ends kind classes (Closed sides) is = is
fixed_blocking net ends kind classes (Walk class path) is = is.0
fixed_blocking net ends kind classes (Paths paths) is = is
fixed_blocking net ends kind classes (Denied class) is = is
fixed_blocking net ends kind classes (Cut links side) is = is
fixed_blocking net ends kind classes (Refused p link) is = is

pub blocked_verdict : (net : Network) (ends : Ends) (whole : Class) (classes : List Class) → MakeUp net whole classes → (v : Verdict) →
    IsBlockingAnswer net ends Blocked classes v → IsVerdict net ends Blocked whole classes v
blocked_verdict net ends whole classes parts v is = record {
  right = right_blocking net ends Blocked whole classes parts v is;
  fixed = fixed_blocking net ends Blocked classes v is;
}

pub through_verdict : (net : Network) (ends : Ends) (whole : Class) (classes : List Class) → MakeUp net whole classes → (v : Verdict) →
    IsBlockingAnswer net ends Through classes v → IsVerdict net ends Through whole classes v
through_verdict net ends whole classes parts v is = record {
  right = right_blocking net ends Through whole classes parts v is;
  fixed = fixed_blocking net ends Through classes v is;
}

-- where the classes are not denied the whole is clear
clear_of : (net : Network) (ends : Ends) (whole : Class) (classes : List Class) → MakeUp net whole classes → AreUndenied net ends classes → IsClear net ends whole
clear_of net ends whole classes parts (inl together) = inl together
clear_of net ends whole classes parts (inr none) =
    inr (λ arc is_arc routed p of.
    let has = parts.cover p of in
    permits_all net ends.to classes parts.uniform arc is_arc routed (λ k c low at. none k c low at arc.link) has.class has.one p has.is_of)

-- the first class that is kept out denies the policy
pub denied_verdict : (net : Network) (ends : Ends) (k : ℕ) (whole : Class) (classes : List Class) → MakeUp net whole classes → (class : Class) →
    AreUndenied net ends classes × IsFirstKeptOut net ends classes class → IsReachVerdict net ends k whole classes (Denied class)
denied_verdict net ends k whole classes parts class (undenied, out) =
    let one : Contains classes class = item_at_place classes out.is_first.place class out.is_first.at_place in
    record {
      right = record {
        clear = clear_of net ends whole classes parts undenied;
        part = All-contains (λ (c : Class). LiesIn c whole) classes class parts.parts one;
        denied = none_passes net ends class (All-contains (IsUniformFor net) classes class parts.uniform one) out.kept_out;
      };
      fixed = out.is_first;
    }

-- where each packet of each class enters and leaves each packet of the whole does
whole_passes : (net : Network) (ends : Ends) (whole : Class) (classes : List Class) → MakeUp net whole classes → AllPass net ends classes (length classes) → EachPasses net ends whole
whole_passes net ends whole classes parts all p of =
    let has = parts.cover p of in
    at_class (EachPasses net ends) classes all has.class has.one p has.is_of

-- on one router there are no paths to be shown
pub no_paths : (net : Network) (ends : Ends) (k : ℕ) (whole : Class) (classes : List Class) → MakeUp net whole classes → source_router ends ≡ target_router ends →
    AllPass net ends classes (length classes) → IsReachVerdict net ends k whole classes (Paths [])
no_paths net ends k whole classes parts together all =
    let passes : EachPasses net ends whole = whole_passes net ends whole classes parts all in
    record {
      right = record {
        clear = inl together;
        enters = λ p of_p. (passes p of_p).0;
        leaves = λ p of_p. (passes p of_p).1;
        apart = λ apart. absurd (apart together);
        together = λ same. refl;
        are_paths = All-nil _;
        once = λ i j d low high. absurd (omega arith);
      };
      fixed = λ i j d low high. absurd (omega arith);
    }

-- the first denial is a refusal
pub refused_verdict : (net : Network) (ends : Ends) (k : ℕ) (whole : Class) (classes : List Class) → MakeUp net whole classes → (d : Denial) → IsDenialBetween net ends classes d →
    (p : Packet) → p ≡ first_packet d.class → IsReachVerdict net ends k whole classes (Refused p d.link)
refused_verdict net ends k whole classes parts d (apart, denial) p packet =
    record {
      right = right_refusal net ends whole classes parts.parts apart d denial p packet;
      fixed = record {
        lower = λ arc is_arc routed low p of.
            let has = parts.cover p of in
            permits_all net ends.to classes parts.uniform arc is_arc routed (λ j c below at. denial.lower j c below at arc.link low) has.class has.one p has.is_of;
        class = d.class;
        is_first = denial.is_first;
        denied = denial.denied;
        packet = packet;
      };
    }

-- paths or a cut, once nothing is refused or denied
pub settled : (net : Network) (ends : Ends) (k : ℕ) (whole : Class) (classes : List Class) → MakeUp net whole classes → source_router ends ≢ target_router ends →
    AreUndenied net ends classes → AllPass net ends classes (length classes) → (v : Verdict) → IsPathsOrCut net ends k v → IsReachVerdict net ends k whole classes v
settled net ends k whole classes parts apart none all (Paths paths) is =
    let passes : EachPasses net ends whole = whole_passes net ends whole classes parts all in
    record {
      right = record {
        clear = clear_of net ends whole classes parts none;
        enters = λ p of_p. (passes p of_p).0;
        leaves = λ p of_p. (passes p of_p).1;
        apart = λ differ. is.count;
        together = λ same. absurd (apart same);
        are_paths = is.are_paths;
        once = is.once;
      };
      fixed = is.in_order;
    }
settled net ends k whole classes parts apart none all (Cut links side) is =
    record {
      right = record {
        apart = apart;
        clear = clear_of net ends whole classes parts none;
        flags = is.flags;
        source = is.separates.source;
        target = is.separates.target;
        rising = rising_numbers links is.separates.rising;
        cut = is.separates.cut;
        few = is.few;
      };
      fixed = record { passes = whole_passes net ends whole classes parts all; fewest = is.fewest; least = is.least };
    }
settled net ends k whole classes parts apart none all (Closed sides) is = absurd is
settled net ends k whole classes parts apart none all (Walk class path) is = absurd is
settled net ends k whole classes parts apart none all (Denied class) is = absurd is
settled net ends k whole classes parts apart none all (Refused p link) is = absurd is

pub blocked_as : (net : Network) (ends : Ends) (kind : PolicyKind) → kind ≡ Blocked → (whole : Class) (classes : List Class) → MakeUp net whole classes → (v : Verdict) →
    IsBlockingAnswer net ends kind classes v → IsVerdict net ends kind whole classes v
blocked_as net ends kind same whole classes parts v =
    subst (λ (k : PolicyKind). IsBlockingAnswer net ends k classes v → IsVerdict net ends k whole classes v) (sym same) (blocked_verdict net ends whole classes parts v)

pub through_as : (net : Network) (ends : Ends) (kind : PolicyKind) → kind ≡ Through → (whole : Class) (classes : List Class) → MakeUp net whole classes → (v : Verdict) →
    IsBlockingAnswer net ends kind classes v → IsVerdict net ends kind whole classes v
through_as net ends kind same whole classes parts v =
    subst (λ (k : PolicyKind). IsBlockingAnswer net ends k classes v → IsVerdict net ends k whole classes v) (sym same) (through_verdict net ends whole classes parts v)

-- what is judged of the classes holds of the policy
abbrev Judges : Network → HostPair → PolicyKind → List Class → Verdict → Type 0
Judges net pair kind classes v = (ends : Ends) (whole : Class) → IsHostPair net ends pair → MakeUp net whole classes → IsVerdict net ends kind whole classes v

pub right_policy : (net : Network) (policy : Policy) (class : Class) → class ≡ subject policy → (pair : HostPair) → IsHostPairOf net class pair → (classes : List Class) →
    MakeUp net (subject policy) classes → (v : Verdict) → Judges net pair policy.kind classes v → IsRight net policy v
right_policy net policy class whole pair of classes parts v judged =
    let of_policy : IsHostPairOf net (subject policy) pair = subst (λ (c : Class). IsHostPairOf net c pair) whole of in
    let is : IsVerdict net of_policy.ends policy.kind (subject policy) classes v = judged of_policy.ends (subject policy) of_policy.is_pair parts in
    record { ends = of_policy.ends; are_ends = of_policy.are_ends; right = is.right }

pub fixed_policy : (net : Network) (policies : List Policy) (policy : Policy) (class : Class) → class ≡ subject policy → (pair : HostPair) → IsHostPairOf net class pair → (classes : List Class) →
    MakeUp net (subject policy) classes → AreClasses net policies policy classes → length classes ≤ 4096 → (v : Verdict) → Judges net pair policy.kind classes v → IsFixed net policies policy v
fixed_policy net policies policy class whole pair of classes parts are few v judged =
    let of_policy : IsHostPairOf net (subject policy) pair = subst (λ (c : Class). IsHostPairOf net c pair) whole of in
    let is : IsVerdict net of_policy.ends policy.kind (subject policy) classes v = judged of_policy.ends (subject policy) of_policy.is_pair parts in
    record { ends = of_policy.ends; are_ends = of_policy.are_ends; classes = classes; are_classes = are; few = few; fixed = is.fixed }

pub at_some : (o : Option Policy) (policy : Policy) (P : Policy → Type 0) → o ≡ Some policy → IfSome o P → P policy
at_some o policy P some holds = subst (λ (q : Option Policy). IfSome q P) some holds

-- A verdict is right for a policy if it is right for the policy's ends in the network.
use Rattle.std.proofs.Common.{◌≡◌, ℕ, Bool, IsTrue, refl, sym, subst}
use Rattle.std.specs.Prelude.{◌↔◌}
use Rattle.arc_base.specs.declared.place.Link.{Link}
use Rattle.net_model.specs.declared.lists.Packet.{Packet}
use Rattle.net_model.specs.declared.policies.Class.{Class}
use Rattle.net_model.specs.declared.policies.Policy.{Policy}
use Rattle.net_model.specs.declared.policies.PolicyKind.{PolicyKind}
use Rattle.net_model.specs.declared.policies.PolicyKind.TheVariants.{Reach}
use Rattle.net_model.specs.declared.rows.Network.{Network}
use Rattle.net_model.specs.Packets.{subject}
use Rattle.net_model.specs.Forwarding.{Ends, AreEnds}
use Rattle.net_model.specs.Validity.{IsValid}
use Rattle.net_model.proofs.Hosts.{one_pair_of_ends}
use Rattle.arc_nodecut.specs.declared.verdict.NodeVerdict.{NodeVerdict}
use Rattle.arc_nodecut.specs.declared.verdict.NodeVerdict.TheVariants.{Same, Direct, Apart, Denied, Cut, Refused}
use Rattle.arc_nodecut.specs.NodeWitnesses.{IsRightNodeVerdict, IsRightPast, IsRightPastFor}
use Rattle.arc_nodecut.specs.Shown.{IsShown}

-- the verdict is neither a denial nor a refusal
abbrev pub IsOther : NodeVerdict → Type 0
IsOther (Denied class) = ⊥
IsOther (Refused p link) = ⊥
IsOther _ = Unit {0}

shown_is : (net : Network) (ends : Ends) (k : ℕ) (whole : Class) (v : NodeVerdict) → IsOther v → IsShown net ends k whole v ↔ IsRightPast net ends k whole v
shown_is net ends k whole Same other = (λ x. x, λ x. x)
shown_is net ends k whole (Direct link) other = (λ x. x, λ x. x)
shown_is net ends k whole (Apart paths) other = (λ x. x, λ x. x)
shown_is net ends k whole (Cut routers side) other = (λ x. x, λ x. x)
shown_is net ends k whole (Denied class) other = absurd other
shown_is net ends k whole (Refused p link) other = absurd other

kind_right : (net : Network) (ends : Ends) (k : ℕ) (kind : PolicyKind) (whole : Class) (v : NodeVerdict) → kind ≡ Reach k → IsRightPast net ends k whole v ↔ IsRightPastFor net ends kind whole v
kind_right net ends k kind whole v is =
    subst (λ (asked : PolicyKind). IsRightPast net ends k whole v ↔ IsRightPastFor net ends asked whole v) (sym is) (λ x. x, λ x. x)

pub shown_right : (net : Network) → IsValid net → (policy : Policy) (k : ℕ) → policy.kind ≡ Reach k → (ends : Ends) → AreEnds net (subject policy) ends → (v : NodeVerdict) → IsOther v →
    (at : Network) (whole : Class) → at ≡ net → whole ≡ subject policy → (b : Bool) → (IsTrue b ↔ IsShown at ends k whole v) → IsTrue b ↔ IsRightNodeVerdict net policy v
shown_right net valid policy k reach ends are v other at whole same_net same_class b tells_at =
    let at_net : IsTrue b ↔ IsShown net ends k whole v = subst (λ (n : Network). IsTrue b ↔ IsShown n ends k whole v) same_net tells_at in
    let tells : IsTrue b ↔ IsShown net ends k (subject policy) v = subst (λ (c : Class). IsTrue b ↔ IsShown net ends k c v) same_class at_net in
    let shown : IsShown net ends k (subject policy) v ↔ IsRightPast net ends k (subject policy) v = shown_is net ends k (subject policy) v other in
    let kinds : IsRightPast net ends k (subject policy) v ↔ IsRightPastFor net ends policy.kind (subject policy) v = kind_right net ends k policy.kind (subject policy) v reach in (
      λ t. record { ends = ends; are_ends = are; right = kinds.0 (shown.0 (tells.0 t)) },
      λ (right : IsRightNodeVerdict net policy v).
          let same : right.ends ≡ ends = one_pair_of_ends net valid (subject policy) right.ends ends right.are_ends are in
          tells.1 (shown.1 (kinds.1 (subst (λ (e : Ends). IsRightPastFor net e policy.kind (subject policy) v) same right.right))),
    )

-- a verdict that is no denial and no refusal is one of the others
pub is_other : (v : NodeVerdict) → ((class : Class) → v ≡ Denied class → ⊥) → ((p : Packet) (link : Link) → v ≡ Refused p link → ⊥) → IsOther v
is_other Same no_denial no_refusal = tt
is_other (Direct link) no_denial no_refusal = tt
is_other (Apart paths) no_denial no_refusal = tt
is_other (Cut routers side) no_denial no_refusal = tt
is_other (Denied class) no_denial no_refusal = no_denial class refl
is_other (Refused p link) no_denial no_refusal = no_refusal p link refl

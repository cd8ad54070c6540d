-- Each right denies shows a failure set that breaks its policy.
use Rattle.std.specs.Prelude.{IsTrue, ◌↔◌}
use Rattle.std.proofs.lemmas.Bool.{false≢true}
use Rattle.net_model.specs.declared.policies.Class.{Class}
use Rattle.net_model.specs.declared.policies.PolicyKind.{PolicyKind}
use Rattle.net_model.specs.declared.policies.PolicyKind.TheVariants.{Blocked, Through, Reach}
use Rattle.net_model.specs.declared.verdicts.Verdict.{Verdict}
use Rattle.net_model.specs.declared.verdicts.Verdict.TheVariants.{Closed, Paths, Walk, Denied, Cut, Refused}
use Rattle.net_model.specs.declared.rows.Network.{Network}
use Rattle.net_model.specs.Packets.{subject}
use Rattle.net_model.specs.Routing.{FailureSet}
use Rattle.net_model.specs.Forwarding.{Ends, AreEnds}
use Rattle.net_model.specs.Policies.{HoldsAs}
use Rattle.net_model.specs.Validity.{IsValid}
use Rattle.net_model.specs.Witnesses.{IsRightFor, is_no}
use Rattle.net_laws.specs.Breaking.{SpeaksOf, HoldsUnder, BreaksAs, HoldsUnderEach, RightNosBreak, failures_shown}
use Rattle.net_laws.proofs.RightWalks.{walk_breaks_blocked, walk_breaks_through}
use Rattle.net_laws.proofs.RightCuts.{cut_breaks, denial_breaks}

holds_under : (net : Network) (ends : Ends) (class : Class) (kind : PolicyKind) →
    HoldsAs net ends class kind ↔ ((failed : FailureSet) → SpeaksOf net kind failed → HoldsUnder net ends class kind failed)
holds_under net ends class Blocked = (λ holds. λ failed spoken. holds failed, λ under. λ failed. under failed tt)
holds_under net ends class Through = (λ holds. λ failed spoken. holds failed, λ under. λ failed. under failed tt)
holds_under net ends class (Reach k) = (
  λ holds. λ failed few. λ d stable p of. holds failed d few stable p of,
  λ under. λ failed d few stable p of. under failed few d stable p of,
)

pub holds_under_each : (net : Network) → HoldsUnderEach net
holds_under_each net ends class kind = holds_under net ends class kind

breaks : (net : Network) → IsValid net → (ends : Ends) (whole : Class) → AreEnds net whole ends → (kind : PolicyKind) (v : Verdict) →
    IsRightFor net ends kind whole v → IsTrue (is_no v) → BreaksAs net ends whole kind (failures_shown v)
breaks net valid ends whole are kind (Closed sides) right denies = absurd (false≢true denies)
breaks net valid ends whole are kind (Paths paths) right denies = absurd (false≢true denies)
breaks net valid ends whole are kind (Refused p link) right denies = absurd (false≢true denies)
breaks net valid ends whole are Blocked (Walk class path) right denies = walk_breaks_blocked net ends whole class path right
breaks net valid ends whole are Blocked (Denied class) right denies = absurd right
breaks net valid ends whole are Blocked (Cut links side) right denies = absurd right
breaks net valid ends whole are Through (Walk class path) right denies = walk_breaks_through net ends whole class path right
breaks net valid ends whole are Through (Denied class) right denies = absurd right
breaks net valid ends whole are Through (Cut links side) right denies = absurd right
breaks net valid ends whole are (Reach k) (Walk class path) right denies = absurd right
breaks net valid ends whole are (Reach k) (Denied class) right denies = denial_breaks net valid ends k whole class are right
breaks net valid ends whole are (Reach k) (Cut links side) right denies = cut_breaks net valid ends k whole links side are right

pub right_nos_break : (net : Network) → IsValid net → RightNosBreak net
right_nos_break net valid policy v right denies = record {
  ends = right.ends;
  are_ends = right.are_ends;
  breaks = breaks net valid right.ends (subject policy) right.are_ends policy.kind v right.right denies;
}

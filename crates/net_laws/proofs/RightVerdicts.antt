-- A right verdict is true.
use Rattle.std.proofs.Common.{◌≡◌, true, List, [], ◌∷◌, refl, subst}
use Rattle.std.specs.Prelude.{IsTrue, ◌↔◌, All}
use Rattle.std.specs.List.{AllZip, list_all}
use Rattle.std.proofs.lemmas.Bool.{false≢true, and_parts, and_from}
use Rattle.std.proofs.lemmas.List.Elements.{All-nil, All-cons, All-head, All-tail}
use Rattle.net_model.specs.declared.lists.Packet.{Packet}
use Rattle.net_model.specs.declared.policies.Class.{Class}
use Rattle.net_model.specs.declared.policies.Policy.{Policy}
use Rattle.net_model.specs.declared.policies.PolicyKind.{PolicyKind}
use Rattle.net_model.specs.declared.policies.PolicyKind.TheVariants.{Blocked, Through, Reach}
use Rattle.net_model.specs.declared.verdicts.Verdict.{Verdict}
use Rattle.net_model.specs.declared.verdicts.Verdict.TheVariants.{Closed, Paths, Walk, Denied, Cut, Refused}
use Rattle.net_model.specs.declared.rows.Network.{Network}
use Rattle.net_model.specs.Packets.{subject}
use Rattle.net_model.specs.Forwarding.{Ends, AreEnds}
use Rattle.net_model.specs.Policies.{HoldsAs, MeetsAs, Meets}
use Rattle.arc_base.specs.declared.place.Link.{Link}
use Rattle.net_model.specs.Validity.{IsValid}
use Rattle.net_model.specs.Witnesses.{is_yes, IsRight, IsRightFor}
use Rattle.net_laws.specs.Laws.{RightVerdictsDecide, RightVerdictsAreTrue, VerdictSays}
use Rattle.net_model.proofs.Hosts.{one_pair_of_ends}
use Rattle.net_laws.proofs.ClosedSides.{closed_block, closed_force_through}
use Rattle.net_laws.proofs.RightWalks.{right_walks_unblock, right_walks_bypass}
use Rattle.net_laws.proofs.RightPaths.{right_paths_reach, refusals_are_right}
use Rattle.net_laws.proofs.RightCuts.{right_cuts_break_reach, right_denials_break_reach}

says : (net : Network) → IsValid net → (ends : Ends) (whole : Class) → AreEnds net whole ends → (kind : PolicyKind) (v : Verdict) →
    IsRightFor net ends kind whole v → VerdictSays net ends whole kind v
says net valid ends whole are Blocked (Closed sides) right = closed_block net ends whole sides right
says net valid ends whole are Blocked (Walk class path) right = right_walks_unblock net ends whole class path right
says net valid ends whole are Blocked (Paths paths) right = absurd right
says net valid ends whole are Blocked (Denied class) right = absurd right
says net valid ends whole are Blocked (Cut links side) right = absurd right
says net valid ends whole are Blocked (Refused p link) right = absurd right
says net valid ends whole are Through (Closed sides) right = closed_force_through net ends whole sides right
says net valid ends whole are Through (Walk class path) right = right_walks_bypass net ends whole class path right
says net valid ends whole are Through (Paths paths) right = absurd right
says net valid ends whole are Through (Denied class) right = absurd right
says net valid ends whole are Through (Cut links side) right = absurd right
says net valid ends whole are Through (Refused p link) right = absurd right
says net valid ends whole are (Reach k) (Closed sides) right = absurd right
says net valid ends whole are (Reach k) (Walk class path) right = absurd right
says net valid ends whole are (Reach k) (Paths paths) right = (right.clear, right_paths_reach net valid ends k whole paths right)
says net valid ends whole are (Reach k) (Denied class) right = (right.clear, right_denials_break_reach net valid ends k whole class are right)
says net valid ends whole are (Reach k) (Cut links side) right = (right.clear, right_cuts_break_reach net valid ends k whole links side are right)
says net valid ends whole are (Reach k) (Refused p link) right = refusals_are_right net ends whole p link right

pub right_verdicts_are_true : (net : Network) → IsValid net → RightVerdictsAreTrue net
right_verdicts_are_true net valid policy v right = says net valid right.ends (subject policy) right.are_ends policy.kind v right.right

-- what meets a policy holds
pub meets_holds : (net : Network) (ends : Ends) (whole : Class) (kind : PolicyKind) → MeetsAs net ends whole kind → HoldsAs net ends whole kind
meets_holds net ends whole Blocked meets = meets
meets_holds net ends whole Through meets = meets
meets_holds net ends whole (Reach k) meets = meets.1

-- a right refusal is of a reach policy, so what meets it is clear
refused_not_met : (net : Network) (ends : Ends) (whole : Class) (kind : PolicyKind) (p : Packet) (link : Link) →
    IsRightFor net ends kind whole (Refused p link) → MeetsAs net ends whole kind → ⊥
refused_not_met net ends whole Blocked p link right meets = right
refused_not_met net ends whole Through p link right meets = right
refused_not_met net ends whole (Reach k) p link right meets = refusals_are_right net ends whole p link right meets.0

decided : (net : Network) → IsValid net → (ends : Ends) (whole : Class) → AreEnds net whole ends → (kind : PolicyKind) (v : Verdict) →
    IsRightFor net ends kind whole v → IsTrue (is_yes v) ↔ MeetsAs net ends whole kind
decided net valid ends whole are kind (Closed sides) right = (λ t. says net valid ends whole are kind (Closed sides) right, λ meets. refl)
decided net valid ends whole are kind (Paths paths) right = (λ t. says net valid ends whole are kind (Paths paths) right, λ meets. refl)
decided net valid ends whole are kind (Walk class path) right =
    (λ t. absurd (false≢true t), λ meets. absurd (says net valid ends whole are kind (Walk class path) right (meets_holds net ends whole kind meets)))
decided net valid ends whole are kind (Denied class) right =
    (λ t. absurd (false≢true t), λ meets. absurd ((says net valid ends whole are kind (Denied class) right).1 (meets_holds net ends whole kind meets)))
decided net valid ends whole are kind (Cut links side) right =
    (λ t. absurd (false≢true t), λ meets. absurd ((says net valid ends whole are kind (Cut links side) right).1 (meets_holds net ends whole kind meets)))
decided net valid ends whole are kind (Refused p link) right =
    (λ t. absurd (false≢true t), λ meets. absurd (refused_not_met net ends whole kind p link right meets))

pub right_verdicts_decide : (net : Network) → IsValid net → RightVerdictsDecide net
right_verdicts_decide net valid policy v right =
    let both : IsTrue (is_yes v) ↔ MeetsAs net right.ends (subject policy) policy.kind =
    decided net valid right.ends (subject policy) right.are_ends policy.kind v right.right in (
      λ t. record { ends = right.ends; are_ends = right.are_ends; meets = both.0 t },
      λ (met : Meets net policy).
          let same : met.ends ≡ right.ends = one_pair_of_ends net valid (subject policy) met.ends right.ends met.are_ends right.are_ends in
          both.1 (subst (λ (e : Ends). MeetsAs net e (subject policy) policy.kind) same met.meets),
    )

-- right verdicts are all yes exactly where the network meets all policies
pub all_decided : (net : Network) → RightVerdictsDecide net → (policies : List Policy) (verdicts : List Verdict) → AllZip (IsRight net) policies verdicts →
    (list_all is_yes verdicts ≡ true) ↔ All (Meets net) policies
all_decided net decide [] [] right = (λ t. All-nil (Meets net), λ all. refl)
all_decided net decide [] (v ∷ vs) right = absurd right
all_decided net decide (p ∷ ps) [] right = absurd right
all_decided net decide (p ∷ ps) (v ∷ vs) right =
    let here = decide p v right.0 in
    let rest = all_decided net decide ps vs right.1 in (
      λ t. let both = and_parts (is_yes v) (list_all is_yes vs) t in All-cons (Meets net) p ps (here.0 both.0) (rest.0 both.1),
      λ all. and_from (is_yes v) (list_all is_yes vs) (here.1 (All-head (Meets net) p ps all)) (rest.1 (All-tail (Meets net) p ps all)),
    )

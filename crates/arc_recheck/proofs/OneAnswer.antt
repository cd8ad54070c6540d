-- Two right verdicts on a policy have one answer.
use Rattle.std.proofs.Common.{◌≡◌, ◌⊎◌, ℕ, inl, inr, Bool, true, false, IsTrue, List, refl, sym, ◌∙◌, subst}
use Rattle.std.specs.Prelude.{codes}
use Rattle.std.proofs.lemmas.Bool.{false≢true}
use Rattle.net_model.specs.declared.policies.Class.{Class}
use Rattle.net_model.specs.declared.policies.Policy.{Policy}
use Rattle.net_model.specs.declared.policies.PolicyKind.{PolicyKind}
use Rattle.net_model.specs.declared.policies.PolicyKind.TheVariants.{Blocked, Through, Reach}
use Rattle.net_model.specs.declared.rows.Network.{Network}
use Rattle.net_model.specs.declared.verdicts.Verdict.{Verdict}
use Rattle.net_model.specs.declared.verdicts.Verdict.TheVariants.{Closed, Paths, Walk, Denied, Cut, Refused}
use Rattle.net_model.specs.Packets.{subject}
use Rattle.net_model.specs.Forwarding.{Ends}
use Rattle.net_model.specs.Validity.{IsValid}
use Rattle.net_model.specs.Witnesses.{is_yes, IsRight, IsRightFor, is_no}
use Rattle.net_model.proofs.Hosts.{one_pair_of_ends}
use Rattle.net_laws.proofs.RightPaths.{refusals_are_right}
use Rattle.net_laws.proofs.RightVerdicts.{right_verdicts_decide}
use Rattle.policy_report.specs.Reports.{answer_word}
use Rattle.arc_recheck.specs.Laws.{RightAnswersAreOne}

abbrev is_refused : Verdict → Bool
is_refused (Refused p link) = true
is_refused _ = false

-- an answer is yes, no or refused
record Answer (v : Verdict) (b : Bool) (word : List ℕ) : Type 0 where
  is : IsTrue b
  said : answer_word v ≡ word

answer : (v : Verdict) → Answer v (is_yes v) (codes "yes") ⊎ (Answer v (is_no v) (codes "no") ⊎ Answer v (is_refused v) (codes "refused"))
answer (Closed sides) = inl (record { is = refl; said = refl })
answer (Paths paths) = inl (record { is = refl; said = refl })
answer (Walk class path) = inr (inl (record { is = refl; said = refl }))
answer (Denied class) = inr (inl (record { is = refl; said = refl }))
answer (Cut links side) = inr (inl (record { is = refl; said = refl }))
answer (Refused p link) = inr (inr (record { is = refl; said = refl }))

no_yes : (v : Verdict) → IsTrue (is_no v) → IsTrue (is_yes v) → ⊥
no_yes (Closed sides) denies yields = false≢true denies
no_yes (Paths paths) denies yields = false≢true denies
no_yes (Walk class path) denies yields = false≢true yields
no_yes (Denied class) denies yields = false≢true yields
no_yes (Cut links side) denies yields = false≢true yields
no_yes (Refused p link) denies yields = false≢true yields

refused_yes : (v : Verdict) → IsTrue (is_refused v) → IsTrue (is_yes v) → ⊥
refused_yes (Closed sides) refuses yields = false≢true refuses
refused_yes (Paths paths) refuses yields = false≢true refuses
refused_yes (Walk class path) refuses yields = false≢true refuses
refused_yes (Denied class) refuses yields = false≢true refuses
refused_yes (Cut links side) refuses yields = false≢true refuses
refused_yes (Refused p link) refuses yields = false≢true yields

-- a refusal is of a reach policy that is not clear, and a no on one of a clear policy
refused_or_no : (net : Network) (ends : Ends) (whole : Class) (kind : PolicyKind) (v w : Verdict) → IsRightFor net ends kind whole v → IsRightFor net ends kind whole w →
    IsTrue (is_refused v) → IsTrue (is_no w) → ⊥
refused_or_no net ends whole kind (Closed sides) w right other refuses denies = false≢true refuses
refused_or_no net ends whole kind (Paths paths) w right other refuses denies = false≢true refuses
refused_or_no net ends whole kind (Walk class path) w right other refuses denies = false≢true refuses
refused_or_no net ends whole kind (Denied class) w right other refuses denies = false≢true refuses
refused_or_no net ends whole kind (Cut links side) w right other refuses denies = false≢true refuses
refused_or_no net ends whole Blocked (Refused p link) w right other refuses denies = right
refused_or_no net ends whole Through (Refused p link) w right other refuses denies = right
refused_or_no net ends whole (Reach k) (Refused p link) (Closed sides) right other refuses denies = false≢true denies
refused_or_no net ends whole (Reach k) (Refused p link) (Paths paths) right other refuses denies = false≢true denies
refused_or_no net ends whole (Reach k) (Refused p link) (Walk class path) right other refuses denies = other
refused_or_no net ends whole (Reach k) (Refused p link) (Denied class) right other refuses denies = refusals_are_right net ends whole p link right other.clear
refused_or_no net ends whole (Reach k) (Refused p link) (Cut links side) right other refuses denies = refusals_are_right net ends whole p link right other.clear
refused_or_no net ends whole (Reach k) (Refused p link) (Refused q other_link) right other refuses denies = false≢true denies

module _ (net : Network) (valid : IsValid net) (policy : Policy) where
  yes_too : (v w : Verdict) → IsRight net policy v → IsRight net policy w → IsTrue (is_yes v) → IsTrue (is_yes w)
  yes_too v w right other yields =
      (right_verdicts_decide net valid policy w other).1 ((right_verdicts_decide net valid policy v right).0 yields)

  not_refused : (v w : Verdict) → IsRight net policy v → IsRight net policy w → IsTrue (is_refused v) → IsTrue (is_no w) → ⊥
  not_refused v w right other refuses denies =
      let same : other.ends ≡ right.ends = one_pair_of_ends net valid (subject policy) other.ends right.ends other.are_ends right.are_ends in
      refused_or_no net right.ends (subject policy) policy.kind v w right.right
      (subst (λ (e : Ends). IsRightFor net e policy.kind (subject policy) w) same other.right) refuses denies

pub right_answers_are_one : (net : Network) → IsValid net → RightAnswersAreOne net
right_answers_are_one net valid policy v w right other =
    elim (answer v) [
      | inl a ↦ elim (answer w) [
        | inl b ↦ a.said ∙ sym b.said
        | inr more ↦ elim more [
          | inl b ↦ absurd (no_yes w b.is (yes_too net valid policy v w right other a.is))
          | inr b ↦ absurd (refused_yes w b.is (yes_too net valid policy v w right other a.is))
        ]
      ]
      | inr first ↦ elim first [
        | inl a ↦ elim (answer w) [
          | inl b ↦ absurd (no_yes v a.is (yes_too net valid policy w v other right b.is))
          | inr more ↦ elim more [
            | inl b ↦ a.said ∙ sym b.said
            | inr b ↦ absurd (not_refused net valid policy w v other right b.is a.is)
          ]
        ]
        | inr a ↦ elim (answer w) [
          | inl b ↦ absurd (refused_yes v a.is (yes_too net valid policy w v other right b.is))
          | inr more ↦ elim more [
            | inl b ↦ absurd (not_refused net valid policy v w right other a.is b.is)
            | inr b ↦ a.said ∙ sym b.said
          ]
        ]
      ]
    ]

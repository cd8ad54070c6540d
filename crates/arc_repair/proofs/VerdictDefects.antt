-- The first thing that is wrong with verdicts, one policy after another.
use Rattle.std.proofs.Common.{◌≡◌, ℕ, ◌+◌, ◌<◌, ◌≤◌, inl, inr, true, false, Some, List, [], ◌∷◌, length, drop, get_or, refl, sym, ◌∙◌, ap, subst, arith}
use Rattle.std.specs.Prelude.{slice_get}
use Rattle.std.specs.List.{AllZip}
use Rattle.std.proofs.lemmas.Bool.{false≢true}
use Rattle.std.proofs.lemmas.List.{drop_more, length-drop}
use Rattle.std.proofs.lemmas.Option.{slice_get_within, get_or_from_slice_get}
use Rattle.arc_base.specs.declared.certificate.CertKind.{CertKind}
use Rattle.arc_base.specs.declared.certificate.CertKind.TheVariants as kinds
use Rattle.net_model.specs.declared.policies.Policy.{Policy}
use Rattle.net_model.specs.declared.rows.Network.{Network}
use Rattle.net_model.specs.declared.verdicts.Verdict.{Verdict}
use Rattle.net_model.specs.Witnesses.{is_yes, IsRight}
use Rattle.arc_repair.specs.Checks.{IsVerdictDefect}
use Rattle.arc_repair.specs.Claims.{IsRightYes}

module _ (net : Network) where
  -- the policies and verdicts that are left decide for all
  pub record Leaves (policies : List Policy) (verdicts : List Verdict) (ps : List Policy) (vs : List Verdict) : Type 0 where
    pub right : AllZip (IsRightYes net) ps vs → AllZip (IsRightYes net) policies verdicts
    pub defect : (kind : CertKind) → IsVerdictDefect net ps vs kind → IsVerdictDefect net policies verdicts kind

  pub all_left : (policies : List Policy) (verdicts : List Verdict) → Leaves policies verdicts policies verdicts
  all_left policies verdicts = record { right = λ z. z; defect = λ kind d. d }

  -- one right pair fewer
  pub one_less : (policies : List Policy) (verdicts : List Verdict) (p : Policy) (ps : List Policy) (v : Verdict) (vs : List Verdict) →
      Leaves policies verdicts (p ∷ ps) (v ∷ vs) → IsRightYes net p v → Leaves policies verdicts ps vs
  one_less policies verdicts p ps v vs left right_one = record { right = λ z. left.right (right_one, z); defect = λ kind d. left.defect kind (inr (inr (right_one, d))) }

  pub not_yes : (p : Policy) (ps : List Policy) (v : Verdict) (vs : List Verdict) → is_yes v ≡ false → IsVerdictDefect net (p ∷ ps) (v ∷ vs) kinds.NotYes
  not_yes p ps v vs negative = inl (negative, refl)

  pub not_right : (p : Policy) (ps : List Policy) (v : Verdict) (vs : List Verdict) → is_yes v ≡ true → ¬ IsRight net p v → IsVerdictDefect net (p ∷ ps) (v ∷ vs) kinds.Witness
  not_right p ps v vs positive wrong = inr (inl ((λ negative. false≢true (sym negative ∙ positive)), wrong, refl))

  pub missing : (p : Policy) (ps : List Policy) (vs : List Verdict) → length vs ≡ 0 → IsVerdictDefect net (p ∷ ps) vs kinds.Policy
  missing p ps [] none = refl
  missing p ps (v ∷ vs) none = absurd (omega (arith, none))

  pub too_many : (ps : List Policy) (vs : List Verdict) → length ps ≡ 0 → 0 < length vs → IsVerdictDefect net ps vs kinds.Policy
  too_many [] [] none some = absurd (omega (arith, some))
  too_many [] (v ∷ vs) none some = refl
  too_many (p ∷ ps) vs none some = absurd (omega (arith, none))

  pub both_end : (ps : List Policy) (vs : List Verdict) → length ps ≡ 0 → length vs ≡ 0 → AllZip (IsRightYes net) ps vs
  both_end [] [] none also = tt
  both_end [] (v ∷ vs) none also = absurd (omega (arith, also))
  both_end (p ∷ ps) vs none also = absurd (omega (arith, none))

  module _ (policies : List Policy) (verdicts : List Verdict) (place : ℕ) (left : Leaves policies verdicts (drop place policies) (drop place verdicts)) where
    -- a policy and the verdict at its place
    pub pair : (p : Policy) (v : Verdict) → slice_get policies place ≡ Some p → slice_get verdicts place ≡ Some v →
        Leaves policies verdicts (p ∷ drop (place + 1) policies) (v ∷ drop (place + 1) verdicts)
    pair p v here there =
        let ps : drop place policies ≡ p ∷ drop (place + 1) policies =
        drop_more policies place p (slice_get_within policies place p here) ∙ ap (λ (x : Policy). x ∷ drop (place + 1) policies) (get_or_from_slice_get policies place p p here) in
        let vs : drop place verdicts ≡ v ∷ drop (place + 1) verdicts =
        drop_more verdicts place v (slice_get_within verdicts place v there) ∙ ap (λ (x : Verdict). x ∷ drop (place + 1) verdicts) (get_or_from_slice_get verdicts place v v there) in
        subst (λ (xs : List Policy). Leaves policies verdicts xs (v ∷ drop (place + 1) verdicts)) ps (subst (λ (xs : List Verdict). Leaves policies verdicts (drop place policies) xs) vs left)

    -- a verdict is missing
    pub at_missing : (p : Policy) → slice_get policies place ≡ Some p → length verdicts ≤ place → IsVerdictDefect net policies verdicts kinds.Policy
    at_missing p here past =
        let ps : drop place policies ≡ get_or policies place p ∷ drop (place + 1) policies = drop_more policies place p (slice_get_within policies place p here) in
        left.defect kinds.Policy (subst (λ (xs : List Policy). IsVerdictDefect net xs (drop place verdicts) kinds.Policy) (sym ps)
        (missing (get_or policies place p) (drop (place + 1) policies) (drop place verdicts) (omega (arith, length-drop place verdicts, past))))

    -- there are as many verdicts as policies, or more
    pub at_end : length policies ≤ place → length verdicts ≤ place → AllZip (IsRightYes net) policies verdicts
    at_end all past = left.right (both_end (drop place policies) (drop place verdicts) (omega (arith, length-drop place policies, all)) (omega (arith, length-drop place verdicts, past)))

    pub at_more : length policies ≤ place → place < length verdicts → IsVerdictDefect net policies verdicts kinds.Policy
    at_more all more = left.defect kinds.Policy
        (too_many (drop place policies) (drop place verdicts) (omega (arith, length-drop place policies, all)) (omega (arith, length-drop place verdicts, more)))

-- A text is accepted exactly if it is the certificate of a claim.
use Rattle.std.proofs.Common.{◌≡◌, ◌≢◌, ℕ, suc, ◌+◌, ◌<◌, ◌≤◌, Bool, true, inl, inr, Option, List, [], ◌∷◌, length, refl, subst, arith}
use Rattle.std.specs.Prelude.{All, Some}
use Rattle.std.specs.List.{AllZip}
use Rattle.std.proofs.lemmas.Bool.{cases_eq}
use Rattle.arc_base.specs.declared.certificate.CertKind.TheVariants as kinds
use Rattle.cnf_types.specs.declared.clauses.Formula.{Formula}
use Rattle.cnf_types.specs.declared.literal.Lit.{Lit}
use Rattle.arc_base.specs.TextLines.{lines}
use Rattle.net_model.specs.declared.policies.Document.{Document}
use Rattle.net_model.specs.declared.policies.Policy.{Policy}
use Rattle.net_model.specs.declared.rows.Network.{Network}
use Rattle.net_model.specs.declared.verdicts.Verdict as verdicts
use Rattle.net_model.specs.Validity.{IsValid}
use Rattle.net_model.specs.Witnesses.{IsRight}
use Rattle.edit_list.specs.declared.claims.Claim.{Claim}
use Rattle.edit_list.specs.declared.claims.Claim.TheVariants as claims
use Rattle.edit_list.specs.declared.edit_kinds.Edit as edits
use Rattle.edit_list.specs.Determined.{AfterIsOne, IsCountable}
use Rattle.edit_list.specs.Prices.{chosen_of, price_of_flags, none_of}
use Rattle.policy_encode.specs.Laws.{HaveOneFormula}
use Rattle.price_descent.specs.Outcomes.{least_below}
use Rattle.proof_check.specs.Knowledge.{Knowledge, start}
use Rattle.policy_report.specs.Edits.{EditsAreToldApart}
use Rattle.policy_report.specs.Recertifying.{CertificatesAreReadAgain, IsToldClaim, IsYes, OnlyCertificatesAreTaken, Told, certificate_answers, chosen_from, edits_answers, log_answers}
use Rattle.policy_report.specs.Rereading.{IsReadable, answers, blocks_answers}
use Rattle.policy_report.specs.Steps.{start as before}
use Rattle.report_check.specs.declared.outcome.Outcome.{Outcome}
use Rattle.report_check.proofs.Zipped.{right_places, right_zip}
use Rattle.arc_repair.proofs.ClaimDefects.{not_mispriced}
use Rattle.arc_repair.specs.Claims.{IsCertificate, IsRightYes, is_above_zero}
use Rattle.arc_repair.specs.Laws.{CertificatesAreTrue}
use Rattle.repair_check.specs.Certifies.{CertificatesAreAccepted, CertifiedClaimsAreTrue}
use Rattle.repair_check.specs.Outcomes.{AfterEdits, AfterNone, IsEditsEnd, IsEditsOutcome, IsHeadOutcome, IsRepairOutcome}
use Rattle.repair_check.proofs.Logs.{AcceptsIf, Passes, log_exact, never, passes_shows, shows_passes, steps_told}
use Rattle.repair_check.proofs.BlocksJudged.{AreYes, blocks_exact, right_yeses, yeses_right}
use Rattle.repair_check.proofs.EditsChosen.{all_chosen, edits_passed}
use Rattle.repair_check.proofs.Whole.{head_whole}

-- the verdicts of a claim that can be written are one for each policy, each a yes
one_each : (net : Network) (policies : List Policy) (vs : List verdicts.Verdict) → AllZip (IsReadable net) policies vs → length vs ≡ length policies
one_each net [] [] zip = refl
one_each net [] (v ∷ vs) zip = absurd zip
one_each net (policy ∷ policies) [] zip = absurd zip
one_each net (policy ∷ policies) (v ∷ vs) zip = let rest : length vs ≡ length policies = one_each net policies vs zip.1 in omega (arith, rest)

are_yes : (vs : List verdicts.Verdict) → All IsYes vs → AreYes vs
are_yes [] all = tt
are_yes (v ∷ vs) all = (all 0 v (omega arith), are_yes vs (λ k d l. all (suc k) d (omega (arith, l))))

module _ (one_after : AfterIsOne) (one_formula : HaveOneFormula) (net : Network) (doc : Document) (list : List edits.Edit) (valid : IsValid net) (countable : IsCountable net) where
  -- a log that passes for a repair formula passes for an equal one
  passes_same : (needs : Bool) (bound : ℕ) (least : Option ℕ) (formula other : Formula) (tops others : List Lit) (told : List Told) → (formula ≡ other) × (tops ≡ others) →
      Passes needs (start formula least tops) (steps_told told) → Passes needs (start other least others) (steps_told told)
  passes_same needs bound least formula other tops others told same p =
      subst (λ (t : List Lit). Passes needs (start other least t) (steps_told told)) same.1 (subst (λ (f : Formula). Passes needs (start f least tops) (steps_told told)) same.0 p)

  module _ (price bound : ℕ) (chosen : List Bool) (vs : List verdicts.Verdict) (told : List Told) (o : Outcome) (each : length chosen ≡ length list)
      (readable : AllZip (IsReadable net) doc.policies vs) (yeses : All IsYes vs) where
    abbrev Certified : Type 0
    Certified = IsCertificate net doc list (claims.Repaired price bound chosen vs) (steps_told told)

    opened : (number : ℕ) → AfterEdits net doc list price bound chosen number (blocks_answers net 0 vs (log_answers told)) o → AcceptsIf o Certified
    opened number a =
        let whole : length vs ≡ length doc.policies = one_each net doc.policies vs readable in
        let blocks = blocks_exact net a.now doc.policies (is_above_zero price) (start a.formula (least_below price) a.tops) told o 0 number number vs (omega (arith, whole)) a.outcome in (
          λ e.
              let shown = passes_shows (is_above_zero price) (start a.formula (least_below price) a.tops) (steps_told told) refl (blocks.0 e).1 in
              let right : AllZip (IsRight a.now) doc.policies vs = right_zip a.now (IsReadable net) doc.policies vs readable (blocks.0 e).0 in
              record {
                right = record {
                  one_each = each;
                  costs = same_cost (price_of_flags doc list chosen) price (λ (wrong : price_of_flags doc list chosen ≢ price). a.priced (inl wrong));
                  affordable = let h : bound < price → ⊥ = λ above. a.priced (inr (inl above)) in omega (arith, h);
                  few = let h : 512 < bound → ⊥ = λ above. a.priced (inr (inr above)) in omega (arith, h);
                  after = a.now;
                  is_after = a.is_after;
                  judged = right_yeses a.now doc.policies vs (are_yes vs yeses) right;
                };
                shown = record { formula = a.formula; tops = a.tops; is_formula = a.is_formula; accepted = shown.0; refuting = shown.1 };
              },
          λ p.
              let same : p.right.after ≡ a.now = one_after net valid countable (chosen_of list chosen) p.right.after a.now p.right.is_after a.is_after in
              let judged : AllZip (IsRightYes a.now) doc.policies vs = subst (λ (n : Network). AllZip (IsRightYes n) doc.policies vs) same p.right.judged in
              let formulas = one_formula net doc list bound p.shown.formula a.formula p.shown.tops a.tops valid p.shown.is_formula a.is_formula in
              blocks.1 (
                right_places a.now doc.policies vs (yeses_right a.now doc.policies vs judged),
                passes_same (is_above_zero price) bound (least_below price) p.shown.formula a.formula p.shown.tops a.tops told formulas
                    (shows_passes (is_above_zero price) (start p.shown.formula (least_below price) p.shown.tops) (steps_told told) refl p.shown.accepted p.shown.refuting),
              ),
        )
      where
        same_cost : (m n : ℕ) → (m ≢ n → ⊥) → m ≡ n
        same_cost m n h =
            elim (cases_eq m n) [
              | inl e ↦ e
              | inr wrong ↦ absurd (h wrong)
            ]

    ended : (number : ℕ) → IsEditsEnd net doc list price bound chosen number (blocks_answers net 0 vs (log_answers told)) o → AcceptsIf o Certified
    ended number (inl wrong) = (λ e. absurd (never o 2 kinds.Price wrong.1 e), λ p. absurd (not_mispriced net doc list price bound chosen p.right.costs p.right.affordable p.right.few wrong.0))
    ended number (inr a) = opened number a

    repaired_exact : (number : ℕ) →
        IsEditsOutcome net doc list price bound (none_of list) number (edits_answers (chosen_from 0 chosen) (blocks_answers net 0 vs (log_answers told))) o → AcceptsIf o Certified
    repaired_exact number h =
        let end = edits_passed net doc list price bound o (chosen_from 0 chosen) (none_of list) number vs told h in
        ended end.0 (subst (λ (flags : List Bool). IsEditsEnd net doc list price bound flags end.0 (blocks_answers net 0 vs (log_answers told)) o) (all_chosen chosen list each) end.1)

  none_exact : (bound number : ℕ) (told : List Told) (o : Outcome) → AfterNone net doc list bound number (log_answers told) o →
      AcceptsIf o (IsCertificate net doc list (claims.NoRepair bound) (steps_told told))
  none_exact bound number told o a =
      let known : Knowledge = start a.formula (Some bound) a.tops in
      let log = log_exact true known (number + 1) told o a.outcome in (
        λ e.
            let shown = passes_shows true known (steps_told told) refl (log.0 e) in
            record { right = a.few; shown = record { formula = a.formula; tops = a.tops; is_formula = a.is_formula; accepted = shown.0; refuting = shown.1 } },
        λ p.
            let formulas = one_formula net doc list bound p.shown.formula a.formula p.shown.tops a.tops valid p.shown.is_formula a.is_formula in
            log.1
            (passes_same true bound (Some bound) p.shown.formula a.formula p.shown.tops a.tops told formulas
            (shows_passes true (start p.shown.formula (Some bound) p.shown.tops) (steps_told told) refl p.shown.accepted p.shown.refuting)),
      )

  claim_exact : (claim : Claim) (told : List Told) (o : Outcome) → IsToldClaim net doc list claim →
      IsHeadOutcome net doc list 1 (certificate_answers net claim told) o → AcceptsIf o (IsCertificate net doc list claim (steps_told told))
  claim_exact (claims.Repaired price bound chosen vs) told o is h = repaired_exact price bound chosen vs told o is.2 is.3 is.4 3 h
  claim_exact (claims.NoRepair bound) told o is (inl wrong) = (λ e. absurd (never o 2 kinds.Price wrong.1 e), λ p. absurd (beyond p.right))
    where
      beyond : bound ≤ 512 → ⊥
      beyond few = omega (arith, few, wrong.0)
  claim_exact (claims.NoRepair bound) told o is (inr a) = none_exact bound 3 told o a

pub certificates_are_accepted : AfterIsOne → HaveOneFormula → OnlyCertificatesAreTaken → CertificatesAreReadAgain → EditsAreToldApart → CertificatesAreAccepted
certificates_are_accepted one_after one_formula only again apart net doc list text o valid countable addresses are few h =
    let told_apart = apart net doc list valid addresses are in (
      λ e.
          let taken = only net doc list (lines text) valid addresses few (head_whole net doc list 1 (answers net doc list before (lines text)) (subst (IsRepairOutcome net doc list text) e h)) in
          let read = again net doc list taken.0 taken.1 (lines text) valid addresses few told_apart taken.2 in
          let exact = claim_exact one_after one_formula net doc list valid countable taken.0 taken.1 o taken.2.is_told (subst (λ told. IsHeadOutcome net doc list 1 told o) read h) in
          (taken.0, record { told = taken.1; is_text = taken.2; certificate = exact.0 e }),
      λ c.
          let read = again net doc list c.0 c.1.told (lines text) valid addresses few told_apart c.1.is_text in
          (claim_exact one_after one_formula net doc list valid countable c.0 c.1.told o c.1.is_text.is_told (subst (λ told. IsHeadOutcome net doc list 1 told o) read h)).1 c.1.certificate,
    )

pub certified_claims_are_true : CertificatesAreTrue → CertifiedClaimsAreTrue
certified_claims_are_true are_true net doc list text claim valid countable are c = are_true net doc list claim (steps_told c.told) valid countable are c.certificate

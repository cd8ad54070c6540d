-- Which texts are certificates of a repair, and when the formula of one is counted.
use Rattle.std.specs.Prelude.{◌≡◌, ◌↔◌, ◌⊎◌, ℕ, ◌≤◌, List, ◌∷◌, length, All, Ok}
use Rattle.std.specs.List.{filter_map}
use Rattle.arc_base.specs.declared.limits.TheConstants.{PRICE_LIMIT}
use Rattle.arc_base.specs.TextLines.{lines}
use Rattle.net_model.specs.declared.policies.Document.{Document}
use Rattle.net_model.specs.declared.rows.Network.{Network}
use Rattle.net_model.specs.Validity.{IsValid}
use Rattle.edit_list.specs.declared.claims.Claim.{Claim}
use Rattle.edit_list.specs.declared.edit_kinds.Edit.{Edit}
use Rattle.edit_list.specs.declared.edit_kinds.EditFault.{EditFault}
use Rattle.edit_list.specs.declared.edit_kinds.EditFault.TheVariants.{Limit, Memory}
use Rattle.edit_list.specs.Determined.{IsCountable}
use Rattle.edit_list.specs.EditLists.{AreEdits}
use Rattle.policy_encode.specs.Formulas.{IsFaultOfFormula, IsWithin}
use Rattle.proof_log.specs.declared.steps.Log.{Log}
use Rattle.proof_log.specs.Texts.{HasLine}
use Rattle.policy_report.specs.declared.got.Got.TheVariants.{Head, More}
use Rattle.policy_report.specs.declared.got.CertForm.{CertForm}
use Rattle.policy_report.specs.declared.got.CertForm.TheVariants.{Repaired, NoRepair}
use Rattle.policy_report.specs.Certificates.{certificate_text}
use Rattle.policy_report.specs.Edits.{HasAddresses}
use Rattle.policy_report.specs.Recertifying.{Told}
use Rattle.policy_report.specs.Recertifying as texts
use Rattle.policy_report.specs.Rereading.{answers}
use Rattle.policy_report.specs.Steps.{start}
use Rattle.report_check.specs.declared.outcome.Outcome.{Outcome}
use Rattle.report_check.specs.declared.outcome.Outcome.TheVariants.{Accepted}
use Rattle.arc_repair.specs.Answers.{ClaimsFew}
use Rattle.arc_repair.specs.Claims.{IsCertificate, IsTrueClaim, claim_bound}
use Rattle.repair_check.specs.Outcomes.{ReaderAnswers, IsRepairOutcome}

-- the text is a certificate of this claim: its lines are those of the claim's text with a log
-- between its two lines, and that log shows the claim
pub record Certifies (net : Network) (doc : Document) (list : List Edit) (claim : Claim)
    (text : List ℕ) : Type 0 where
  pub told : List Told
  pub is_text : texts.IsCertificateText net doc list claim told (lines text)
  pub certificate : IsCertificate net doc list claim (filter_map (λ t. t) told)

-- some claim has this text as its certificate
abbrev pub IsCertified : Network → Document → List Edit → List ℕ → Type 0
IsCertified net doc list text = (claim : Claim) × Certifies net doc list claim text

-- a text is accepted exactly if it is a certificate
abbrev pub CertificatesAreAccepted : Type 0
CertificatesAreAccepted =
    (net : Network) (doc : Document) (list : List Edit) (text : List ℕ) (o : Outcome) →
    IsValid net → IsCountable net → HasAddresses net →
    AreEdits net doc list → length doc.policies ≤ 4294967295 → IsRepairOutcome net doc list text o →
    (o ≡ Accepted) ↔ IsCertified net doc list text

-- each claim that a text is the certificate of is true
abbrev pub CertifiedClaimsAreTrue : Type 0
CertifiedClaimsAreTrue =
    (net : Network) (doc : Document) (list : List Edit) (text : List ℕ) (claim : Claim) →
    IsValid net → IsCountable net →
    AreEdits net doc list → Certifies net doc list claim text → IsTrueClaim net doc list claim

-- the text that is written for a claim, with a log that shows it, is a certificate of the claim, if
-- each verdict shows at most CLASS_LIMIT sides or paths
abbrev pub WrittenClaimsAreCertified : Type 0
WrittenClaimsAreCertified =
    (net : Network) (doc : Document) (list : List Edit) (claim : Claim) (log : Log) →
    IsCertificate net doc list claim log.steps → ClaimsFew claim →
    All HasLine log.steps → Certifies net doc list claim (certificate_text net doc list claim log)

-- the answer names this bound
abbrev pub HasBound : ℕ → CertForm → Type 0
HasBound bound form = ((price : ℕ) × (form ≡ Repaired price bound)) ⊎ (form ≡ NoRepair bound)

-- the lines begin with the head of a repair and an answer in its form, with this bound, which is at
-- most PRICE_LIMIT
pub record CountsBound (told : ReaderAnswers) (bound : ℕ) : Type 0 where
  pub few : bound ≤ PRICE_LIMIT
  pub form : CertForm
  pub has_bound : HasBound bound form
  pub rest : ReaderAnswers
  pub begins : told ≡ Ok More ∷ Ok (Head form) ∷ rest

-- the reader's answers to the lines of the text
abbrev pub text_answers : Network → Document → List Edit → List ℕ → ReaderAnswers
text_answers net doc list text = answers net doc list start (lines text)

-- if the formula is counted, it is within its limits
abbrev pub IsCounted : Network → Document → List Edit → ReaderAnswers → Type 0
IsCounted net doc list told = (bound : ℕ) → CountsBound told bound → IsWithin net doc list bound

-- a certificate of a claim names the claim's bound, so that the formula is counted for this bound
-- alone
abbrev pub CertificatesNameTheirBound : Type 0
CertificatesNameTheirBound =
    (net : Network) (doc : Document) (list : List Edit) (claim : Claim) (text : List ℕ) →
    IsValid net → HasAddresses net → AreEdits net doc list → length doc.policies ≤ 4294967295 →
    Certifies net doc list claim text → IsWithin net doc list (claim_bound claim) →
    IsCounted net doc list (text_answers net doc list text)

-- the formula is counted, and exceeds the limit that the fault names; or out of memory
abbrev pub IsCountFault : Network → Document → List Edit → ReaderAnswers → EditFault → Type 0
IsCountFault net doc list told (Limit what count) =
    (bound : ℕ) × CountsBound told bound × IsFaultOfFormula net doc list bound (Limit what count)
IsCountFault net doc list told Memory = Unit {0}

-- A certificate is read again: a reader that takes its lines in order gives back its head, its
-- edits, its verdicts, the steps of its proof log and its end, and a text of which each line is
-- taken, the first of them as a repair's and the last as the end, is the certificate of a claim,
-- with a proof log in any lines that write its steps.
use Rattle.std.specs.Prelude.{◌≡◌, ℕ, ◌+◌, ◌≤◌, Bool, true, false, List, [], ◌∷◌, ◌++◌, codes}
use Rattle.std.specs.Prelude.{length, map, All, Option, Some, None, Result, Ok, Err}
use Rattle.std.specs.List.{AllZip}
use Rattle.arc_base.specs.declared.certificate.CertKind.TheVariants.{NoClaim}
use Rattle.arc_base.specs.TextLines.{lines}
use Rattle.net_model.specs.declared.policies.Document.{Document}
use Rattle.net_model.specs.declared.rows.Network.{Network}
use Rattle.net_model.specs.declared.verdicts.Verdict as verdicts
use Rattle.net_model.specs.declared.verdicts.Verdict.TheVariants.{Closed, Paths}
use Rattle.net_model.specs.Validity.{IsValid}
use Rattle.edit_list.specs.declared.claims.Claim.{Claim}
use Rattle.edit_list.specs.declared.claims.Claim.TheVariants as claims
use Rattle.edit_list.specs.declared.edit_kinds.Edit as edits
use Rattle.proof_log.specs.declared.steps.Step as steps
use Rattle.proof_log.specs.declared.steps.Log.{Log}
use Rattle.proof_log.specs.Reading.{reading}
use Rattle.proof_log.specs.Texts.{HasLine}
use Rattle.policy_report.specs.declared.got.Got.{Got}
use Rattle.policy_report.specs.declared.got.Got.TheVariants as gots
use Rattle.policy_report.specs.declared.got.Got.TheVariants.{More, Head, End}
use Rattle.policy_report.specs.declared.got.CertForm.TheVariants.{Repaired, NoRepair}
use Rattle.policy_report.specs.declared.got.CertFault.{CertFault}
use Rattle.policy_report.specs.Certificates.{head_line, claim_line, shown_lines, certificate_text}
use Rattle.policy_report.specs.Certificates.{budget_text}
use Rattle.policy_report.specs.Edits.{AreToldApart, HasAddresses}
use Rattle.policy_report.specs.Rereading.{IsReadable, IsWhole, answers, blocks_answers}
use Rattle.policy_report.specs.Steps.{start}

-- what a line of a proof log writes: a step, or none
abbrev pub Told : Type 0
Told = Option steps.Step

-- the answer to such a line
abbrev pub told_answer : Told → Result Got CertFault
told_answer None = Ok More
told_answer (Some s) = Ok (gots.Step s)

-- the answers to a proof log, from the line before it to the end
abbrev pub log_answers : List Told → List (Result Got CertFault)
log_answers told = Ok More ∷ (map told_answer told ++ Ok End ∷ [])

-- the places of the edits that are chosen, where the first flag is that of this place
abbrev pub chosen_from : ℕ → List Bool → List ℕ
chosen_from place [] = []
chosen_from place (true ∷ flags) = place ∷ chosen_from (place + 1) flags
chosen_from place (false ∷ flags) = chosen_from (place + 1) flags

-- the answers to the lines of edits at these places, and to the lines after them
abbrev pub edits_answers : List ℕ → List (Result Got CertFault) → List (Result Got CertFault)
edits_answers places rest = map (λ place. Ok (gots.Edit place)) places ++ rest

-- the answers to a certificate
abbrev pub certificate_answers : Network → Claim → List Told → List (Result Got CertFault)
certificate_answers net (claims.Repaired price bound chosen verdicts) told =
    Ok More ∷ Ok (Head (Repaired price bound)) ∷
    edits_answers (chosen_from 0 chosen) (blocks_answers net 0 verdicts (log_answers told))
certificate_answers net (claims.NoRepair bound) told =
    Ok More ∷ Ok (Head (NoRepair bound)) ∷ log_answers told

-- each line is taken, the first one as the head of a repair and the last one as the end
abbrev pub IsWholeRepair : List (Result Got CertFault) → Type 0
IsWholeRepair (Ok More ∷ rest) = IsWhole rest
IsWholeRepair other = ⊥

-- the verdict is a yes
abbrev pub IsYes : verdicts.Verdict → Type 0
IsYes (Closed sides) = Unit {0}
IsYes (Paths paths) = Unit {0}
IsYes other = ⊥

-- the claim can be written in a certificate: numbers have 32 bits, and a repair has one flag for
-- each edit and one yes for each policy
abbrev pub IsToldClaim : Network → Document → List edits.Edit → Claim → Type 0
IsToldClaim net doc all (claims.Repaired price bound chosen verdicts) =
    (price ≤ 4294967295) × (bound ≤ 4294967295) × (length chosen ≡ length all) ×
    AllZip (IsReadable net) doc.policies verdicts × All IsYes verdicts
IsToldClaim net doc all (claims.NoRepair bound) = bound ≤ 4294967295

-- the lines are those of a certificate of the claim, with a proof log whose lines write these steps
pub record IsCertificateText (net : Network) (doc : Document) (all : List edits.Edit)
    (claim : Claim)
    (told : List Told) (ls : List (List ℕ)) : Type 0 where
  pub is_told : IsToldClaim net doc all claim
  pub log : List (List ℕ)
  pub read : map reading log ≡ map Ok told
  pub are : ls ≡ lines (head_line ++ claim_line claim ++ shown_lines net doc all claim) ++
      codes "log" ∷ (log ++ codes "end" ∷ [])

-- what is written for a claim is its certificate
abbrev pub CertificatesAreWritten : Type 0
CertificatesAreWritten =
    (net : Network) (doc : Document) (all : List edits.Edit) (claim : Claim) (log : Log) →
    IsToldClaim net doc all claim → All HasLine log.steps →
    IsCertificateText net doc all claim (map Some log.steps)
    (lines (certificate_text net doc all claim log))

-- the lines of a certificate are read again
abbrev pub CertificatesAreReadAgain : Type 0
CertificatesAreReadAgain =
    (net : Network) (doc : Document) (all : List edits.Edit) (claim : Claim) (told : List Told)
    (ls : List (List ℕ)) →
    IsValid net → HasAddresses net → length doc.policies ≤ 4294967295 → AreToldApart net all →
    IsCertificateText net doc all claim told ls →
    answers net doc all start ls ≡ certificate_answers net claim told

-- only the lines of a certificate are taken
abbrev pub OnlyCertificatesAreTaken : Type 0
OnlyCertificatesAreTaken =
    (net : Network) (doc : Document) (all : List edits.Edit) (ls : List (List ℕ)) → IsValid net →
    HasAddresses net → length doc.policies ≤ 4294967295 →
    IsWholeRepair (answers net doc all start ls) →
    (claim : Claim) × (told : List Told) × IsCertificateText net doc all claim told ls

-- where the budget was used up the second line is refused, since it claims nothing
abbrev pub BudgetsAreRefused : Type 0
BudgetsAreRefused =
    (net : Network) (doc : Document) (all : List edits.Edit) (limit bound : ℕ) (log : Log) →
    limit ≤ 4294967295 → bound ≤ 4294967295 →
    (rest : List (Result Got CertFault)) ×
    (answers net doc all start (lines (budget_text limit bound log))
    ≡ Ok More ∷ Err (record { line = 2; kind = NoClaim }) ∷ rest)

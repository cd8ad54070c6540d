-- The text of a certificate: its head, what is claimed, for a repair its edits and a block for each
-- policy, the proof log and the end.
use Rattle.std.specs.Prelude.{◌≡◌, ℕ, List, [], ◌∷◌, ◌++◌, codes, decimal, length}
use Rattle.net_model.specs.declared.policies.Document.{Document}
use Rattle.net_model.specs.declared.rows.Network.{Network}
use Rattle.edit_list.specs.declared.claims.Claim.{Claim}
use Rattle.edit_list.specs.declared.claims.Claim.TheVariants.{Repaired, NoRepair}
use Rattle.edit_list.specs.declared.edit_kinds.Edit.{Edit}
use Rattle.edit_list.specs.Prices.{chosen_of}
use Rattle.proof_log.specs.declared.steps.Log.{Log}
use Rattle.proof_log.specs.Texts.{log_text}
use Rattle.policy_report.specs.Lines.{line}
use Rattle.policy_report.specs.Edits.{edit_lines}
use Rattle.policy_report.specs.Reports.{blocks_text}

-- the head of every certificate
abbrev pub head_line : List ℕ
head_line = line (codes "arc-repair") (codes "1" ∷ [])

-- the line of the answer: a repair of this price within this bound, or none within the bound
abbrev pub claim_line : Claim → List ℕ
claim_line (Repaired price bound chosen verdicts) =
    line (codes "answer") (codes "repaired" ∷ decimal price ∷ decimal bound ∷ [])
claim_line (NoRepair bound) = line (codes "answer") (codes "none" ∷ decimal bound ∷ [])

-- what a repair shows: the edits that are chosen, and a block for each policy
abbrev pub shown_lines : Network → Document → List Edit → Claim → List ℕ
shown_lines net doc edits (Repaired price bound chosen verdicts) =
    edit_lines net (chosen_of edits chosen) ++ blocks_text 1 net doc.policies verdicts
shown_lines net doc edits (NoRepair bound) = []

-- the proof log between its two lines
abbrev pub log_lines : Log → List ℕ
log_lines log = line (codes "log") [] ++ log_text log ++ line (codes "end") []

-- the certificate of a claim
abbrev pub certificate_text : Network → Document → List Edit → Claim → Log → List ℕ
certificate_text net doc edits claim log =
    head_line ++ claim_line claim ++ shown_lines net doc edits claim ++ log_lines log

-- the line of the answer that the budget was used up
abbrev pub budget_line : ℕ → ℕ → List ℕ
budget_line limit bound =
    line (codes "answer") (codes "budget" ∷ decimal limit ∷ decimal bound ∷ [])

-- what is written where the budget was used up
abbrev pub budget_text : ℕ → ℕ → Log → List ℕ
budget_text limit bound log = head_line ++ budget_line limit bound ++ log_lines log

-- a repair has one flag for each edit and one verdict for each policy
abbrev pub IsWholeClaim : Document → List Edit → Claim → Type 0
IsWholeClaim doc edits (Repaired price bound chosen verdicts) =
    (length chosen ≡ length edits) × (length verdicts ≡ length doc.policies)
IsWholeClaim doc edits (NoRepair bound) = Unit {0}

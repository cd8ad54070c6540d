-- The outcome of judging the certificate of a repair, given a reader's answers to its lines. It is
-- the first line that is rejected: one that the reader rejects; the line of the answer if its price
-- is wrong; the first line of a block whose verdict is not right in the network after the edits; a
-- step of the log that is not accepted; the line `end` if something is left to refute; or the line
-- after the last one if the text ends too early.
use Rattle.std.specs.Prelude.{◌≡◌, ◌⊎◌, ℕ, ◌+◌, ◌<◌, ◌≤◌, ◌==◌, ◌||◌, Bool, true, false, not, List}
use Rattle.std.specs.Prelude.{[], ◌∷◌, length, Some, MatchBool, MatchOption, Result, Ok, Err, set}
use Rattle.arc_base.specs.declared.limits.TheConstants.{PRICE_LIMIT}
use Rattle.arc_base.specs.declared.certificate.CertKind.{CertKind}
use Rattle.arc_base.specs.declared.certificate.CertKind.TheVariants as kinds
use Rattle.cnf_types.specs.declared.clauses.Formula.{Formula}
use Rattle.cnf_types.specs.declared.literal.Lit.{Lit}
use Rattle.arc_base.specs.TextLines.{lines}
use Rattle.net_model.specs.declared.policies.Document.{Document}
use Rattle.net_model.specs.declared.policies.Policy.{Policy}
use Rattle.net_model.specs.declared.rows.Network.{Network}
use Rattle.net_model.specs.Validity.{IsValid}
use Rattle.edit_list.specs.declared.edit_kinds.Edit as edits
use Rattle.edit_list.specs.After.{IsAfter}
use Rattle.edit_list.specs.Determined.{IsCountable}
use Rattle.edit_list.specs.Prices.{chosen_of, none_of}
use Rattle.policy_encode.specs.Formulas.{IsRepairFormula}
use Rattle.price_descent.specs.Outcomes.{least_below}
use Rattle.proof_check.specs.Knowledge.{Knowledge, after, start, step_fault}
use Rattle.proof_check.specs.Outcomes.{fault_kind}
use Rattle.policy_report.specs.declared.got.Got.{Got}
use Rattle.policy_report.specs.declared.got.Got.TheVariants.{More, Head, Verdict, Edit, Step, End}
use Rattle.policy_report.specs.declared.got.CertForm.TheVariants.{Repaired, NoRepair}
use Rattle.policy_report.specs.declared.got.CertFault.{CertFault}
use Rattle.policy_report.specs.Rereading.{answers}
use Rattle.policy_report.specs.Steps as reader
use Rattle.report_check.specs.declared.outcome.Outcome.{Outcome}
use Rattle.report_check.specs.declared.outcome.Outcome.TheVariants.{Accepted, Rejected}
use Rattle.report_check.specs.Outcomes.{IsRightAt}
use Rattle.arc_repair.specs.Checks.{IsMispriced}
use Rattle.arc_repair.specs.Claims.{is_above_zero}

-- the outcome that the line of this number is rejected, for a reason of this kind
abbrev pub rejected : ℕ → CertKind → Outcome
rejected number kind = Rejected (record { line = number; kind = kind })

-- whether the line is rejected as an edit
abbrev pub is_edit_kind : CertKind → Bool
is_edit_kind kinds.Edit = true
is_edit_kind other = false

-- the reader's answers to the lines that are left
abbrev pub ReaderAnswers : Type 0
ReaderAnswers = List (Result Got CertFault)

-- the outcome after the line `end`: nothing may follow it
abbrev pub IsEndOutcome : ℕ → ReaderAnswers → Outcome → Type 0
IsEndOutcome number [] o = o ≡ Accepted
IsEndOutcome number (told ∷ rest) o = o ≡ rejected number kinds.NoEnd

-- The outcome, given the answers to the lines of the log that are left, where the next of them has
-- this number and this is known. At the line `end` the empty clause has to be known, unless the
-- claim has nothing to refute.
abbrev pub IsLogOutcome : Bool → Knowledge → ℕ → ReaderAnswers → Outcome → Type 0
IsLogOutcome needs known number [] o = o ≡ rejected number kinds.NoEnd
IsLogOutcome needs known number (Err fault ∷ rest) o = o ≡ Rejected fault
IsLogOutcome needs known number (Ok More ∷ rest) o = IsLogOutcome needs known (number + 1) rest o
IsLogOutcome needs known number (Ok (Step s) ∷ rest) o =
    MatchOption (step_fault known s) (IsLogOutcome needs (after known s) (number + 1) rest o)
    (λ fault. o ≡ rejected number (fault_kind fault))
IsLogOutcome needs known number (Ok End ∷ rest) o =
    MatchBool (not needs || known.refuted) (IsEndOutcome (number + 1) rest o)
    (o ≡ rejected number kinds.NotRefuted)
IsLogOutcome needs known number (Ok other ∷ rest) o = o ≡ rejected number kinds.Form

-- the outcome, given the answers to the line before the log of a claim that there is no repair and
-- to the lines after it
abbrev pub IsReadyOutcome : Knowledge → ℕ → ReaderAnswers → Outcome → Type 0
IsReadyOutcome known number [] o = o ≡ rejected number kinds.NoEnd
IsReadyOutcome known number (Err fault ∷ rest) o = o ≡ Rejected fault
IsReadyOutcome known number (Ok More ∷ rest) o = IsLogOutcome true known (number + 1) rest o
IsReadyOutcome known number (Ok other ∷ rest) o = o ≡ rejected number kinds.Form

-- The outcome, given the answers to the lines after the edits, where `now` is the network after
-- these. `judged` policies are judged so far, and the block of the next line begins at line
-- `first`. A line that completes nothing is inside a block, or, once all policies are judged, the
-- one before the log. A verdict that is not right is rejected at the first line of its block.
abbrev pub IsBlocksOutcome : Network → List Policy → Bool → Knowledge → ℕ → ℕ → ℕ →
    ReaderAnswers → Outcome → Type 0
IsBlocksOutcome now policies needs known judged first number [] o = o ≡ rejected number kinds.NoEnd
IsBlocksOutcome now policies needs known judged first number (Err fault ∷ rest) o =
    o ≡ Rejected fault
IsBlocksOutcome now policies needs known judged first number (Ok More ∷ rest) o =
    MatchBool (judged == length policies) (IsLogOutcome needs known (number + 1) rest o)
    (IsBlocksOutcome now policies needs known judged first (number + 1) rest o)
IsBlocksOutcome now policies needs known judged first number (Ok (Verdict which v) ∷ rest) o =
    (IsRightAt now policies which v ×
    IsBlocksOutcome now policies needs known (which + 1) (number + 1) (number + 1) rest o) ⊎
    ((¬ IsRightAt now policies which v) × (o ≡ rejected first kinds.Witness))
IsBlocksOutcome now policies needs known judged first number (Ok other ∷ rest) o =
    o ≡ rejected number kinds.Form

-- The edits have ended before the line of this number, and their price is right: what follows is
-- judged in the network after them, with the repair formula for the bound, and with one less than
-- the price as the least bound of the log.
pub record AfterEdits (net : Network) (doc : Document) (list : List edits.Edit) (price bound : ℕ)
    (flags : List Bool) (number : ℕ) (told : ReaderAnswers) (o : Outcome) : Type 0 where
  pub priced : ¬ IsMispriced doc list price bound flags
  pub now : Network
  pub is_after : IsAfter net (chosen_of list flags) now
  pub formula : Formula
  pub tops : List Lit
  pub is_formula : IsRepairFormula net doc list bound formula tops
  pub outcome : IsBlocksOutcome now doc.policies (is_above_zero price)
      (start formula (least_below price) tops) 0 number number told o

-- the outcome once the edits have ended: a price that is wrong is rejected at the line of the
-- answer
abbrev pub IsEditsEnd : Network → Document → List edits.Edit → ℕ → ℕ → List Bool → ℕ →
    ReaderAnswers → Outcome → Type 0
IsEditsEnd net doc list price bound flags number told o =
    (IsMispriced doc list price bound flags × (o ≡ rejected 2 kinds.Price)) ⊎
    AfterEdits net doc list price bound flags number told o

-- The outcome, given the answers to the lines after the answer that there is a repair, where these
-- edits are chosen so far. A line whose first word is `edit` is read as an edit or rejected as one;
-- any other line, or the end of the text, ends the edits before it is judged.
abbrev pub IsEditsOutcome : Network → Document → List edits.Edit → ℕ → ℕ → List Bool → ℕ →
    ReaderAnswers → Outcome → Type 0
IsEditsOutcome net doc list price bound flags number [] o =
    IsEditsEnd net doc list price bound flags number [] o
IsEditsOutcome net doc list price bound flags number (Err fault ∷ rest) o =
    MatchBool (is_edit_kind fault.kind) (o ≡ Rejected fault)
    (IsEditsEnd net doc list price bound flags number (Err fault ∷ rest) o)
IsEditsOutcome net doc list price bound flags number (Ok (Edit place) ∷ rest) o =
    IsEditsOutcome net doc list price bound (set flags place true) (number + 1) rest o
IsEditsOutcome net doc list price bound flags number (Ok got ∷ rest) o =
    IsEditsEnd net doc list price bound flags number (Ok got ∷ rest) o

-- the outcome, given the answers to the lines after the answer that there is no repair within a
-- bound of at most PRICE_LIMIT
pub record AfterNone (net : Network) (doc : Document) (list : List edits.Edit) (bound number : ℕ)
    (told : ReaderAnswers) (o : Outcome) : Type 0 where
  pub few : bound ≤ PRICE_LIMIT
  pub formula : Formula
  pub tops : List Lit
  pub is_formula : IsRepairFormula net doc list bound formula tops
  pub outcome : IsReadyOutcome (start formula (Some bound) tops) number told o

-- the outcome, given the answers to the lines from that of the repair's answer on
abbrev pub IsAnswerOutcome :
    Network → Document → List edits.Edit → ℕ → ReaderAnswers → Outcome → Type 0
IsAnswerOutcome net doc list number [] o = o ≡ rejected number kinds.NoEnd
IsAnswerOutcome net doc list number (Err fault ∷ rest) o = o ≡ Rejected fault
IsAnswerOutcome net doc list number (Ok (Head (Repaired price bound)) ∷ rest) o =
    IsEditsOutcome net doc list price bound (none_of list) (number + 1) rest o
IsAnswerOutcome net doc list number (Ok (Head (NoRepair bound)) ∷ rest) o =
    ((PRICE_LIMIT < bound) × (o ≡ rejected 2 kinds.Price)) ⊎
    AfterNone net doc list bound (number + 1) rest o
IsAnswerOutcome net doc list number (Ok other ∷ rest) o = o ≡ rejected number kinds.Form

-- the outcome, given the answers to all lines
abbrev pub IsHeadOutcome :
    Network → Document → List edits.Edit → ℕ → ReaderAnswers → Outcome → Type 0
IsHeadOutcome net doc list number [] o = o ≡ rejected number kinds.NoEnd
IsHeadOutcome net doc list number (Err fault ∷ rest) o = o ≡ Rejected fault
IsHeadOutcome net doc list number (Ok More ∷ rest) o =
    IsAnswerOutcome net doc list (number + 1) rest o
IsHeadOutcome net doc list number (Ok other ∷ rest) o = o ≡ rejected number kinds.Form

-- the outcome of a text
abbrev pub IsRepairOutcome : Network → Document → List edits.Edit → List ℕ → Outcome → Type 0
IsRepairOutcome net doc list text o =
    IsHeadOutcome net doc list 1 (answers net doc list reader.start (lines text)) o

-- a text has one outcome, over a valid network whose interfaces, sessions and names can be counted
abbrev pub HasOneOutcome : Type 0
HasOneOutcome =
    (net : Network) (doc : Document) (list : List edits.Edit) (text : List ℕ) (o p : Outcome) →
    IsValid net → IsCountable net → IsRepairOutcome net doc list text o →
    IsRepairOutcome net doc list text p → o ≡ p

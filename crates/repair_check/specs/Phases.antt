-- Judging line by line: what the lines so far leave to be judged.
use Rattle.std.specs.Prelude.{◌≡◌, ℕ, ◌+◌, ◌<◌, ◌≤◌, Option, List, ◌∷◌}
use Rattle.std.specs.Prelude.{length, MatchOption, Result, Ok, Err, IsFalse}
use Rattle.arc_base.specs.declared.limits.TheConstants.{PRICE_LIMIT}
use Rattle.cnf_types.specs.declared.clauses.Formula.{Formula}
use Rattle.cnf_types.specs.declared.literal.Lit.{Lit}
use Rattle.net_model.specs.declared.policies.Document.{Document}
use Rattle.net_model.specs.declared.rows.Network.{Network}
use Rattle.edit_list.specs.declared.edit_kinds.Edit.{Edit}
use Rattle.edit_list.specs.declared.edit_kinds.EditFault.{EditFault}
use Rattle.edit_list.specs.After.{IsAfter}
use Rattle.edit_list.specs.Prices.{chosen_of}
use Rattle.policy_encode.specs.Formulas.{IsRepairFormula}
use Rattle.price_descent.specs.Outcomes.{least_below}
use Rattle.proof_check.specs.declared.checker.Checker.{Checker}
use Rattle.proof_check.specs.Knowledge.{start}
use Rattle.proof_check.specs.View.{known}
use Rattle.policy_report.specs.declared.got.Got.{Got}
use Rattle.policy_report.specs.declared.got.Got.TheVariants.{More, Edit as AnEdit}
use Rattle.policy_report.specs.declared.got.CertFault.{CertFault}
use Rattle.report_check.specs.declared.outcome.Outcome.{Outcome}
use Rattle.arc_repair.specs.Checks.{IsMispriced}
use Rattle.arc_repair.specs.Claims.{is_above_zero}
use Rattle.repair_check.specs.declared.phases.Blocks.{Blocks}
use Rattle.repair_check.specs.declared.phases.Next.{Next}
use Rattle.repair_check.specs.declared.phases.Next.TheVariants.{Line, Done}
use Rattle.repair_check.specs.declared.phases.Phase.{Phase}
use Rattle.repair_check.specs.declared.phases.Phase.TheVariants as phases
use Rattle.repair_check.specs.declared.phases.RepairClaim.{RepairClaim}
use Rattle.repair_check.specs.Certifies.{IsCounted, IsCountFault}
use Rattle.repair_check.specs.Instances.{IsJudgeable}
use Rattle.repair_check.specs.Outcomes.{ReaderAnswers, is_edit_kind, IsHeadOutcome, IsAnswerOutcome}
use Rattle.repair_check.specs.Outcomes.{IsEditsOutcome, IsBlocksOutcome, IsReadyOutcome}
use Rattle.repair_check.specs.Outcomes.{IsLogOutcome, IsEndOutcome}

-- the checker is before the first step of a log, for the repair formula of this bound and this
-- least bound of the log
pub record IsReady (net : Network) (doc : Document) (list : List Edit) (bound : ℕ)
    (least : Option ℕ) (checker : Checker) : Type 0 where
  pub few : bound ≤ PRICE_LIMIT
  pub formula : Formula
  pub tops : List Lit
  pub is_formula : IsRepairFormula net doc list bound formula tops
  pub knows : known checker ≡ start formula least tops

-- the checker is ready for the log of a repair of this price, or there is none since the bound
-- exceeds PRICE_LIMIT
abbrev pub IsReadyWithin : Network → Document → List Edit → ℕ → ℕ → Option Checker → Type 0
IsReadyWithin net doc list price bound log =
    MatchOption log (PRICE_LIMIT < bound) (IsReady net doc list bound (least_below price))

-- the claim has a flag for each edit, and the checker is ready for its log
pub record IsClaimed (net : Network) (doc : Document) (list : List Edit)
    (claim : RepairClaim) : Type 0 where
  pub flags : length claim.chosen.items ≡ length list
  pub ready : IsReadyWithin net doc list claim.price claim.bound claim.log

-- what the claim says of the price of the chosen edits is wrong
abbrev pub IsMispricedClaim : Document → List Edit → RepairClaim → Type 0
IsMispricedClaim doc list claim = IsMispriced doc list claim.price claim.bound claim.chosen.items

-- the state once the edits are read: the network after them, no policy judged yet, and the checker
-- before its log
pub record IsOpened (net : Network) (doc : Document) (list : List Edit) (claim : RepairClaim)
    (number : ℕ) (blocks : Blocks) : Type 0 where
  pub priced : ¬ IsMispricedClaim doc list claim
  pub is_after : IsAfter net (chosen_of list claim.chosen.items) blocks.now
  pub ready : IsReady net doc list claim.bound (least_below claim.price) blocks.checker
  pub needs : blocks.needs ≡ is_above_zero claim.price
  pub judged : blocks.judged ≡ 0
  pub first : blocks.first ≡ number

-- what the phase holds fits the network, the document and the edits
abbrev pub IsGoing : Network → Document → List Edit → Phase → Type 0
IsGoing net doc list (phases.Edits claim) = IsClaimed net doc list claim
IsGoing net doc list (phases.Blocks blocks) = IsJudgeable doc blocks.now
IsGoing net doc list other = Unit {0}

-- the outcome, given the answers to the lines of the blocks that are left and to those after them
abbrev pub IsBlocksLeft : Document → Blocks → ℕ → ReaderAnswers → Outcome → Type 0
IsBlocksLeft doc b number told o =
    IsBlocksOutcome b.now doc.policies b.needs (known b.checker) b.judged b.first number told o

-- the outcome, given the answers to the lines that are left in this phase
abbrev pub IsPhaseOutcome :
    Network → Document → List Edit → Phase → ℕ → ReaderAnswers → Outcome → Type 0
IsPhaseOutcome net doc list phases.Head number told o = IsHeadOutcome net doc list number told o
IsPhaseOutcome net doc list phases.Answer number told o = IsAnswerOutcome net doc list number told o
IsPhaseOutcome net doc list (phases.Edits claim) number told o =
    IsEditsOutcome net doc list claim.price claim.bound claim.chosen.items number told o
IsPhaseOutcome net doc list (phases.Blocks blocks) number told o =
    IsBlocksLeft doc blocks number told o
IsPhaseOutcome net doc list (phases.Ready checker) number told o =
    IsReadyOutcome (known checker) number told o
IsPhaseOutcome net doc list (phases.Log needs checker) number told o =
    IsLogOutcome needs (known checker) number told o
IsPhaseOutcome net doc list phases.Ended number told o = IsEndOutcome number told o

-- where the lines that are left are among all lines: the head and the answer are the first two, and
-- after them the formula is counted
abbrev pub IsAt : Network → Document → List Edit → ReaderAnswers → Phase → ReaderAnswers → Type 0
IsAt net doc list all phases.Head rest = all ≡ rest
IsAt net doc list all phases.Answer rest = all ≡ Ok More ∷ rest
IsAt net doc list all other rest = IsCounted net doc list all

-- the line leads from the one phase to the other
pub record Goes (net : Network) (doc : Document) (list : List Edit) (phase : Phase) (number : ℕ)
    (told : Result Got CertFault) (next : Phase) : Type 0 where
  pub going : IsGoing net doc list next
  pub outcome : (rest : ReaderAnswers) (o : Outcome) →
      IsPhaseOutcome net doc list next (number + 1) rest o →
      IsPhaseOutcome net doc list phase number (told ∷ rest) o
  pub at : (all rest : ReaderAnswers) → IsAt net doc list all phase (told ∷ rest) →
      IsAt net doc list all next rest

-- the line decides the outcome, whatever follows
pub record Settles (net : Network) (doc : Document) (list : List Edit) (phase : Phase) (number : ℕ)
    (told : Result Got CertFault) (o : Outcome) : Type 0 where
  pub outcome : (rest : ReaderAnswers) → IsPhaseOutcome net doc list phase number (told ∷ rest) o
  pub at : (all rest : ReaderAnswers) → IsAt net doc list all phase (told ∷ rest) →
      IsCounted net doc list all

-- what a line leads to
abbrev pub LeadsTo : Network → Document → List Edit → Phase → ℕ →
    Result Got CertFault → Next → Type 0
LeadsTo net doc list phase number told (Line next) = Goes net doc list phase number told next
LeadsTo net doc list phase number told (Done o) = Settles net doc list phase number told o

-- the fault is one of counting the formula for the bound of the answer, whatever lines follow
abbrev pub IsFaultAt : Network → Document → List Edit → Phase →
    Result Got CertFault → EditFault → Type 0
IsFaultAt net doc list phase told fault =
    (all rest : ReaderAnswers) → IsAt net doc list all phase (told ∷ rest) →
    IsCountFault net doc list all fault

-- the line is not an edit: it ends the edits
abbrev pub EndsEdits : Result Got CertFault → Type 0
EndsEdits (Ok (AnEdit place)) = ⊥
EndsEdits (Ok got) = Unit {0}
EndsEdits (Err fault) = IsFalse (is_edit_kind fault.kind)

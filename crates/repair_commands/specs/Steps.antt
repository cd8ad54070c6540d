-- The answers of the steps of `repair`.
use Rattle.std.specs.Prelude.{ℕ, ◌≤◌, List, length}
use Rattle.arc_base.specs.declared.limits.TheConstants.{EDIT_LIMIT}
use Rattle.net_model.specs.declared.policies.Document.{Document}
use Rattle.net_model.specs.declared.rows.Network.{Network}
use Rattle.edit_list.specs.declared.edit_kinds.Edit.{Edit}
use Rattle.edit_list.specs.Determined.{IsCountable}
use Rattle.policy_report.specs.Certificates.{IsWholeClaim}
use Rattle.arc_repair.specs.declared.answer.Answer.{Answer}
use Rattle.arc_repair.specs.declared.answer.Answer.TheVariants.{Done as Claimed, Budget}
use Rattle.repair_commands.specs.Repairs.{IsAnswered}

-- a claim has one flag for each edit and one verdict for each policy
abbrev pub IsWholeAnswer : Document → List Edit → Answer → Type 0
IsWholeAnswer doc list (Claimed claim log) = IsWholeClaim doc list claim
IsWholeAnswer doc list (Budget log) = Unit {0}

-- the edits of the network, and the answer of its repair
pub record IsFound (bound conflicts : ℕ) (net : Network) (doc : Document) (list : List Edit)
    (answer : Answer) : Type 0 where
  pub answered : IsAnswered bound conflicts net doc list answer
  pub few : length list ≤ EDIT_LIMIT
  pub countable : IsCountable net

-- The outcomes of a repair of a network, and the proof of each: for all commands that repair,
-- wherever their network comes from. The proof is what is held under the name that they write.
use Rattle.std.specs.Prelude.{◌≡◌, ◌↔◌, ◌⊎◌, ℕ, ◌<◌, ◌≤◌, Bool, List, All, Option, Some}
use Rattle.arc_outside.specs.Files.{Files}
use Rattle.net_model.specs.declared.policies.Document.{Document}
use Rattle.net_model.specs.declared.rows.Network.{Network}
use Rattle.net_model.specs.declared.verdicts.Verdict.{Verdict}
use Rattle.net_model.specs.Policies.{MeetsDocument}
use Rattle.net_build.specs.declared.built.Built.{Built}
use Rattle.net_build.specs.Networks.{IsNetworkOf}
use Rattle.clean_logs.specs.CleanLogs.{additions}
use Rattle.edit_list.specs.declared.claims.Claim.{Claim}
use Rattle.edit_list.specs.declared.claims.Claim.TheVariants.{Repaired, NoRepair}
use Rattle.edit_list.specs.declared.edit_kinds.Edit.{Edit}
use Rattle.edit_list.specs.After.{IsAfter}
use Rattle.edit_list.specs.EditLists.{AreEdits}
use Rattle.edit_list.specs.Prices.{chosen_of, price_of_flags}
use Rattle.line_patcher.specs.Patches.{ArePatched}
use Rattle.proof_log.specs.declared.steps.Log.{Log}
use Rattle.proof_log.specs.Texts.{HasLine}
use Rattle.policy_report.specs.Certificates.{budget_text, certificate_text}
use Rattle.arc_repair.specs.Answers.{IsOutOfRepairBudget, KeepsLimits}
use Rattle.arc_repair.specs.Claims.{IsCertificate}
use Rattle.arc_repair.specs.Repairs.{IsLeastPrice, Mends}

-- the list has the edits of the network, and each count is within its limit
pub record IsRepairable (bound : ℕ) (net : Network) (doc : Document)
    (list : List Edit) : Type 0 where
  pub edits : AreEdits net doc list
  pub limits : KeepsLimits net doc list bound

-- some edits within the bound make the network meet every policy
pub record HasRepair (bound : ℕ) (net : Network) (doc : Document) : Type 0 where
  pub list : List Edit
  pub repairable : IsRepairable bound net doc list
  pub flags : List Bool
  pub mends : Mends net doc list flags
  pub affordable : price_of_flags doc list flags ≤ bound

-- no edits within the bound make the network meet every policy
pub record HasNoRepair (bound : ℕ) (net : Network) (doc : Document) : Type 0 where
  pub list : List Edit
  pub repairable : IsRepairable bound net doc list
  pub none : (flags : List Bool) → Mends net doc list flags → bound < price_of_flags doc list flags

-- the proof is the certificate of this claim, whose log adds at most `conflicts` clauses
pub record HoldsCertificate (conflicts : ℕ) (net : Network) (doc : Document)
    (list : List Edit) (claim : Claim) (proof : Option (List ℕ)) : Type 0 where
  pub log : Log
  pub certificate : IsCertificate net doc list claim log.steps
  pub lines : All HasLine log.steps
  pub within : additions log.steps ≤ conflicts
  pub written : proof ≡ Some (certificate_text net doc list claim log)

-- The edits are the cheapest of the network's after which it meets every policy, at a price within
-- the bound. The patches of the router files by these edits, read again, have exactly the network
-- after them, which meets every policy. The proof is the certificate of this.
pub record ShowsCheapest (bound conflicts : ℕ) (doc : Document) (built : Built)
    (files : List (List ℕ)) (proof : Option (List ℕ)) : Type 0 where
  pub list : List Edit
  pub repairable : IsRepairable bound built.net doc list
  pub flags : List Bool
  pub price : ℕ
  pub costs : price_of_flags doc list flags ≡ price
  pub affordable : price ≤ bound
  pub least : IsLeastPrice built.net doc list price
  pub repaired : Network
  pub is_after : IsAfter built.net (chosen_of list flags) repaired
  pub meets : MeetsDocument repaired doc
  pub new : List (List ℕ)
  pub patched : ArePatched built (chosen_of list flags) files new
  pub read_again : IsNetworkOf doc new repaired
  pub verdicts : List Verdict
  pub certified :
      HoldsCertificate conflicts built.net doc list (Repaired price bound flags verdicts) proof

-- No edits within the bound make the network meet every policy, and the proof is the certificate of
-- this.
pub record ShowsNone (bound conflicts : ℕ) (net : Network) (doc : Document)
    (proof : Option (List ℕ)) : Type 0 where
  pub none : HasNoRepair bound net doc
  pub certified : HoldsCertificate conflicts net doc none.list (NoRepair bound) proof

-- The proof is a log that is spent for the repair formula, with a line for each step: each of its
-- bounds is this one, or one less than the price of edits after which the network meets every
-- policy; and without edits the network does not meet every policy.
pub record ShowsSpent (bound conflicts : ℕ) (net : Network) (doc : Document)
    (proof : Option (List ℕ)) : Type 0 where
  pub list : List Edit
  pub repairable : IsRepairable bound net doc list
  pub log : Log
  pub spent : IsOutOfRepairBudget net doc list bound conflicts log.steps
  pub lines : All HasLine log.steps
  pub written : proof ≡ Some (budget_text conflicts bound log)
  pub broken : ¬ MeetsDocument net doc

-- all names but this one hold what they held
abbrev pub KeepsOthers : List ℕ → Files → Files → Type 0
KeepsOthers proof before after = (name : List ℕ) → ¬ (name ≡ proof) → after name ≡ before name

-- What the status of a command that repairs says of the files before and after: 0 for the cheapest
-- repair, 2 if there is none within the bound, 3 in place of either if what was written is a spent
-- log, and 5 for refused, with nothing written. What each of these means, and whether there is a
-- repair within the bound, each command says for its own network.
pub record TellsOutcome (Cheapest NoneThere Spent Refused Can Cannot : Type 0) (status : ℕ)
    (before after : Files) : Type 0 where
  pub repaired : status ≡ 0 → Cheapest
  pub none : status ≡ 2 → NoneThere
  pub undecided : status ≡ 3 → Spent
  pub refused_exactly : (status ≡ 5) ↔ Refused
  pub nothing_written : status ≡ 5 → after ≡ before
  pub zero_or_three : Can → (status ≡ 0) ⊎ (status ≡ 3)
  pub two_or_three : Cannot → (status ≡ 2) ⊎ (status ≡ 3)
  pub nothing_else : (status ≡ 0) ⊎ ((status ≡ 2) ⊎ ((status ≡ 3) ⊎ (status ≡ 5)))

-- How the answers to a text begin.
use Rattle.std.proofs.Common.{ℕ, Bool, true, false, cond, List, [], ◌∷◌, Option, Some, None, Result, Ok, Err}
use Rattle.std.specs.Prelude.{bytes_eq, codes}
use Rattle.arc_base.specs.declared.certificate.CertKind.TheVariants.{Form}
use Rattle.net_model.specs.declared.policies.Document.{Document}
use Rattle.net_model.specs.declared.rows.Network.{Network}
use Rattle.edit_list.specs.declared.edit_kinds.Edit.{Edit}
use Rattle.policy_report.specs.declared.answers.Answer.{Answer}
use Rattle.policy_report.specs.declared.answers.Answer.TheVariants as replies
use Rattle.policy_report.specs.declared.got.Got.{Got}
use Rattle.policy_report.specs.declared.got.Got.TheVariants.{More, Head}
use Rattle.policy_report.specs.declared.got.CertForm.TheVariants.{Report, Repaired, NoRepair}
use Rattle.policy_report.specs.declared.got.CertFault.{CertFault}
use Rattle.policy_report.specs.declared.stages.Stage.TheVariants as stages
use Rattle.policy_report.specs.declared.stages.Text.TheVariants as texts
use Rattle.policy_report.specs.Readings.{answer_of, line_words}
use Rattle.policy_report.specs.Rereading.{answers}
use Rattle.policy_report.specs.Steps.{Step, start, answered, goes, fails}

-- the answers begin as those to a report, or to a repair, or with a fault
abbrev pub BeginsSo : List (Result Got CertFault) → Type 0
BeginsSo [] = Unit {0}
BeginsSo (Err fault ∷ rest) = Unit {0}
BeginsSo (Ok (Head Report) ∷ rest) = Unit {0}
BeginsSo (Ok More ∷ []) = Unit {0}
BeginsSo (Ok More ∷ Err fault ∷ rest) = Unit {0}
BeginsSo (Ok More ∷ Ok (Head (Repaired price bound)) ∷ rest) = Unit {0}
BeginsSo (Ok More ∷ Ok (Head (NoRepair bound)) ∷ rest) = Unit {0}
BeginsSo other = ⊥

module _ (net : Network) (doc : Document) (edits : List Edit) where
  after_answer : (o : Option Answer) (ls : List (List ℕ)) → BeginsSo (Ok More ∷ (answered 2 o).1 ∷ answers net doc edits (answered 2 o).0 ls)
  after_answer None ls = tt
  after_answer (Some (replies.Repaired price bound)) ls = tt
  after_answer (Some (replies.NoRepair bound)) ls = tt
  after_answer (Some replies.Budget) ls = tt

  after_head : (ls : List (List ℕ)) → BeginsSo (Ok More ∷ answers net doc edits (record { line = 1; stage = stages.Answer }) ls)
  after_head [] = tt
  after_head (t ∷ ls) = after_answer (answer_of (line_words t)) ls

  at_head : (is_report is_repair : Bool) (ls : List (List ℕ)) →
      let s : Step = cond is_report (goes 1 (stages.Between texts.Report 0) (Head Report)) (cond is_repair (goes 1 stages.Answer More) (fails 1 Form)) in
      BeginsSo (s.1 ∷ answers net doc edits s.0 ls)
  at_head true is_repair ls = tt
  at_head false true ls = after_head ls
  at_head false false ls = tt

  pub begins_so : (ls : List (List ℕ)) → BeginsSo (answers net doc edits start ls)
  begins_so [] = tt
  begins_so (t ∷ ls) = at_head (bytes_eq t (codes "arc-report 1")) (bytes_eq t (codes "arc-repair 1")) ls

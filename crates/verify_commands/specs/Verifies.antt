-- The command `verify DOC`.
use Rattle.std.specs.Prelude.{◌≡◌, ◌↔◌, ◌⊎◌, ℕ, List, [], if◌then◌else◌}
use Rattle.std.specs.List.{AllZip, list_all}
use Rattle.arc_outside.specs.Files.{Files}
use Rattle.net_model.specs.declared.policies.Document.{Document}
use Rattle.net_model.specs.declared.policies.Policy.{Policy}
use Rattle.net_model.specs.declared.rows.Network.{Network}
use Rattle.net_model.specs.declared.verdicts.Verdict.{Verdict}
use Rattle.net_model.specs.Policies.{MeetsDocument}
use Rattle.net_model.specs.Validity.{IsValid}
use Rattle.net_model.specs.Witnesses.{IsRight, is_yes}
use Rattle.verdicts.specs.Fixed.{IsFixed}
use Rattle.policy_report.specs.Reports.{report_text}
use Rattle.run_files.specs.declared.limits.Limits.TheVariants.{Judging}
use Rattle.run_files.specs.declared.outcome.Done.{Done}
use Rattle.run_files.specs.declared.outcome.FileRefusal.{FileRefusal}
use Rattle.run_inputs.specs.Counts.{PoliciesHaveFewClasses, IsJudgingRefusal}
use Rattle.run_inputs.specs.Inputs.{HoldsInput}
use Rattle.run_inputs.specs.TrueVerdicts.{IsTrueOf}

-- the verdict on one of the policies is right, and has the witness that is fixed for it
pub record IsVerdictOn (net : Network) (policies : List Policy) (policy : Policy)
    (verdict : Verdict) : Type 0 where
  pub right : IsRight net policy verdict
  pub fixed : IsFixed net policies policy verdict

-- 0 if each verdict is a yes, else 1
abbrev pub verdicts_status : List Verdict → ℕ
verdicts_status verdicts = if list_all is_yes verdicts then 0 else 1

-- the report of the verdicts on the document's policies, one for each, and each of them is true
pub record IsVerified (document : List ℕ) (files : Files) (done : Done) : Type 0 where
  pub doc : Document
  pub net : Network
  pub input : HoldsInput Judging [] document files doc net
  pub valid : IsValid net
  pub classes : PoliciesHaveFewClasses net doc.policies
  pub verdicts : List Verdict
  pub judged : AllZip (IsVerdictOn net doc.policies) doc.policies verdicts
  pub are_true : AllZip (IsTrueOf net) doc.policies verdicts
  pub text : done.text ≡ report_text net doc verdicts
  pub writes : done.writes ≡ []
  pub status : done.status ≡ verdicts_status verdicts

-- the document and its files have a network, its policies do not have too many classes, and it
-- meets every policy under every set of failed links
pub record SaysYes (document : List ℕ) (files : Files) : Type 0 where
  pub doc : Document
  pub net : Network
  pub input : HoldsInput Judging [] document files doc net
  pub classes : PoliciesHaveFewClasses net doc.policies
  pub meets : MeetsDocument net doc

-- the document and its files have a network and not too many classes, and the network does not meet
-- each policy: it breaks one under some set of failed links, or a reach policy is not clear
pub record SaysNo (document : List ℕ) (files : Files) : Type 0 where
  pub doc : Document
  pub net : Network
  pub input : HoldsInput Judging [] document files doc net
  pub classes : PoliciesHaveFewClasses net doc.policies
  pub meets_not : ¬ MeetsDocument net doc

-- the document, its files, their network or the number of classes is refused
pub record SaysRefused (document : List ℕ) (files : Files) : Type 0 where
  pub refusal : FileRefusal
  pub refused : IsJudgingRefusal Judging document files refusal

-- The status says which of the three it is: 0 for yes, 1 for no, and 5 for refused.
pub record TellsVerdicts (document : List ℕ) (status : ℕ) (files : Files) : Type 0 where
  pub yes_exactly : (status ≡ 0) ↔ SaysYes document files
  pub no_exactly : (status ≡ 1) ↔ SaysNo document files
  pub refused_exactly : (status ≡ 5) ↔ SaysRefused document files
  pub nothing_else : (status ≡ 0) ⊎ ((status ≡ 1) ⊎ (status ≡ 5))

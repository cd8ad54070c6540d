-- The command `recheck DOC REPORT`.
use Rattle.std.specs.Prelude.{◌≡◌, ◌↔◌, ◌⊎◌, ℕ, List, [], Option, Some, None, if◌then◌else◌, length}
use Rattle.std.specs.Prelude.{slice_get, IsSomeAnd}
use Rattle.std.specs.List.{AllZip, list_all}
use Rattle.arc_base.specs.declared.place.Link.{Link}
use Rattle.arc_outside.specs.Files.{Files}
use Rattle.arc_base.specs.TextLines.{lines}
use Rattle.net_model.specs.declared.policies.Document.{Document}
use Rattle.net_model.specs.declared.policies.Policy.{Policy}
use Rattle.net_model.specs.declared.rows.Network.{Network}
use Rattle.net_model.specs.declared.verdicts.Verdict.{Verdict}
use Rattle.net_model.specs.Policies.{MeetsDocument}
use Rattle.net_model.specs.Validity.{IsValid}
use Rattle.net_model.specs.Witnesses.{is_yes, IsRight}
use Rattle.policy_report.specs.Steps.{start}
use Rattle.policy_report.specs.Rereading.{answers}
use Rattle.arc_recheck.specs.declared.rechecking.Rechecked.{Rechecked}
use Rattle.arc_recheck.specs.Held.{held_verdicts}
use Rattle.arc_recheck.specs.Rechecks.{IsRechecked}
use Rattle.arc_recheck.specs.Singles.{IsAloneAnswer}
use Rattle.arc_recheck.specs.Texts.{recheck_text}
use Rattle.command_words.specs.declared.commands.RecheckWords.{RecheckWords}
use Rattle.run_files.specs.declared.limits.Limits.TheVariants.{Judging}
use Rattle.run_files.specs.declared.outcome.Done.{Done}
use Rattle.run_files.specs.declared.outcome.FileRefusal.{FileRefusal}
use Rattle.run_inputs.specs.Counts.{PoliciesHaveFewClasses, RefusesClasses}
use Rattle.run_inputs.specs.Inputs.{HoldsDocument, HoldsInput, RefusesDocument, IsFilesRefusal}
use Rattle.run_files.specs.Limits.{document_limit, proof_limit}
use Rattle.run_files.specs.Refusals.{bytes_at, read_refusal}

-- the document is held, and the old report is missing or too long
pub record RefusesReport (words : RecheckWords) (files : Files) (r : FileRefusal) : Type 0 where
  pub doc : Document
  pub document_is : HoldsDocument words.document files doc
  pub refused : read_refusal proof_limit files words.report ≡ Some r

-- the old report is held, and the router files, their network or its classes are refused
pub record RefusesBehindReport (words : RecheckWords) (files : Files)
    (r : FileRefusal) : Type 0 where
  pub held : read_refusal proof_limit files words.report ≡ None
  pub refused : IsFilesRefusal Judging [] words.document files r ⊎
      RefusesClasses Judging words.document files r

-- The first refusal: of the document; of the old report's file; of the router files and their
-- network; or that there are too many classes.
abbrev pub IsRecheckRefusal : RecheckWords → Files → FileRefusal → Type 0
IsRecheckRefusal words files r =
    (read_refusal document_limit files words.document ≡ Some r) ⊎
    (RefusesDocument words.document files r ⊎
    (RefusesReport words files r ⊎ RefusesBehindReport words files r))

-- the verdicts of the blocks that the old report holds, from that of the first policy on
abbrev pub held_of : Network → Document → List ℕ → List Verdict
held_of net doc text = held_verdicts (answers net doc [] start (lines text))

-- one recheck for each policy in order, against the block that is held for it
pub record AreRechecked (net : Network) (policies : List Policy) (held : List Verdict)
    (rechecked : List Rechecked) : Type 0 where
  pub count : length rechecked ≡ length policies
  pub each : (k : ℕ) (policy : Policy) → slice_get policies k ≡ Some policy →
      IsSomeAnd (slice_get rechecked k) (IsRechecked net policies policy (slice_get held k))

-- the rechecked verdict is right for the policy
abbrev pub IsRightOn : Network → Policy → Rechecked → Type 0
IsRightOn net policy r = IsRight net policy r.verdict

-- 0 if each verdict is a yes, else 1
abbrev pub rechecked_status : List Rechecked → ℕ
rechecked_status rechecked = if list_all (λ r. is_yes r.verdict) rechecked then 0 else 1

-- the text of policies rechecked against the verdicts of the old report, and of the links whose
-- failure alone breaks each reach policy
pub record IsRecheckOf (net : Network) (policies : List Policy) (held : List Verdict)
    (done : Done) : Type 0 where
  pub rechecked : List Rechecked
  pub are_rechecked : AreRechecked net policies held rechecked
  pub alone : List (Option (List Link))
  pub are_alone : AllZip (IsAloneAnswer net) policies alone
  pub text : done.text ≡ recheck_text net policies rechecked alone
  pub writes : done.writes ≡ []
  pub status : done.status ≡ rechecked_status rechecked

-- the recheck of the document's policies against the blocks that the old report holds
pub record IsRecheckAnswer (words : RecheckWords) (files : Files) (done : Done) : Type 0 where
  pub doc : Document
  pub net : Network
  pub input : HoldsInput Judging [] words.document files doc net
  pub valid : IsValid net
  pub held : read_refusal proof_limit files words.report ≡ None
  pub classes : PoliciesHaveFewClasses net doc.policies
  pub answer :
      IsRecheckOf net doc.policies (held_of net doc (bytes_at files words.report)) done

-- the input has a network and not too many classes, the old report can be read, and the network
-- meets every policy
pub record RecheckSaysYes (words : RecheckWords) (files : Files) : Type 0 where
  pub doc : Document
  pub net : Network
  pub input : HoldsInput Judging [] words.document files doc net
  pub held : read_refusal proof_limit files words.report ≡ None
  pub classes : PoliciesHaveFewClasses net doc.policies
  pub meets : MeetsDocument net doc

-- the input has a network and not too many classes, the old report can be read, and the network
-- does not meet every policy
pub record RecheckSaysNo (words : RecheckWords) (files : Files) : Type 0 where
  pub doc : Document
  pub net : Network
  pub input : HoldsInput Judging [] words.document files doc net
  pub held : read_refusal proof_limit files words.report ≡ None
  pub classes : PoliciesHaveFewClasses net doc.policies
  pub meets_not : ¬ MeetsDocument net doc

-- the input, the old report's file or the number of classes is refused
pub record RecheckIsRefused (words : RecheckWords) (files : Files) : Type 0 where
  pub refusal : FileRefusal
  pub refused : IsRecheckRefusal words files refusal

-- The status says which of the three it is: 0 for yes, 1 for no, and 5 for refused. Except for a
-- refusal of the old report's file it is the status of `verify`.
pub record TellsRecheck (words : RecheckWords) (status : ℕ) (files : Files) : Type 0 where
  pub yes_exactly : (status ≡ 0) ↔ RecheckSaysYes words files
  pub no_exactly : (status ≡ 1) ↔ RecheckSaysNo words files
  pub refused_exactly : (status ≡ 5) ↔ RecheckIsRefused words files
  pub nothing_else : (status ≡ 0) ⊎ ((status ≡ 1) ⊎ (status ≡ 5))

-- The judgement of a certificate, and what its status says.
use Rattle.std.proofs.Common.{◌≡◌, ℕ, inl, inr, List, [], refl, sym, ◌∙◌, ap, subst, arith}
use Rattle.std.specs.Prelude.{Option, Some, None, IfSome, Result, Ok, Err}
use Rattle.arc_outside.specs.Files.{Files}
use Rattle.net_model.specs.declared.policies.Document.{Document}
use Rattle.net_model.specs.declared.rows.Network.{Network}
use Rattle.report_check.specs.declared.outcome.Outcome.{Outcome as Judgement}
use Rattle.report_check.specs.declared.outcome.Outcome.TheVariants.{Accepted, Rejected}
use Rattle.report_check.specs.Outcomes.{IsReport}
use Rattle.run_inputs.specs.declared.inputs.Input.{Input}
use Rattle.run_files.specs.declared.outcome.Done.{Done}
use Rattle.run_files.specs.declared.outcome.FileRefusal.{FileRefusal}
use Rattle.run_files.specs.declared.outcome.Stop.{Stop}
use Rattle.run_files.specs.declared.outcome.Stop.TheVariants as stops
use Rattle.run_files.specs.declared.limits.Limits.TheVariants.{Judging}
use Rattle.run_files.specs.Answers.{Gives, IsJudging, IsTold}
use Rattle.run_inputs.specs.Counts.{CountsClasses, PoliciesHaveFewClasses}
use Rattle.run_inputs.specs.Inputs.{HoldsDocument, HoldsInput, IsFit, ReadsRouterFiles}
use Rattle.run_files.specs.Judgements.{judgement_status, judgement_text}
use Rattle.run_files.specs.Limits.{proof_limit}
use Rattle.run_inputs.proofs.Determined.{determined, judged_once}
use Rattle.check_commands.specs.ReportChecks.{IsAcceptedReport, IsChecked, IsCheckRefusal, IsRejected, IsUnchecked, RefusesInput, TellsReportCheck, judgement_of}
use Rattle.check_commands.specs.Readings.{JudgesReport}
use Rattle.run_inputs.proofs.AllTrue.{all_true}
use Rattle.run_files.specs.Refusals.{bytes_at, read_refusal}
use Rattle.run_files.proofs.OneAnswer.{refused_none}

-- the answer for a certificate, over a store that holds it and the document
abbrev pub IsGiven : List ℕ → List ℕ → Document → Option Files → Result Done Stop → Type 0
IsGiven document certificate doc held result =
    IfSome held (λ files. HoldsDocument document files doc → read_refusal proof_limit files certificate ≡ None → Gives (RefusesInput document files) (IsChecked document certificate files) result)

-- the input that was read
abbrev pub ReadInput : List ℕ → Document → Option Files → Input → Type 0
ReadInput document doc held input = IfSome held (λ files. HoldsDocument document files doc → ReadsRouterFiles Judging [] document files (Ok input))

-- the router files are refused
pub files_stopped : (held : Option Files) (document certificate : List ℕ) (doc : Document) (stop : Stop)
    → IfSome held (λ files. HoldsDocument document files doc → ReadsRouterFiles Judging [] document files (Err stop)) → IsGiven document certificate doc held (Err stop)
files_stopped None document certificate doc stop told = tt
files_stopped (Some files) document certificate doc (stops.Refused r) told = λ is fits. inl (told is)
files_stopped (Some files) document certificate doc stops.Memory told = λ is fits. tt
files_stopped (Some files) document certificate doc stops.Failed told = λ is fits. tt

-- a document that is refused for its classes
pub classes_stopped : (held : Option Files) (document certificate : List ℕ) (doc : Document) (input : Input) (stop : Stop) → ReadInput document doc held input
    → CountsClasses document input.net input.doc.policies (Err stop) → IsGiven document certificate doc held (Err stop)
classes_stopped None document certificate doc input stop told counts = tt
classes_stopped (Some files) document certificate doc input (stops.Refused r) told counts = λ is fits.
    inr (record { doc = input.doc; net = input.net; input = told is; count = counts.0; many = counts.1; told = counts.2 })
classes_stopped (Some files) document certificate doc input stops.Memory told counts = λ is fits. tt
classes_stopped (Some files) document certificate doc input stops.Failed told counts = λ is fits. tt

-- a file that was within its limit is not refused later
stopped_here : (held : Option Files) (document certificate : List ℕ) (doc : Document) (net : Network) (judged : Document) (stop : Stop)
    → IfSome held (λ files. JudgesReport proof_limit net judged certificate files (Err stop)) → IsGiven document certificate doc held (Err stop)
stopped_here None document certificate doc net judged stop told = tt
stopped_here (Some files) document certificate doc net judged (stops.Refused r) told = λ is fits. absurd (refused_none (read_refusal proof_limit files certificate) r fits told)
stopped_here (Some files) document certificate doc net judged stops.Memory told = λ is fits. tt
stopped_here (Some files) document certificate doc net judged stops.Failed told = λ is fits. tt

pub lines_stopped : (held later : Option Files) → later ≡ held → (document certificate : List ℕ) (doc : Document) (net : Network) (judged : Document) (stop : Stop)
    → IfSome later (λ files. JudgesReport proof_limit net judged certificate files (Err stop)) → IsGiven document certificate doc held (Err stop)
lines_stopped held later same document certificate doc net judged stop told =
    stopped_here held document certificate doc net judged stop (subst (λ (o : Option Files). IfSome o (λ files. JudgesReport proof_limit net judged certificate files (Err stop))) same told)

-- the judgement if nothing is refused
judged_here : (held : Option Files) (document certificate : List ℕ) (doc : Document) (input : Input) (judgement : Judgement) (done : Done) → ReadInput document doc held input
    → IsFit input → PoliciesHaveFewClasses input.net input.doc.policies
    → IfSome held (λ files. JudgesReport proof_limit input.net input.doc certificate files (Ok judgement))
    → done.text ≡ judgement_text (judgement_of judgement) → done.status ≡ judgement_status (judgement_of judgement) → IsJudging done → IsGiven document certificate doc held (Ok done)
judged_here None document certificate doc input judgement done told fit classes judges text_is status own = tt
judged_here (Some files) document certificate doc input judgement done told fit classes judges text_is status own = λ is fits. record {
  doc = input.doc;
  net = input.net;
  input = told is;
  valid = fit.valid;
  held = fits;
  classes = classes;
  outcome = judgement;
  outcome_is = judges.0;
  accepted = judges.1;
  text = text_is;
  writes = own.writes;
  status = status;
}

pub judged : (held later : Option Files) → later ≡ held → (document certificate : List ℕ) (doc : Document) (input : Input) (judgement : Judgement) (done : Done) → ReadInput document doc held input
    → IsFit input → PoliciesHaveFewClasses input.net input.doc.policies
    → IfSome later (λ files. JudgesReport proof_limit input.net input.doc certificate files (Ok judgement))
    → done.text ≡ judgement_text (judgement_of judgement) → done.status ≡ judgement_status (judgement_of judgement) → IsJudging done → IsGiven document certificate doc held (Ok done)
judged held later same document certificate doc input judgement done told fit classes judges text_is status own =
    let P : Option Files → Type 0 = λ o. IfSome o (λ files. JudgesReport proof_limit input.net input.doc certificate files (Ok judgement)) in
    judged_here held document certificate doc input judgement done told fit classes (subst P same judges) text_is status own

-- only one of accepted, rejected and refused holds
module _ (document certificate : List ℕ) (files : Files) where
  accepted_or_rejected : IsAcceptedReport document certificate files → IsRejected document certificate files → ⊥
  accepted_or_rejected yes' no' =
      let known = determined Judging [] document files in
      let docs : yes'.doc ≡ no'.doc = known.one_document yes'.doc no'.doc yes'.input.files_are.document_is no'.input.files_are.document_is in
      let P : Document → Type 0 = λ d. HoldsInput Judging [] document files d yes'.net in
      let Q : Document → Type 0 = λ d. IsReport yes'.net d (bytes_at files certificate) in
      let nets : yes'.net ≡ no'.net = known.one_network no'.doc yes'.net no'.net (subst P docs yes'.input) no'.input in
      let R : Network → Type 0 = λ n. IsReport n no'.doc (bytes_at files certificate) in
      no'.no_report (subst R nets (subst Q docs yes'.report))

  pub held_or_refused : (doc : Document) (net : Network) (r : FileRefusal) → HoldsInput Judging [] document files doc net →
      read_refusal proof_limit files certificate ≡ None → PoliciesHaveFewClasses net doc.policies → IsCheckRefusal document certificate files r → ⊥
  held_or_refused doc net r input held classes (inl e) = (determined Judging [] document files).not_both doc net r input (inl e)
  held_or_refused doc net r input held classes (inr (inl u)) = (determined Judging [] document files).not_both doc net r input (inr (inl u))
  held_or_refused doc net r input held classes (inr (inr (inl u))) = refused_none (read_refusal proof_limit files certificate) r held u.refused
  held_or_refused doc net r input held classes (inr (inr (inr u))) =
      elim u.refused [
        | inl behind ↦ (determined Judging [] document files).not_both doc net r input (inr (inr behind))
        | inr many ↦ (judged_once Judging document files).not_both doc net r input classes (inr many)
      ]

  told_done : (d : Done) → (done : IsChecked document certificate files d) → (o : Judgement) → done.outcome ≡ o → TellsReportCheck document certificate d.status files
  told_done d done Accepted is =
      let zero' : d.status ≡ 0 = done.status ∙ ap (λ (o : Judgement). judgement_status (judgement_of o)) is in
      let report = done.accepted.0 is in
      let says : IsAcceptedReport document certificate files =
      record {
        doc = done.doc;
        net = done.net;
        input = done.input;
        held = done.held;
        classes = done.classes;
        report = report;
        are_true =
            all_true done.net done.valid done.doc.policies report.verdicts report.right;
      } in
      record {
        accepted_exactly = (λ e. says, λ s. zero');
        rejected_exactly = (λ e. absurd (omega (arith, zero', e)), λ no'. absurd (accepted_or_rejected says no'));
        refused_exactly = (λ e. absurd (omega (arith, zero', e)), λ r. absurd (held_or_refused done.doc done.net r.refusal done.input done.held done.classes r.refused));
        nothing_else = inl zero';
      }
  told_done d done (Rejected fault) is =
      let one : d.status ≡ 1 = done.status ∙ ap (λ (o : Judgement). judgement_status (judgement_of o)) is in
      let says : IsRejected document certificate files =
      record { doc = done.doc; net = done.net; input = done.input; held = done.held; classes = done.classes; no_report = λ report. not_both (sym is ∙ done.accepted.1 report) } in
      record {
        accepted_exactly = (λ e. absurd (omega (arith, one, e)), λ yes'. absurd (accepted_or_rejected yes' says));
        rejected_exactly = (λ e. says, λ s. one);
        refused_exactly = (λ e. absurd (omega (arith, one, e)), λ r. absurd (held_or_refused done.doc done.net r.refusal done.input done.held done.classes r.refused));
        nothing_else = inr (inl one);
      }
    where
      not_both : Rejected fault ≡ Accepted → ⊥
      not_both e = cc

  told_refused : (r : FileRefusal) → IsCheckRefusal document certificate files r → TellsReportCheck document certificate 5 files
  told_refused r refused =
      let says : IsUnchecked document certificate files = record { refusal = r; refused = refused } in
      record {
        accepted_exactly = (λ e. absurd (omega arith), λ yes'. absurd (held_or_refused yes'.doc yes'.net r yes'.input yes'.held yes'.classes refused));
        rejected_exactly = (λ e. absurd (omega arith), λ no'. absurd (held_or_refused no'.doc no'.net r no'.input no'.held no'.classes refused));
        refused_exactly = (λ e. says, λ s. refl);
        nothing_else = inr (inr refl);
      }

pub check_told : (document certificate : List ℕ) → IsTold (IsCheckRefusal document certificate) (IsChecked document certificate)
    (λ status before after. TellsReportCheck document certificate status before)
check_told document certificate = record {
  answered = λ files d done. told_done document certificate files d done done.outcome refl;
  refused = told_refused document certificate;
}

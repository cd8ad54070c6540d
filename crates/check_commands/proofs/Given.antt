-- The answer of judging the certificate of a repair.
use Rattle.std.proofs.Common.{◌≡◌, ◌⊎◌, ℕ, ◌≤◌, inl, inr, List, [], length, refl, subst, arith}
use Rattle.std.specs.Prelude.{Option, Some, None, IfSome, Result, Ok, Err}
use Rattle.arc_base.specs.declared.limits.TheConstants.{EDIT_LIMIT, POLICY_LIMIT}
use Rattle.arc_base.specs.TextLines.{lines}
use Rattle.arc_outside.specs.Files.{Files}
use Rattle.net_model.specs.declared.policies.Document.{Document}
use Rattle.net_model.specs.declared.rows.Network.{Network}
use Rattle.net_model.specs.Validity.{IsValid}
use Rattle.edit_list.specs.declared.edit_kinds.Edit.{Edit}
use Rattle.edit_list.specs.declared.edit_kinds.EditFault.{EditFault}
use Rattle.edit_list.specs.Determined.{IsCountable}
use Rattle.edit_list.specs.EditLists.{AreEdits, DocumentHasFewClasses, NamesLimit}
use Rattle.policy_report.specs.Edits.{HasAddresses}
use Rattle.report_check.specs.declared.outcome.Outcome.{Outcome}
use Rattle.repair_check.specs.declared.judge.RepairJudge.{RepairJudge}
use Rattle.repair_check.specs.Certifies.{CertificatesAreAccepted, CertifiedClaimsAreTrue, IsCountFault, text_answers}
use Rattle.repair_check.specs.Instances.{IsInstance}
use Rattle.repair_check.specs.LineByLine.{HasComeTo, Judges}
use Rattle.run_files.specs.declared.limits.Limits.TheVariants.{Editing}
use Rattle.run_files.specs.declared.outcome.Done.{Done}
use Rattle.run_files.specs.declared.outcome.FileRefusal.{FileRefusal}
use Rattle.run_files.specs.declared.outcome.Stop.{Stop}
use Rattle.run_files.specs.declared.outcome.Stop.TheVariants as stops
use Rattle.run_files.specs.Answers.{Gives, IsJudging}
use Rattle.run_files.specs.Judgements.{judgement_status, judgement_text}
use Rattle.run_files.specs.Limits.{proof_limit}
use Rattle.run_files.specs.LineJudges.{JudgesText}
use Rattle.run_files.specs.Refusals.{bytes_at, read_refusal}
use Rattle.run_files.proofs.LinesJudged.{text_judged}
use Rattle.run_files.proofs.OneAnswer.{refused_none}
use Rattle.run_inputs.specs.declared.inputs.Sources.{Sources}
use Rattle.run_inputs.specs.Counts.{StopsFor}
use Rattle.run_inputs.specs.Inputs.{AreFit, HoldsDocument, ReadsSources}
use Rattle.run_inputs.proofs.EditFaults.{limit_refused}
use Rattle.check_commands.specs.ReportChecks.{judgement_of}
use Rattle.check_commands.specs.Readings.{JudgesRepair, RefusesFor}
use Rattle.check_commands.specs.RepairChecks.{IsJudgedRepair, IsRepairJudged, IsTextFault, IsTextRefusal}

-- ---- the judgement over the network

-- the edits of a document that can be judged over the network
pub instance : (net : Network) (doc : Document) (list : List Edit) → AreFit doc net → length doc.policies ≤ POLICY_LIMIT → DocumentHasFewClasses net doc →
    AreEdits net doc list → length list ≤ EDIT_LIMIT → IsInstance net doc list
instance net doc list fit policies few_classes edits few = record {
  judgeable = record { valid = fit.valid; ends = fit.ends };
  policies = policies;
  failures = fit.failures;
  few_classes = few_classes;
  edits = edits;
  few = few;
}

module _ (document certificate : List ℕ) (net : Network) (doc : Document) where
  -- a count exceeds its limit before a line is read
  pub counts_stopped : (held : Option Files) (fault : EditFault) (stop : Stop) → NamesLimit net doc fault → StopsFor document fault stop →
      IfSome held (λ files. JudgesRepair document net doc certificate files (Err stop))
  counts_stopped None fault stop names stops_for = tt
  counts_stopped (Some files) fault stop names stops_for =
      limit_refused (NamesLimit net doc) (λ r. (read_refusal proof_limit files certificate ≡ Some r) ⊎ RefusesFor
      (IsTextFault net doc (bytes_at files certificate)) document r) (IsJudgedRepair net doc (bytes_at files certificate))
      document (λ what count passed. inr (what, count, inl passed, refl)) fault stop stops_for names

  module _ (list : List Edit) (is : IsInstance net doc list) (countable : IsCountable net) (addresses : HasAddresses net) (exactly : CertificatesAreAccepted) (are_true : CertifiedClaimsAreTrue) where
    judged_text : (text : List ℕ) (outcome : Outcome) → Judges net doc list text outcome → IsJudgedRepair net doc text outcome
    judged_text text outcome told = record {
      list = list;
      edits = is.edits;
      classes = is.few_classes;
      few = is.few;
      countable = countable;
      counted = told.counted;
      outcome_is = told.outcome;
      accepted = exactly net doc list text outcome is.judgeable.valid countable addresses is.edits (omega (arith, is.policies)) told.outcome;
      are_true = λ claim certifies. are_true net doc list text claim is.judgeable.valid countable is.edits certifies;
    }

    refused_text : (text : List ℕ) (r : FileRefusal) → RefusesFor (IsCountFault net doc list (text_answers net doc list text)) document r → RefusesFor (IsTextFault net doc text) document r
    refused_text text r passed = (passed.0, passed.1, inr (record { list = list; edits = is.edits; classes = is.few_classes; few = is.few; formula = passed.2 }), passed.3)

    module _ (judge : RepairJudge) (come : (text : List ℕ) → HasComeTo net doc list text (lines text) judge) where
      abbrev LeadsTo : List (List ℕ) → Outcome → Type 0
      LeadsTo ls o = (text : List ℕ) → HasComeTo net doc list text ls judge → Judges net doc list text o

      abbrev Refuses : List (List ℕ) → FileRefusal → Type 0
      Refuses ls r = (text : List ℕ) → HasComeTo net doc list text ls judge → RefusesFor (IsCountFault net doc list (text_answers net doc list text)) document r

      -- the lines are judged
      pub judged_lines : (held : Option Files) (result : Result Outcome Stop) → IfSome held (λ files. JudgesText LeadsTo Refuses proof_limit files certificate result) →
          IfSome held (λ files. JudgesRepair document net doc certificate files result)
      judged_lines held result told =
          text_judged LeadsTo Refuses proof_limit certificate
          (λ (files : Files) (r : FileRefusal). (read_refusal proof_limit files certificate ≡ Some r) ⊎ RefusesFor (IsTextFault net doc (bytes_at files certificate)) document r)
          (λ (files : Files) (o : Outcome). IsJudgedRepair net doc (bytes_at files certificate) o)
          (λ files r late. inl late)
          (λ files r refuses. inr (refused_text (bytes_at files certificate) r (refuses (bytes_at files certificate) (come (bytes_at files certificate)))))
          (λ files o leads. judged_text (bytes_at files certificate) o (leads (bytes_at files certificate) (come (bytes_at files certificate))))
          held result told

-- ---- the judgement from the files

-- the answer over a store that holds the document and the certificate
abbrev pub IsGiven : List ℕ → List ℕ → Document → Option Files → Result Done Stop → Type 0
IsGiven document certificate doc held result =
    IfSome held (λ files. HoldsDocument document files doc → read_refusal proof_limit files certificate ≡ None →
    Gives (IsTextRefusal document (bytes_at files certificate) files) (IsRepairJudged document (bytes_at files certificate) files) result)

-- the router files that were read
abbrev pub ReadSources : List ℕ → Document → Option Files → Result Sources Stop → Type 0
ReadSources document doc held result = IfSome held (λ files. HoldsDocument document files doc → ReadsSources Editing [] document doc files result)

module _ (document certificate : List ℕ) (doc : Document) where
  pub sources_stopped : (held : Option Files) (stop : Stop) → ReadSources document doc held (Err stop) → IsGiven document certificate doc held (Err stop)
  sources_stopped None stop told = tt
  sources_stopped (Some files) (stops.Refused r) told = λ is fits. inl (told is)
  sources_stopped (Some files) stops.Memory told = λ is fits. tt
  sources_stopped (Some files) stops.Failed told = λ is fits. tt

  module _ (held later : Option Files) (same : later ≡ held) (sources : Sources) (told : ReadSources document doc held (Ok sources)) (valid : IsValid sources.built.net) where
    -- the answer of judging the lines, for the files as they were
    before : (result : Result Outcome Stop) → IfSome later (λ files. JudgesRepair document sources.built.net doc certificate files result) →
        IfSome held (λ files. JudgesRepair document sources.built.net doc certificate files result)
    before result is = subst (λ (o : Option Files). IfSome o (λ files. JudgesRepair document sources.built.net doc certificate files result)) same is

    stopped_here : (now : Option Files) (stop : Stop) → ReadSources document doc now (Ok sources) →
        IfSome now (λ files. JudgesRepair document sources.built.net doc certificate files (Err stop)) → IsGiven document certificate doc now (Err stop)
    stopped_here None stop read is = tt
    stopped_here (Some files) (stops.Refused r) read (inl late) = λ held fits. absurd (refused_none (read_refusal proof_limit files certificate) r fits late)
    stopped_here (Some files) (stops.Refused r) read (inr passed) = λ held fits.
        inr (record { doc = doc; net = sources.built.net; input = (read held).input; valid = valid; what = passed.0; count = passed.1; fault = passed.2; told = passed.3 })
    stopped_here (Some files) stops.Memory read is = λ held fits. tt
    stopped_here (Some files) stops.Failed read is = λ held fits. tt

    -- judging the lines was stopped
    pub lines_stopped : (stop : Stop) → IfSome later (λ files. JudgesRepair document sources.built.net doc certificate files (Err stop)) → IsGiven document certificate doc held (Err stop)
    lines_stopped stop is = stopped_here held stop told (before (Err stop) is)

    judged_now : (now : Option Files) (outcome : Outcome) (done : Done) → ReadSources document doc now (Ok sources) →
        IfSome now (λ files. JudgesRepair document sources.built.net doc certificate files (Ok outcome)) →
        done.text ≡ judgement_text (judgement_of outcome) → done.status ≡ judgement_status (judgement_of outcome) → IsJudging done → IsGiven document certificate doc now (Ok done)
    judged_now None outcome done read is text_is status own = tt
    judged_now (Some files) outcome done read is text_is status own = λ held fits. record {
      doc = doc;
      net = sources.built.net;
      input = (read held).input;
      valid = valid;
      outcome = outcome;
      judged = is;
      text_is = text_is;
      writes = own.writes;
      status = status;
    }

    -- the lines were judged
    pub judged : (outcome : Outcome) (done : Done) → IfSome later (λ files. JudgesRepair document sources.built.net doc certificate files (Ok outcome)) →
        done.text ≡ judgement_text (judgement_of outcome) → done.status ≡ judgement_status (judgement_of outcome) → IsJudging done → IsGiven document certificate doc held (Ok done)
    judged outcome done is text_is status own = judged_now held outcome done told (before (Ok outcome) is) text_is status own

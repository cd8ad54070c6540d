-- The answers of `recheck`.
use Rattle.std.proofs.Common.{◌≡◌, inr, List, [], ◌∙◌, subst}
use Rattle.std.specs.Prelude.{Option, Some, None, IfSome, Ok, Err}
use Rattle.arc_outside.specs.Files.{Files}
use Rattle.net_model.specs.declared.policies.Document.{Document}
use Rattle.net_model.specs.declared.verdicts.Verdict.{Verdict}
use Rattle.command_words.specs.declared.commands.RecheckWords.{RecheckWords}
use Rattle.run_files.specs.declared.limits.Limits.TheVariants.{Judging}
use Rattle.run_files.specs.declared.outcome.Done.{Done}
use Rattle.run_files.specs.declared.outcome.Stop.{Stop}
use Rattle.run_files.specs.declared.outcome.Stop.TheVariants as stops
use Rattle.run_files.specs.Answers.{Answers, IsJudging}
use Rattle.run_files.specs.Limits.{proof_limit}
use Rattle.run_files.specs.ReadingLines.{IsWithinLimit}
use Rattle.run_files.specs.Refusals.{read_refusal}
use Rattle.run_files.proofs.OneAnswer.{refused_none}
use Rattle.run_inputs.specs.declared.inputs.Input.{Input}
use Rattle.run_inputs.specs.Counts.{CountsClasses, PoliciesHaveFewClasses}
use Rattle.run_inputs.specs.Inputs.{HoldsDocument, IsFit, ReadsDocumentAt, ReadsRouterFiles}
use Rattle.reach_commands.specs.RecheckRuns.{IsRecheckOf, IsRecheckAnswer, IsRecheckRefusal}
use Rattle.reach_commands.specs.ReportLines.{ReadsHeld}

-- a document that is refused for its classes
classes_stopped_here : (held : Option Files) (words : RecheckWords) (doc : Document) (input : Input) (stop : Stop) →
    IfSome held (λ files. ReadsDocumentAt words.document files (Ok doc)) → IfSome held (λ files. IsWithinLimit proof_limit files words.report (Ok tt)) →
    IfSome held (λ files. HoldsDocument words.document files doc → ReadsRouterFiles Judging [] words.document files (Ok input)) →
    CountsClasses words.document input.net input.doc.policies (Err stop) → Answers IsJudging (IsRecheckRefusal words) (IsRecheckAnswer words) held (Err stop)
classes_stopped_here None words doc input (stops.Refused r) told read input_is counts = tt
classes_stopped_here (Some files) words doc input (stops.Refused r) told read input_is counts =
    inr (inr (inr (record {
      held = read;
      refused = inr (record { doc = input.doc; net = input.net; input = input_is told; count = counts.0; many = counts.1; told = counts.2 });
    })))
classes_stopped_here held words doc input stops.Memory told read input_is counts = tt
classes_stopped_here held words doc input stops.Failed told read input_is counts = tt

pub classes_stopped : (held one two : Option Files) → one ≡ held → two ≡ one → (words : RecheckWords) (doc : Document) (input : Input) (stop : Stop) →
    IfSome held (λ files. ReadsDocumentAt words.document files (Ok doc)) → IfSome one (λ files. IsWithinLimit proof_limit files words.report (Ok tt)) →
    IfSome two (λ files. HoldsDocument words.document files doc → ReadsRouterFiles Judging [] words.document files (Ok input)) →
    CountsClasses words.document input.net input.doc.policies (Err stop) → Answers IsJudging (IsRecheckRefusal words) (IsRecheckAnswer words) held (Err stop)
classes_stopped held one two first second words doc input stop told read input_is =
    let P : Option Files → Type 0 = λ o. IfSome o (λ files. IsWithinLimit proof_limit files words.report (Ok tt)) in
    let Q : Option Files → Type 0 = λ o. IfSome o (λ files. HoldsDocument words.document files doc → ReadsRouterFiles Judging [] words.document files (Ok input)) in
    classes_stopped_here held words doc input stop told (subst P first read) (subst Q (second ∙ first) input_is)

-- if the second reading is stopped, it is not for a file that was within its limit
reading_stopped_here : (held : Option Files) (words : RecheckWords) (input : Input) (stop : Stop) → IfSome held (λ files. IsWithinLimit proof_limit files words.report (Ok tt)) →
    IfSome held (λ files. ReadsHeld proof_limit input.net input.doc words.report files (Err stop)) → Answers IsJudging (IsRecheckRefusal words) (IsRecheckAnswer words) held (Err stop)
reading_stopped_here None words input (stops.Refused r) read late = tt
reading_stopped_here (Some files) words input (stops.Refused r) read late = absurd (refused_none (read_refusal proof_limit files words.report) r read late)
reading_stopped_here held words input stops.Memory read late = tt
reading_stopped_here held words input stops.Failed read late = tt

pub reading_stopped : (held one two three : Option Files) → one ≡ held → two ≡ one → three ≡ two → (words : RecheckWords) (input : Input) (stop : Stop) →
    IfSome one (λ files. IsWithinLimit proof_limit files words.report (Ok tt)) → IfSome three (λ files. ReadsHeld proof_limit input.net input.doc words.report files (Err stop)) →
    Answers IsJudging (IsRecheckRefusal words) (IsRecheckAnswer words) held (Err stop)
reading_stopped held one two three first second third words input stop read late =
    let P : Option Files → Type 0 = λ o. IfSome o (λ files. IsWithinLimit proof_limit files words.report (Ok tt)) in
    let R : Option Files → Type 0 = λ o. IfSome o (λ files. ReadsHeld proof_limit input.net input.doc words.report files (Err stop)) in
    reading_stopped_here held words input stop (subst P first read) (subst R (third ∙ second ∙ first) late)

answered_here : (held : Option Files) (words : RecheckWords) (doc : Document) (input : Input) (blocks : List Verdict) (done : Done) →
    IfSome held (λ files. ReadsDocumentAt words.document files (Ok doc)) → IfSome held (λ files. IsWithinLimit proof_limit files words.report (Ok tt)) →
    IfSome held (λ files. HoldsDocument words.document files doc → ReadsRouterFiles Judging [] words.document files (Ok input)) → IsFit input → PoliciesHaveFewClasses input.net input.doc.policies →
    IfSome held (λ files. ReadsHeld proof_limit input.net input.doc words.report files (Ok blocks)) → IsRecheckOf input.net input.doc.policies blocks done → IsJudging done →
    Answers IsJudging (IsRecheckRefusal words) (IsRecheckAnswer words) held (Ok done)
answered_here None words doc input blocks done told read input_is fit classes are_held answer judging = (judging, tt)
answered_here (Some files) words doc input blocks done told read input_is fit classes are_held answer judging = (
  judging,
  record {
    doc = input.doc;
    net = input.net;
    input = input_is told;
    valid = fit.valid;
    held = read;
    classes = classes;
    answer = subst (λ (bs : List Verdict). IsRecheckOf input.net input.doc.policies bs done) are_held answer;
  },
)

pub answered : (held one two three : Option Files) → one ≡ held → two ≡ one → three ≡ two → (words : RecheckWords) (doc : Document) (input : Input) (blocks : List Verdict) (done : Done) →
    IfSome held (λ files. ReadsDocumentAt words.document files (Ok doc)) → IfSome one (λ files. IsWithinLimit proof_limit files words.report (Ok tt)) →
    IfSome two (λ files. HoldsDocument words.document files doc → ReadsRouterFiles Judging [] words.document files (Ok input)) → IsFit input → PoliciesHaveFewClasses input.net input.doc.policies →
    IfSome three (λ files. ReadsHeld proof_limit input.net input.doc words.report files (Ok blocks)) → IsRecheckOf input.net input.doc.policies blocks done → IsJudging done →
    Answers IsJudging (IsRecheckRefusal words) (IsRecheckAnswer words) held (Ok done)
answered held one two three first second third words doc input blocks done told read input_is fit classes are_held =
    let P : Option Files → Type 0 = λ o. IfSome o (λ files. IsWithinLimit proof_limit files words.report (Ok tt)) in
    let Q : Option Files → Type 0 = λ o. IfSome o (λ files. HoldsDocument words.document files doc → ReadsRouterFiles Judging [] words.document files (Ok input)) in
    let R : Option Files → Type 0 = λ o. IfSome o (λ files. ReadsHeld proof_limit input.net input.doc words.report files (Ok blocks)) in
    answered_here held words doc input blocks done told (subst P first read) (subst Q (second ∙ first) input_is) fit classes (subst R (third ∙ second ∙ first) are_held)

-- Verdicts on the policies of a document, one after another.
use Rattle.std.proofs.Common.{◌≡◌, ℕ, ◌≤◌, List, [], ◌∷◌}
use Rattle.std.specs.Prelude.{Option, Some, None, IfSome, Result, Ok, Err, IfOk}
use Rattle.std.specs.List.{AllZip}
use Rattle.net_model.specs.declared.policies.Policy.{Policy}
use Rattle.net_model.specs.declared.rows.Network.{Network}
use Rattle.net_model.specs.declared.verdicts.Verdict.{Verdict}
use Rattle.net_model.specs.Witnesses.{IsRight}
use Rattle.arc_outside.specs.Files.{Files}
use Rattle.verdicts.specs.Fixed.{IsFixed}
use Rattle.policy_report.specs.Reports.{report_text}
use Rattle.run_inputs.specs.declared.inputs.Input.{Input}
use Rattle.run_files.specs.declared.limits.Limits.TheVariants.{Judging}
use Rattle.run_files.specs.declared.outcome.Done.{Done}
use Rattle.run_files.specs.Answers.{Answers, IsJudging}
use Rattle.run_inputs.specs.Counts.{PoliciesHaveFewClasses, IsJudgingRefusal}
use Rattle.run_inputs.specs.Inputs.{HoldsInput, IsFit}
use Rattle.verify_commands.specs.Verifies.{IsVerdictOn, IsVerified, verdicts_status}
use Rattle.verify_commands.proofs.Verified.{judged_true}

-- verdicts that are right and have the fixed witnesses
verdicts_on : (net : Network) (policies judged : List Policy) (vs : List Verdict) → AllZip (IsRight net) judged vs → AllZip (IsFixed net policies) judged vs →
    AllZip (IsVerdictOn net policies) judged vs
verdicts_on net policies [] [] right fixed = tt
verdicts_on net policies [] (v ∷ vs) right fixed = absurd right
verdicts_on net policies (p ∷ ps) [] right fixed = absurd right
verdicts_on net policies (p ∷ ps) (v ∷ vs) right fixed = (record { right = right.0; fixed = fixed.0 }, verdicts_on net policies ps vs right.1 fixed.1)

pub all_on : {E : Type 0} (net : Network) (policies : List Policy) (r : Result (List Verdict) E) → IfOk r (AllZip (IsRight net) policies) → IfOk r (AllZip (IsFixed net policies) policies) →
    IfOk r (AllZip (IsVerdictOn net policies) policies)
all_on net policies (Ok vs) right fixed = verdicts_on net policies policies vs right fixed
all_on net policies (Err e) right fixed = tt

-- the input that was read
abbrev Read : Option Files → List ℕ → Input → Type 0
Read held document input = IfSome held (λ files. HoldsInput Judging [] document files input.doc input.net)

-- the report of the verdicts, all of which are true
pub verified : (held : Option Files) (document : List ℕ) (input : Input) (verdicts : List Verdict) (done : Done) → Read held document input → IsFit input
    → PoliciesHaveFewClasses input.net input.doc.policies → AllZip (IsVerdictOn input.net input.doc.policies) input.doc.policies verdicts → done.text ≡ report_text input.net input.doc verdicts
    → done.writes ≡ [] → done.status ≡ verdicts_status verdicts → done.status ≤ 1 → Answers IsJudging (IsJudgingRefusal Judging document) (IsVerified document) held (Ok done)
verified None document input verdicts done told fit classes judged text writes status few = (record { status = few; writes = writes }, tt)
verified (Some files) document input verdicts done told fit classes judged text writes status few = (
  record { status = few; writes = writes },
  record {
    doc = input.doc;
    net = input.net;
    input = told;
    valid = fit.valid;
    classes = classes;
    verdicts = verdicts;
    judged = judged;
    are_true = judged_true input.net fit.valid input.doc.policies verdicts judged;
    text = text;
    writes = writes;
    status = status;
  },
)

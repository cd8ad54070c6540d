-- What the statuses of `verify` say, in the words of the subject.
use Rattle.std.proofs.Common.{◌≡◌, ℕ, ◌⊎◌, inl, inr, Bool, true, false, cond, List, [], ◌∷◌, refl, sym, ◌∙◌, ap, subst, arith}
use Rattle.std.specs.Prelude.{All, ◌↔◌}
use Rattle.std.specs.List.{AllZip, list_all}
use Rattle.arc_outside.specs.Files.{Files}
use Rattle.net_model.specs.declared.policies.Document.{Document}
use Rattle.net_model.specs.declared.policies.Policy.{Policy}
use Rattle.net_model.specs.declared.rows.Network.{Network}
use Rattle.net_model.specs.declared.verdicts.Verdict.{Verdict}
use Rattle.net_model.specs.Policies.{Meets, MeetsDocument}
use Rattle.net_model.specs.Validity.{IsValid}
use Rattle.net_model.specs.Witnesses.{IsRight, is_yes}
use Rattle.net_laws.proofs.RightVerdicts.{all_decided, right_verdicts_decide}
use Rattle.run_files.specs.declared.limits.Limits.TheVariants.{Judging}
use Rattle.run_files.specs.declared.outcome.Done.{Done}
use Rattle.run_files.specs.declared.outcome.FileRefusal.{FileRefusal}
use Rattle.run_files.specs.Answers.{IsTold}
use Rattle.run_inputs.specs.Counts.{IsJudgingRefusal}
use Rattle.run_inputs.specs.Determined.{IsDetermined, IsJudgedOnce}
use Rattle.run_inputs.specs.Inputs.{HoldsInput}
use Rattle.run_inputs.proofs.Determined.{determined, judged_once}
use Rattle.run_inputs.specs.TrueVerdicts.{IsTrueOf}
use Rattle.run_inputs.proofs.AllTrue.{all_true}
use Rattle.verify_commands.specs.Verifies.{IsVerified, IsVerdictOn, SaysNo, SaysRefused, SaysYes, TellsVerdicts, verdicts_status}

-- verdicts that are fixed are right
pub all_right : (net : Network) (document policies : List Policy) (vs : List Verdict) → AllZip (IsVerdictOn net document) policies vs → AllZip (IsRight net) policies vs
all_right net document [] [] judged = tt
all_right net document [] (v ∷ vs) judged = absurd judged
all_right net document (p ∷ ps) [] judged = absurd judged
all_right net document (p ∷ ps) (v ∷ vs) judged = (judged.0.right, all_right net document ps vs judged.1)

-- the verdicts of `verify` are true
pub judged_true : (net : Network) → IsValid net → (policies : List Policy) (vs : List Verdict) → AllZip (IsVerdictOn net policies) policies vs → AllZip (IsTrueOf net) policies vs
judged_true net valid policies vs judged = all_true net valid policies vs (all_right net policies policies vs judged)

module _ (document : List ℕ) (files : Files) where
  known : IsDetermined Judging [] document files
  known = determined Judging [] document files

  once : IsJudgedOnce Judging document files
  once = judged_once Judging document files

  -- only one of yes, no and refused holds
  pub yes_or_no : SaysYes document files → SaysNo document files → ⊥
  yes_or_no yes' no' =
      let docs : yes'.doc ≡ no'.doc = known.one_document yes'.doc no'.doc yes'.input.files_are.document_is no'.input.files_are.document_is in
      let P : Document → Type 0 = λ d. HoldsInput Judging [] document files d yes'.net in
      let Q : Document → Type 0 = λ d. MeetsDocument yes'.net d in
      let nets : yes'.net ≡ no'.net = known.one_network no'.doc yes'.net no'.net (subst P docs yes'.input) no'.input in
      let R : Network → Type 0 = λ n. MeetsDocument n no'.doc in
      no'.meets_not (subst R nets (subst Q docs yes'.meets))

  pub yes_or_refused : SaysYes document files → SaysRefused document files → ⊥
  yes_or_refused yes' refused = once.not_both yes'.doc yes'.net refused.refusal yes'.input yes'.classes refused.refused

  pub no_or_refused : SaysNo document files → SaysRefused document files → ⊥
  no_or_refused no' refused = once.not_both no'.doc no'.net refused.refusal no'.input no'.classes refused.refused

-- right verdicts are all yes exactly if the network meets all policies
decide : (net : Network) → IsValid net → (policies : List Policy) (verdicts : List Verdict) → AllZip (IsVerdictOn net policies) policies verdicts →
    (list_all is_yes verdicts ≡ true) ↔ All (Meets net) policies
decide net valid policies verdicts judged = all_decided net (right_verdicts_decide net valid) policies verdicts (all_right net policies policies verdicts judged)

-- the status of an answer
abbrev status_from : Bool → ℕ
status_from b = cond b 0 1

status_when_yes : (verdicts : List Verdict) → list_all is_yes verdicts ≡ true → verdicts_status verdicts ≡ 0
status_when_yes verdicts t = ap status_from t

yes_from_status : (b : Bool) → status_from b ≡ 0 → b ≡ true
yes_from_status true is_zero = refl
yes_from_status false is_zero = absurd (omega arith)

zero_or_one : (b : Bool) → (status_from b ≡ 0) ⊎ (status_from b ≡ 1)
zero_or_one true = inl refl
zero_or_one false = inr refl

-- what an answer with this status says
told_yes : (document : List ℕ) (files : Files) (d : Done) → IsVerified document files d → d.status ≡ 0 → SaysYes document files
told_yes document files d done is_zero = record {
  doc = done.doc;
  net = done.net;
  input = done.input;
  classes = done.classes;
  meets = (decide done.net done.valid done.doc.policies done.verdicts done.judged).0 (yes_from_status _ (sym done.status ∙ is_zero));
}

told_no : (document : List ℕ) (files : Files) (d : Done) → IsVerified document files d → d.status ≡ 1 → SaysNo document files
told_no document files d done is_one = record {
  doc = done.doc;
  net = done.net;
  input = done.input;
  classes = done.classes;
  meets_not = λ meets.
      let is_zero : verdicts_status done.verdicts ≡ 0 = status_when_yes done.verdicts ((decide done.net done.valid done.doc.policies done.verdicts done.judged).1 meets) in
      omega (arith, is_zero, done.status, is_one);
}

told_refused : (document : List ℕ) (files : Files) (r : FileRefusal) → IsJudgingRefusal Judging document files r → TellsVerdicts document 5 files
told_refused document files r refused =
    let says : SaysRefused document files = record { refusal = r; refused = refused } in
    record {
      yes_exactly = (λ e. absurd (omega arith), λ yes'. absurd (yes_or_refused document files yes' says));
      no_exactly = (λ e. absurd (omega arith), λ no'. absurd (no_or_refused document files no' says));
      refused_exactly = (λ e. says, λ s. refl);
      nothing_else = inr (inr refl);
    }

told_done : (document : List ℕ) (files : Files) (d : Done) → IsVerified document files d → TellsVerdicts document d.status files
told_done document files d done =
    elim (zero_or_one (list_all is_yes done.verdicts)) [
      | inl e ↦
          let says : SaysYes document files = told_yes document files d done (done.status ∙ e) in
          let zero' : d.status ≡ 0 = done.status ∙ e in
          record {
            yes_exactly = (λ f. says, λ s. zero');
            no_exactly = (λ f. absurd (omega (arith, zero')), λ no'. absurd (yes_or_no document files says no'));
            refused_exactly = (λ f. absurd (omega (arith, zero')), λ s. absurd (yes_or_refused document files says s));
            nothing_else = inl zero';
          }
      | inr e ↦
          let one : d.status ≡ 1 = done.status ∙ e in
          let says : SaysNo document files = told_no document files d done one in
          record {
            yes_exactly = (λ f. absurd (omega (arith, one)), λ yes'. absurd (yes_or_no document files yes' says));
            no_exactly = (λ f. says, λ s. one);
            refused_exactly = (λ f. absurd (omega (arith, one)), λ s. absurd (no_or_refused document files says s));
            nothing_else = inr (inl one);
          }
    ]

pub verify_told : (document : List ℕ) → IsTold (IsJudgingRefusal Judging document) (IsVerified document) (λ status before after. TellsVerdicts document status before)
verify_told document = record { answered = told_done document; refused = told_refused document }

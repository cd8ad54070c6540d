-- What the status of `recheck` says.
use Rattle.std.proofs.Common.{◌≡◌, ◌⊎◌, zero, suc, inl, inr, Bool, true, false, List, [], ◌∷◌, refl, sym, ◌∙◌, ap, arith}
use Rattle.std.specs.Prelude.{if◌then◌else◌, None, All}
use Rattle.std.specs.List.{AllZip, list_all}
use Rattle.std.proofs.lemmas.Bool.{false≢true, and_from, and_parts}
use Rattle.arc_outside.specs.Files.{Files}
use Rattle.net_model.specs.declared.policies.Document.{Document}
use Rattle.net_model.specs.declared.policies.Policy.{Policy}
use Rattle.net_model.specs.declared.rows.Network.{Network}
use Rattle.net_model.specs.Policies.{Meets, MeetsDocument}
use Rattle.net_model.specs.Validity.{IsValid}
use Rattle.net_model.specs.Witnesses.{is_yes}
use Rattle.net_laws.proofs.RightVerdicts.{right_verdicts_decide}
use Rattle.arc_recheck.specs.declared.rechecking.Rechecked.{Rechecked}
use Rattle.command_words.specs.declared.commands.RecheckWords.{RecheckWords}
use Rattle.run_files.specs.declared.limits.Limits.TheVariants.{Judging}
use Rattle.run_files.specs.declared.outcome.Done.{Done}
use Rattle.run_files.specs.declared.outcome.FileRefusal.{FileRefusal}
use Rattle.run_files.specs.Answers.{IsTold}
use Rattle.run_inputs.specs.Counts.{PoliciesHaveFewClasses, IsJudgingRefusal, RefusesClasses}
use Rattle.run_inputs.specs.Inputs.{HoldsInput, IsFilesRefusal}
use Rattle.run_files.specs.Limits.{proof_limit}
use Rattle.run_files.specs.Refusals.{read_refusal}
use Rattle.run_inputs.proofs.Determined.{judged_once, document_none, held_none, no_value, one_value}
use Rattle.reach_commands.specs.RecheckRuns.{IsRightOn, RefusesReport, IsRecheckRefusal, IsRecheckAnswer, RecheckSaysYes, RecheckSaysNo, TellsRecheck}
use Rattle.reach_commands.proofs.OneInput.{one_input}
use Rattle.reach_commands.proofs.RecheckedEach.{are_right}

abbrev pub yes : Rechecked → Bool
yes r = is_yes r.verdict

-- each policy is met exactly if each verdict is a yes
met_if : (net : Network) → IsValid net → (policies : List Policy) (rs : List Rechecked) → AllZip (IsRightOn net) policies rs → list_all yes rs ≡ true → All (Meets net) policies
met_if net valid [] [] right all k d within = absurd (omega (arith, within))
met_if net valid [] (r ∷ rs) right all k d within = absurd right
met_if net valid (policy ∷ policies) [] right all k d within = absurd right
met_if net valid (policy ∷ policies) (r ∷ rs) right all zero d within =
    (right_verdicts_decide net valid policy r.verdict right.0).0 (and_parts (yes r) (list_all yes rs) all).0
met_if net valid (policy ∷ policies) (r ∷ rs) right all (suc k) d within =
    met_if net valid policies rs right.1 (and_parts (yes r) (list_all yes rs) all).1 k d (omega (arith, within))

yes_if : (net : Network) → IsValid net → (policies : List Policy) (rs : List Rechecked) → AllZip (IsRightOn net) policies rs → All (Meets net) policies → list_all yes rs ≡ true
yes_if net valid [] [] right met = refl
yes_if net valid [] (r ∷ rs) right met = absurd right
yes_if net valid (policy ∷ policies) [] right met = absurd right
yes_if net valid (policy ∷ policies) (r ∷ rs) right met =
    and_from (yes r) (list_all yes rs) ((right_verdicts_decide net valid policy r.verdict right.0).1 (met 0 policy (omega arith)))
    (yes_if net valid policies rs right.1 (λ k d within. met (suc k) d (omega (arith, within))))

module _ (words : RecheckWords) (files : Files) where
  yes_or_no : RecheckSaysYes words files → RecheckSaysNo words files → ⊥
  yes_or_no yes' no' =
      no'.meets_not (one_input words.document files yes'.doc no'.doc yes'.net no'.net yes'.input no'.input (λ d n. MeetsDocument n d) yes'.meets)

  -- a refusal is that of the old report, or one of a command that judges, where the old report is not refused before it
  abbrev Stage : FileRefusal → Type 0
  Stage r = RefusesReport words files r ⊎ (IsJudgingRefusal Judging words.document files r × ((s : FileRefusal) → RefusesReport words files s → ⊥))

  behind : (r : FileRefusal) → IsFilesRefusal Judging [] words.document files r ⊎ RefusesClasses Judging words.document files r → IsJudgingRefusal Judging words.document files r
  behind r (inl u) = inl (inr (inr u))
  behind r (inr u) = inr u

  stage : (r : FileRefusal) → IsRecheckRefusal words files r → Stage r
  stage r (inl e) = inr (inl (inl e), λ s v. held_none Judging [] words.document files r v.document_is.held e)
  stage r (inr (inl u)) = inr (inl (inr (inl u)), λ s v. document_none Judging [] words.document files v.doc r v.document_is u)
  stage r (inr (inr (inl u))) = inl u
  stage r (inr (inr (inr u))) = inr (behind r u.refused, λ s v. no_value (read_refusal proof_limit files words.report) s v.refused u.held)

  once : (r s : FileRefusal) → Stage r → Stage s → r ≡ s
  once r s (inl u) (inl v) = one_value (read_refusal proof_limit files words.report) r s u.refused v.refused
  once r s (inl u) (inr v) = absurd (v.1 r u)
  once r s (inr u) (inl v) = absurd (u.1 s v)
  once r s (inr u) (inr v) = (judged_once Judging words.document files).one_refusal r s u.0 v.0

  pub refused_once : (r s : FileRefusal) → IsRecheckRefusal words files r → IsRecheckRefusal words files s → r ≡ s
  refused_once r s u v = once r s (stage r u) (stage s v)

  pub held_or_refused : (doc : Document) (net : Network) → HoldsInput Judging [] words.document files doc net →
      read_refusal proof_limit files words.report ≡ None → PoliciesHaveFewClasses net doc.policies →
      (r : FileRefusal) → IsRecheckRefusal words files r → ⊥
  held_or_refused doc net input held classes r refused = elim (stage r refused) [
    | inl u ↦ no_value (read_refusal proof_limit files words.report) r u.refused held
    | inr judging ↦ (judged_once Judging words.document files).not_both doc net r input classes judging.0
  ]

  rights : (d : Done) (done : IsRecheckAnswer words files d) → AllZip (IsRightOn done.net) done.doc.policies done.answer.rechecked
  rights d done = are_right done.net done.doc.policies _ done.answer.rechecked done.answer.are_rechecked

  told_as : (d : Done) (done : IsRecheckAnswer words files d) (b : Bool) → list_all yes done.answer.rechecked ≡ b → TellsRecheck words d.status files
  told_as d done true is =
      let status : d.status ≡ 0 = done.answer.status ∙ ap (λ (y : Bool). if y then 0 else 1) is in
      let says : RecheckSaysYes words files = record {
        doc = done.doc;
        net = done.net;
        input = done.input;
        held = done.held;
        classes = done.classes;
        meets = met_if done.net done.valid done.doc.policies done.answer.rechecked (rights d done) is;
      } in
      record {
        yes_exactly = (λ e. says, λ s. status);
        no_exactly = (λ e. absurd (omega (arith, status, e)), λ no'. absurd (yes_or_no says no'));
        refused_exactly = (λ e. absurd (omega (arith, status, e)), λ u. absurd (held_or_refused done.doc done.net done.input done.held done.classes u.refusal u.refused));
        nothing_else = inl status;
      }
  told_as d done false is =
      let status : d.status ≡ 1 = done.answer.status ∙ ap (λ (y : Bool). if y then 0 else 1) is in
      let says : RecheckSaysNo words files = record {
        doc = done.doc;
        net = done.net;
        input = done.input;
        held = done.held;
        classes = done.classes;
        meets_not = λ meets. false≢true (sym is ∙ yes_if done.net done.valid done.doc.policies done.answer.rechecked (rights d done) meets);
      } in
      record {
        yes_exactly = (λ e. absurd (omega (arith, status, e)), λ yes'. absurd (yes_or_no yes' says));
        no_exactly = (λ e. says, λ s. status);
        refused_exactly = (λ e. absurd (omega (arith, status, e)), λ u. absurd (held_or_refused done.doc done.net done.input done.held done.classes u.refusal u.refused));
        nothing_else = inr (inl status);
      }

  pub told_done : (d : Done) → IsRecheckAnswer words files d → TellsRecheck words d.status files
  told_done d done = told_as d done (list_all yes done.answer.rechecked) refl

  pub told_refused : (r : FileRefusal) → IsRecheckRefusal words files r → TellsRecheck words 5 files
  told_refused r refused = record {
    yes_exactly = (λ e. absurd (omega (arith, e)), λ yes'. absurd (held_or_refused yes'.doc yes'.net yes'.input yes'.held yes'.classes r refused));
    no_exactly = (λ e. absurd (omega (arith, e)), λ no'. absurd (held_or_refused no'.doc no'.net no'.input no'.held no'.classes r refused));
    refused_exactly = (λ e. record { refusal = r; refused = refused }, λ u. refl);
    nothing_else = inr (inr refl);
  }

pub recheck_told : (words : RecheckWords) → IsTold (IsRecheckRefusal words) (IsRecheckAnswer words) (λ status before after. TellsRecheck words status before)
recheck_told words = record { answered = told_done words; refused = told_refused words }

-- The answer of `generate`: what its lines say, and that its claim is whole.
use Rattle.std.proofs.Common.{◌≡◌, ◌⊎◌, ℕ, ◌+◌, inl, inr, Bool, true, false, cond, List, [], ◌∷◌, ◌++◌, length, ◌≤◌, refl, sym, ap, subst, arith}
use Rattle.std.specs.Prelude.{codes, Option, Some, None, IfSome, Result, Ok, Err}
use Rattle.std.specs.List.{AllZip}
use Rattle.std.proofs.lemmas.List.Sums.{sum_by-cons}
use Rattle.arc_outside.specs.Files.{Files}
use Rattle.net_model.specs.declared.policies.Document.{Document}
use Rattle.net_model.specs.declared.policies.Policy.{Policy}
use Rattle.net_model.specs.declared.rows.Network.{Network}
use Rattle.net_model.specs.declared.verdicts.Verdict.{Verdict}
use Rattle.net_model.specs.Validity.{IsValid}
use Rattle.net_model.specs.Witnesses.{IsRight}
use Rattle.net_laws.specs.Laws.{HasOnePairOfEnds, RightVerdictsAreTrue, RightVerdictsDecide}
use Rattle.edit_list.specs.declared.claims.Claim.TheVariants.{Repaired, NoRepair}
use Rattle.edit_list.specs.declared.edit_kinds.Edit.{Edit}
use Rattle.edit_list.specs.declared.edit_kinds.EditFault.{EditFault}
use Rattle.edit_list.specs.Determined.{AfterIsValid, IsCountable}
use Rattle.edit_list.specs.EditLists.{DocumentHasFewClasses}
use Rattle.edit_list.specs.Prices.{chosen_of}
use Rattle.traffic_classes.proofs.EachPolicy.{no_more}
use Rattle.traffic_classes.proofs.Unions.{have_one_list}
use Rattle.arc_repair.specs.declared.answer.Answer.{Answer}
use Rattle.arc_repair.specs.declared.answer.Answer.TheVariants.{Done as Claimed, Budget}
use Rattle.arc_repair.specs.Answers.{IsRepairAnswer, IsRepairFault}
use Rattle.arc_repair.specs.Claims.{IsRightYes}
use Rattle.verdicts.specs.Judged.{HasFewClassesEach}
use Rattle.command_words.specs.declared.commands.GenerateWords.{GenerateWords}
use Rattle.run_files.specs.declared.outcome.Done.{Done}
use Rattle.run_files.specs.declared.outcome.Stop.{Stop}
use Rattle.run_files.specs.declared.outcome.Stop.TheVariants as stops
use Rattle.run_files.specs.Answers.{Answers, Gives}
use Rattle.run_files.specs.Limits.{proof_limit}
use Rattle.file_copies.specs.Outputs.{wrote_lines}
use Rattle.file_copies.specs.Changes.{IsEditable}
use Rattle.net_build.specs.declared.built.Built.{Built}
use Rattle.net_gen.specs.declared.generating.Generated.{Generated}
use Rattle.repair_commands.specs.Repairs.{IsAnswered}
use Rattle.run_inputs.specs.Counts.{StopsFor}
use Rattle.run_inputs.proofs.EditFaults.{limit_refused}
use Rattle.generate_commands.specs.Generates.{IsGenerateRefusal, IsMadeNetwork, IsSummary, TellsAnswer, WritesOne, certificate_of, default_bound, default_conflicts, document_name, status_of}
use Rattle.generate_commands.specs.Summaries.{answer_lines, flags_set, made_line, repair_line, tally_line}
use Rattle.generate_commands.specs.Tallies.{IsTally, tally_of}
use Rattle.generate_commands.proofs.Tallied.{tallied}

-- ---- the chosen edits, counted

flag_more : (flag : Bool) (flags : List Bool) → flags_set (flag ∷ flags) ≡ cond flag 1 0 + flags_set flags
flag_more flag flags = sum_by-cons (λ f. cond f 1 0) flag flags

chosen_length : (list : List Edit) (flags : List Bool) → length flags ≡ length list → flags_set flags ≡ length (chosen_of list flags)
chosen_length [] [] same = refl
chosen_length [] (flag ∷ flags) same = absurd (omega (arith, same))
chosen_length (edit ∷ list) [] same = absurd (omega (arith, same))
chosen_length (edit ∷ list) (true ∷ flags) same = omega (arith, flag_more true flags, chosen_length list flags (omega (arith, same)))
chosen_length (edit ∷ list) (false ∷ flags) same = omega (arith, flag_more false flags, chosen_length list flags (omega (arith, same)))

-- ---- right yes answers are right verdicts

rights : (net : Network) (policies : List Policy) (verdicts : List Verdict) → AllZip (IsRightYes net) policies verdicts → AllZip (IsRight net) policies verdicts
rights net [] [] h = tt
rights net [] (v ∷ vs) h = absurd h
rights net (p ∷ ps) [] h = absurd h
rights net (p ∷ ps) (v ∷ vs) h = (h.0.right, rights net ps vs h.1)

-- ---- what its lines say

module _ (ends : (net : Network) → IsValid net → HasOnePairOfEnds net) (are_true : (net : Network) → IsValid net → RightVerdictsAreTrue net)
    (decide : (net : Network) → IsValid net → RightVerdictsDecide net) where
  pub tally_is : (net : Network) → IsValid net → (policies : List Policy) (verdicts : List Verdict) → AllZip (IsRight net) policies verdicts → IsTally net policies (tally_of verdicts)
  tally_is net valid = tallied net (decide net valid) (are_true net valid) (ends net valid)

  pub tells : AfterIsValid → (net : Network) (doc : Document) (list : List Edit) (answer : Answer) → IsValid net → IsCountable net
      → IsRepairAnswer net doc list default_bound default_conflicts answer → TellsAnswer net doc list answer (answer_lines answer)
  tells stays net doc list (Claimed (Repaired price bound flags verdicts) log) valid countable is =
      let right = is.is_true.right in
      record {
        after = right.after;
        is_after = right.is_after;
        tally = tally_of verdicts;
        is_tally = tally_is right.after (stays net valid countable (chosen_of list flags) right.after right.is_after) doc.policies verdicts
            (rights right.after doc.policies verdicts right.judged);
        lines_are = ap (λ (n : ℕ). repair_line price n ++ tally_line (codes "after") (tally_of verdicts)) (chosen_length list flags right.one_each);
      }
  tells stays net doc list (Claimed (NoRepair bound) log) valid countable is = refl
  tells stays net doc list (Budget log) valid countable is = refl

-- ---- as the answer of a command over a store

status_small : (answer : Answer) → (status_of answer ≡ 0) ⊎ ((status_of answer ≡ 2) ⊎ (status_of answer ≡ 3))
status_small (Claimed (Repaired price bound flags verdicts) log) = inl refl
status_small (Claimed (NoRepair bound) log) = inr (inl refl)
status_small (Budget log) = inr (inr refl)

own : (words : GenerateWords) (done : Done) → IsSummary words done → WritesOne words done
own words done summary = record {
  status = subst (λ n. (n ≡ 0) ⊎ ((n ≡ 2) ⊎ (n ≡ 3))) (sym summary.status) (status_small summary.answer);
  certificate = certificate_of summary.built.net summary.made.doc summary.list summary.answer;
  writes = summary.writes;
}

whatever : {A : Type 0} (held : Option Files) → A → IfSome held (λ files. A)
whatever None a = tt
whatever (Some files) a = a

pub answers : (words : GenerateWords) (held : Option Files) (result : Result Done Stop) → Gives (IsGenerateRefusal words) (IsSummary words) result
    → Answers (WritesOne words) (λ files. IsGenerateRefusal words) (λ files. IsSummary words) held result
answers words held (Ok done) is = (own words done is, whatever held is)
answers words held (Err (stops.Refused r)) is = whatever held is
answers words held (Err stops.Memory) is = tt
answers words held (Err stops.Failed) is = tt

-- ---- few classes

-- if the document has few classes, each policy has few
pub few_each : (net : Network) (doc : Document) → DocumentHasFewClasses net doc → HasFewClassesEach net doc.policies
few_each net doc few policy one classes are =
    let all = (have_one_list net doc.policies doc.policies).0 in
    omega (arith, no_more net doc.policies policy classes all.0 one are all.1, few all.0 all.1)

-- ---- the answer

module _ (ends : (net : Network) → IsValid net → HasOnePairOfEnds net) (are_true : (net : Network) → IsValid net → RightVerdictsAreTrue net)
    (decide : (net : Network) → IsValid net → RightVerdictsDecide net) (stays : AfterIsValid) where
  pub summed : (words : GenerateWords) (made : Generated) (built : Built) (list : List Edit) (answer : Answer) (verdicts : List Verdict) (done : Done) → IsMadeNetwork words made built
      → IsEditable made.doc built made.files → IsAnswered default_bound default_conflicts built.net made.doc list answer → AllZip (IsRight built.net) made.doc.policies verdicts
      → done.writes ≡ (words.proof, certificate_of built.net made.doc list answer) ∷ [] → length (certificate_of built.net made.doc list answer) ≤ proof_limit
      → done.text ≡ (made_line words.number ++ (tally_line (codes "verdicts") (tally_of verdicts) ++ answer_lines answer)) ++ wrote_lines done.writes
      → done.status ≡ status_of answer → IsSummary words done
  summed words made built list answer verdicts done is_made editable answered judged writes short text status = record {
    made = made;
    built = built;
    is_made = is_made;
    editable = editable;
    list = list;
    answer = answer;
    answered = answered;
    tally = tally_of verdicts;
    is_tally = tally_is ends are_true decide built.net editable.fit.valid made.doc.policies verdicts judged;
    lines = answer_lines answer;
    tells = tells ends are_true decide stays built.net made.doc list answer editable.fit.valid editable.countable answered.is_answer;
    writes = writes;
    short = short;
    text = text;
    status = status;
  }

-- ---- a count is refused

pub counts_stopped : (words : GenerateWords) (made : Generated) (built : Built) (fault : EditFault) (stop : Stop) → IsMadeNetwork words made built → IsValid built.net
    → IsRepairFault built.net made.doc default_bound fault → StopsFor document_name fault stop → Gives (IsGenerateRefusal words) (IsSummary words) (Err stop)
counts_stopped words made built fault stop is_made valid is_fault is =
    limit_refused (IsRepairFault built.net made.doc default_bound) (IsGenerateRefusal words) (IsSummary words) document_name
    (λ what count passed. record { made = made; built = built; is_made = is_made; valid = valid; what = what; count = count; fault = passed; told = refl }) fault stop is is_fault

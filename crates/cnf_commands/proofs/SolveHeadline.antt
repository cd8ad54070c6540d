-- What the status of `solve` says of the formula and of the proof that was written.
use Rattle.std.proofs.Common.{◌≡◌, ◌∙◌, ℕ, ◌≤◌, inl, inr, Bool, true, false, List, [], ◌∷◌, map, length, Option, Some, None, Ok, refl, sym, ap, subst, arith, rules}
use Rattle.std.specs.Prelude.{unwrap_or, nat_lt}
use Rattle.std.specs.Str.{bytes_eq}
use Rattle.std.proofs.lemmas.Bool.{le-ltb}
use Rattle.std.proofs.lemmas.Slice.Eq.{bytes_eq-Decides}
use Rattle.arc_base.specs.declared.refusal.Kind.TheVariants.{OutputName}
use Rattle.arc_outside.specs.Files.{Files, with_file, with_files}
use Rattle.cnf_types.specs.declared.clauses.Formula.{Formula}
use Rattle.cnf_types.specs.Dimacs.{reading}
use Rattle.cnf_types.specs.Formulas.{Satisfies, value_at}
use Rattle.arc_base.specs.TextLines.{lines}
use Rattle.proof_log.specs.declared.steps.Step.{Step}
use Rattle.proof_log.specs.Reading.{reading as step_reading}
use Rattle.proof_log.specs.Texts.{log_text}
use Rattle.proof_log.proofs.Again.{log_read}
use Rattle.proof_check.specs.Outcomes.{steps_of}
use Rattle.clean_logs.proofs.ShortLogs.{spent_logs_are_short}
use Rattle.sat_search.specs.declared.found.Found.{Found}
use Rattle.sat_search.specs.declared.found.Found.TheVariants.{Model, Refuted, Budget}
use Rattle.command_words.specs.declared.commands.SolveWords.{SolveWords}
use Rattle.run_files.specs.declared.outcome.Done.{Done}
use Rattle.run_files.specs.declared.outcome.FileRefusal.{FileRefusal}
use Rattle.run_files.specs.Answers.{IsTold}
use Rattle.cnf_commands.specs.Formulas.{cnf_limit, cnf_refusal, formula_refusal}
use Rattle.cnf_commands.specs.Solves.{IsSatisfiable, IsUnsatisfiable, IsSolveRefused, HoldsLog, HoldsSpentProof, TellsSolution, SolvedIsRefuted}
use Rattle.cnf_commands.specs.Lrats.{IsRefuted}
use Rattle.cnf_commands.specs.Lrats.{lrat_refusal}
use Rattle.run_files.specs.Limits.{proof_limit}
use Rattle.run_files.specs.Refusals.{bytes_at, read_refusal, refusal_of, refusal_within}
use Rattle.run_files.proofs.OneAnswer.{first_none, refused_none, second_none}
use Rattle.std.specs.Option.{option_or}
use Rattle.cnf_commands.specs.Solves.{found_status, name_refusal, solve_refusal, IsSearchResult, IsSolved, IsSolveRefusal}
use Rattle.cnf_commands.proofs.FormulaVariables.{formula_is_good}
use Rattle.cnf_commands.proofs.Refuting.{one_formula}

-- ---- refusals

apart : (words : SolveWords) (files : Files) → solve_refusal words files ≡ None → bytes_eq words.proof words.formula ≡ false
apart words files held = go (bytes_eq words.proof words.formula) refl (second_none (cnf_refusal words.formula files) (name_refusal words) held)
  where
    go : (b : Bool) → bytes_eq words.proof words.formula ≡ b → name_refusal words ≡ None → bytes_eq words.proof words.formula ≡ false
    go true e none =
        let r : FileRefusal = refusal_of words.formula 0 OutputName in
        let some : name_refusal words ≡ Some r = rw e refl in
        absurd (refused_none (name_refusal words) r none some)
    go false e none = e

-- ---- the files after the proof was written

written : (files : Files) (name bytes : List ℕ) → with_file files name bytes name ≡ Some bytes
written files name bytes = rw ((bytes_eq-Decides name name).1 refl) refl

kept : (files : Files) (name other bytes : List ℕ) → bytes_eq name other ≡ false → with_file files name bytes other ≡ files other
kept files name other bytes e = rw e refl

differ : (name other : List ℕ) → ¬ (other ≡ name) → bytes_eq name other ≡ false
differ name other apart_are =
    let never : name ≡ other → ⊥ = λ e. apart_are (sym e) in
    search (rules, bytes_eq-Decides, never)

same_refusal : (cnf : List ℕ) (before after : Files) → after cnf ≡ before cnf → cnf_refusal cnf after ≡ cnf_refusal cnf before
same_refusal cnf before after same = ap (λ (o : Option (List ℕ)). option_or (refusal_within cnf_limit cnf o) (formula_refusal cnf (reading (unwrap_or o [])))) same

short_enough : (name text : List ℕ) → length text ≤ proof_limit → refusal_within proof_limit name (Some text) ≡ None
short_enough name text short =
    let fits : nat_lt proof_limit (length text) ≡ false = le-ltb proof_limit (length text) short in
    rw fits refl

steps_read : (ls : List (List ℕ)) (steps : List Step) → map step_reading ls ≡ map (λ s. Ok (Some s)) steps → steps_of ls ≡ Some steps
steps_read [] [] e = refl
steps_read [] (s ∷ steps) e = absurd (cc)
steps_read (l ∷ ls) [] e = absurd (cc)
steps_read (l ∷ ls) (s ∷ steps) e =
    let here : step_reading l ≡ Ok (Some s) = cc in
    let later : map step_reading ls ≡ map (λ s. Ok (Some s)) steps = cc in
    rw (here, steps_read ls steps later) refl

-- what an answer of `solve` leaves
module _ (words : SolveWords) (files : Files) (d : Done) (done : IsSolved words files d) where
  after : Files
  after = with_files d.writes files

  after_is : after ≡ with_file files words.proof (log_text done.log)
  unfolding after
  after_is = ap (λ (writes : List (List ℕ × List ℕ)). with_files writes files) done.writes

  formula_kept : after words.formula ≡ files words.formula
  formula_kept = ap (λ (f : Files). f words.formula) after_is ∙ kept files words.proof words.formula (log_text done.log) (apart words files done.held)

  proof_written : after words.proof ≡ Some (log_text done.log)
  proof_written = ap (λ (f : Files). f words.proof) after_is ∙ written files words.proof (log_text done.log)

  others_kept : (name : List ℕ) → ¬ (name ≡ words.proof) → with_files d.writes files name ≡ files name
  unfolding after
  others_kept name other = ap (λ (f : Files). f name) after_is ∙ kept files words.proof name (log_text done.log) (differ words.proof name other)

  formula_after : reading (bytes_at after words.formula) ≡ Ok done.formula
  formula_after = ap (λ (o : Option (List ℕ)). reading (unwrap_or o [])) formula_kept ∙ done.formula_is

  log_held : HoldsLog words files (with_files d.writes files)
  unfolding after
  log_held = record { formula = done.formula; formula_is = done.formula_is; log = done.log; log_is = done.log_is; few = done.few; written = proof_written }

  proof_bytes : bytes_at after words.proof ≡ log_text done.log
  proof_bytes = ap (λ (o : Option (List ℕ)). unwrap_or o []) proof_written

  steps_after : steps_of (lines (bytes_at after words.proof)) ≡ Some done.log.steps
  steps_after = ap (λ (text : List ℕ). steps_of (lines text)) proof_bytes ∙ steps_read (lines (log_text done.log)) done.log.steps (log_read done.log done.log_is.has_lines)

  held_after : lrat_refusal words.formula words.proof after ≡ None
  unfolding lrat_refusal
  held_after =
      let formula = same_refusal words.formula files after formula_kept ∙ first_none (cnf_refusal words.formula files) (name_refusal words) done.held in
      let proof = ap (refusal_within proof_limit words.proof) proof_written ∙ short_enough words.proof (log_text done.log) done.short in
      ap (λ (o : Option FileRefusal). option_or o (read_refusal proof_limit after words.proof)) formula ∙ proof

  found_is : (found : Found) → done.found ≡ found → IsSearchResult done.formula words.conflicts done.log found
  found_is found is = subst (IsSearchResult done.formula words.conflicts done.log) is done.is_found

  refuted : done.found ≡ Refuted → IsRefuted words.formula words.proof (with_files d.writes files)
  unfolding after
  refuted is =
      let found = found_is Refuted is in
      record {
        held = held_after;
        formula = done.formula;
        formula_is = formula_after;
        refutes = rw steps_after (done.log_is.accepted, found.0);
        unsatisfiable = found.1;
      }

  spent : done.found ≡ Budget → HoldsSpentProof words (with_files d.writes files)
  unfolding after
  spent is =
      let found = found_is Budget is in
      let good = formula_is_good (bytes_at files words.formula) done.formula done.formula_is in
      record {
        formula = done.formula;
        formula_is = formula_after;
        steps = done.log.steps;
        steps_are = steps_after;
        spent = found;
        variables = λ few. spent_logs_are_short done.formula good.0 few words.conflicts done.log.steps found;
      }

  not_refused : IsSolveRefused words files → ⊥
  not_refused r = refused_none (solve_refusal words files) r.refusal done.held r.refused

  both : IsSatisfiable words files → IsUnsatisfiable words files → ⊥
  both yes' no' =
      let same : yes'.formula ≡ no'.formula = one_formula (bytes_at files words.formula) yes'.formula no'.formula yes'.formula_is no'.formula_is in
      no'.unsatisfiable yes'.assignment (subst (λ (f : Formula). Satisfies yes'.assignment f) same yes'.satisfies)

  tells : (found : Found) → done.found ≡ found → TellsSolution words d.status files (with_files d.writes files)
  tells (Model values) is =
      let zero' : d.status ≡ 0 = done.status ∙ ap found_status is in
      let model = found_is (Model values) is in
      let says : IsSatisfiable words files = record { held = done.held; formula = done.formula; formula_is = done.formula_is; assignment = value_at values; satisfies = model.0.satisfies } in
      record {
        satisfiable = λ e. says;
        unsatisfiable = λ e. absurd (omega (arith, zero', e));
        undecided = λ e. absurd (omega (arith, zero', e));
        written = λ e. log_held;
        kept = others_kept;
        refused_exactly = (λ e. absurd (omega (arith, zero', e)), λ r. absurd (not_refused r));
        nothing_written = λ e. absurd (omega (arith, zero', e));
        zero_or_three = λ s. inl zero';
        two_or_three = λ s. absurd (both says s);
        nothing_else = inl zero';
      }
  tells Refuted is =
      let two : d.status ≡ 2 = done.status ∙ ap found_status is in
      let found = found_is Refuted is in
      let says : IsUnsatisfiable words files = record { held = done.held; formula = done.formula; formula_is = done.formula_is; unsatisfiable = found.1 } in
      record {
        satisfiable = λ e. absurd (omega (arith, two, e));
        unsatisfiable = λ e. (says, refuted is);
        undecided = λ e. absurd (omega (arith, two, e));
        written = λ e. log_held;
        kept = others_kept;
        refused_exactly = (λ e. absurd (omega (arith, two, e)), λ r. absurd (not_refused r));
        nothing_written = λ e. absurd (omega (arith, two, e));
        zero_or_three = λ s. absurd (both s says);
        two_or_three = λ s. inl two;
        nothing_else = inr (inl two);
      }
  tells Budget is =
      let three : d.status ≡ 3 = done.status ∙ ap found_status is in
      record {
        satisfiable = λ e. absurd (omega (arith, three, e));
        unsatisfiable = λ e. absurd (omega (arith, three, e));
        undecided = λ e. spent is;
        written = λ e. log_held;
        kept = others_kept;
        refused_exactly = (λ e. absurd (omega (arith, three, e)), λ r. absurd (not_refused r));
        nothing_written = λ e. absurd (omega (arith, three, e));
        zero_or_three = λ s. inr three;
        two_or_three = λ s. inr three;
        nothing_else = inr (inr (inl three));
      }

  found_of_two : (found : Found) → done.found ≡ found → d.status ≡ 2 → done.found ≡ Refuted
  found_of_two (Model values) is e = absurd (omega (arith, done.status ∙ ap found_status is, e))
  found_of_two Refuted is e = is
  found_of_two Budget is e = absurd (omega (arith, done.status ∙ ap found_status is, e))

pub solved_is_refuted : SolvedIsRefuted
solved_is_refuted words files d done two = refuted words files d done (found_of_two words files d done done.found refl two)

-- ---- the run

told_refused : (words : SolveWords) (files : Files) (r : FileRefusal) → solve_refusal words files ≡ Some r → TellsSolution words 5 files files
told_refused words files r refused = record {
  satisfiable = λ e. absurd (omega arith);
  unsatisfiable = λ e. absurd (omega arith);
  undecided = λ e. absurd (omega arith);
  written = λ other. absurd (other refl);
  kept = λ name other. refl;
  refused_exactly = (λ e. record { refusal = r; refused = refused }, λ s. refl);
  nothing_written = λ e. refl;
  zero_or_three = λ s. absurd (refused_none (solve_refusal words files) r s.held refused);
  two_or_three = λ s. absurd (refused_none (solve_refusal words files) r s.held refused);
  nothing_else = inr (inr (inr refl));
}

pub solve_told : (words : SolveWords) → IsTold (IsSolveRefusal words) (IsSolved words) (TellsSolution words)
solve_told words = record {
  answered = λ files d done. tells words files d done done.found refl;
  refused = told_refused words;
}

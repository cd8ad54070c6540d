-- The judgement of a proof, and what its status says.
use Rattle.std.proofs.Common.{◌≡◌, ℕ, inl, inr, List, refl, sym, ◌∙◌, ap, subst, arith}
use Rattle.std.specs.Prelude.{[], Option, Some, None, IfSome, Result, Ok, Err, IsOkAnd}
use Rattle.arc_outside.specs.Files.{Files}
use Rattle.cnf_types.specs.declared.clauses.Formula.{Formula}
use Rattle.cnf_types.specs.declared.faults.CnfFault.{CnfFault}
use Rattle.cnf_types.specs.Dimacs.{reading}
use Rattle.arc_base.specs.TextLines.{lines}
use Rattle.proof_check.specs.declared.checker.Checker.{Checker}
use Rattle.proof_check.specs.Knowledge.{Knowledge, start}
use Rattle.proof_check.specs.View.{known}
use Rattle.proof_check.specs.declared.rejections.Outcome.{Outcome as Judgement}
use Rattle.proof_check.specs.declared.rejections.Outcome.TheVariants.{Accepted, Rejected}
use Rattle.proof_check.specs.Outcomes.{log_outcome, IsRefutation}
use Rattle.proof_check.proofs.Verdicts.{accepted_where, accepted_sound}
use Rattle.run_files.specs.declared.outcome.Done.{Done}
use Rattle.run_files.specs.declared.outcome.FileRefusal.{FileRefusal}
use Rattle.run_files.specs.declared.outcome.Stop.{Stop}
use Rattle.run_files.specs.declared.outcome.Stop.TheVariants as stops
use Rattle.cnf_commands.specs.Formulas.{cnf_refusal, MakesChecker}
use Rattle.run_files.specs.Answers.{Answers, IsJudging, IsTold}
use Rattle.run_files.specs.Judgements.{judgement_status, judgement_text}
use Rattle.cnf_commands.specs.Lrats.{judgement_of, lrat_refusal, IsJudged, IsLratRefusal, IsLratRefused, IsNotRefuted, IsRefuted, TellsRefutation}
use Rattle.run_files.specs.ReadingLines.{IsWithinLimit}
use Rattle.cnf_commands.specs.ProofLines.{JudgesProof}
use Rattle.run_files.specs.Limits.{proof_limit}
use Rattle.run_files.specs.Refusals.{bytes_at, read_refusal}
use Rattle.run_files.proofs.OneAnswer.{refused_none}
use Rattle.std.specs.Option.{option_or}

-- the refusal of the formula comes first
first_of : (cnf proof : List ℕ) (files : Files) (r : FileRefusal) → cnf_refusal cnf files ≡ Some r → lrat_refusal cnf proof files ≡ Some r
unfolding lrat_refusal
first_of cnf proof files r e = ap (λ (o : Option FileRefusal). option_or o (read_refusal proof_limit files proof)) e

-- the refusal of the proof comes if the formula is not refused
then_of : (cnf proof : List ℕ) (files : Files) (o : Option FileRefusal) → cnf_refusal cnf files ≡ None → read_refusal proof_limit files proof ≡ o → lrat_refusal cnf proof files ≡ o
unfolding lrat_refusal
then_of cnf proof files o none e = ap (λ (u : Option FileRefusal). option_or u (read_refusal proof_limit files proof)) none ∙ e

pub formula_stopped : (held : Option Files) (cnf proof : List ℕ) (stop : Stop) → IfSome held (λ files. MakesChecker cnf files (Err stop)) →
    Answers IsJudging (IsLratRefusal cnf proof) (IsJudged cnf proof) held (Err stop)
formula_stopped None cnf proof (stops.Refused r) told = tt
formula_stopped None cnf proof stops.Memory told = tt
formula_stopped None cnf proof stops.Failed told = tt
formula_stopped (Some files) cnf proof (stops.Refused r) told = first_of cnf proof files r told
formula_stopped (Some files) cnf proof stops.Memory told = tt
formula_stopped (Some files) cnf proof stops.Failed told = tt

proof_stopped_here : (held : Option Files) (cnf proof : List ℕ) (checker : Checker) (stop : Stop) → IfSome held (λ files. MakesChecker cnf files (Ok checker)) →
    IfSome held (λ files. IsWithinLimit proof_limit files proof (Err stop)) → Answers IsJudging (IsLratRefusal cnf proof) (IsJudged cnf proof) held (Err stop)
proof_stopped_here None cnf proof checker (stops.Refused r) formula told = tt
proof_stopped_here None cnf proof checker stops.Memory formula told = tt
proof_stopped_here None cnf proof checker stops.Failed formula told = tt
proof_stopped_here (Some files) cnf proof checker (stops.Refused r) formula told = then_of cnf proof files (Some r) formula.0 told
proof_stopped_here (Some files) cnf proof checker stops.Memory formula told = tt
proof_stopped_here (Some files) cnf proof checker stops.Failed formula told = tt

pub proof_stopped : (held now : Option Files) → now ≡ held → (cnf proof : List ℕ) (checker : Checker) (stop : Stop) →
    IfSome held (λ files. MakesChecker cnf files (Ok checker)) → IfSome now (λ files. IsWithinLimit proof_limit files proof (Err stop)) →
    Answers IsJudging (IsLratRefusal cnf proof) (IsJudged cnf proof) held (Err stop)
proof_stopped held now same cnf proof checker stop formula told =
    let P : Option Files → Type 0 = λ o. IfSome o (λ files. IsWithinLimit proof_limit files proof (Err stop)) in
    proof_stopped_here held cnf proof checker stop formula (subst P same told)

-- the formula that a checker knows
known_formula : (r : Result Formula CnfFault) (k : Knowledge) → IsOkAnd r (λ f. k ≡ start f None []) → (f : Formula) × (r ≡ Ok f) × (k ≡ start f None [])
known_formula (Ok f) k is = (f, refl, is)
known_formula (Err fault) k is = absurd is

judged_here : (held : Option Files) (cnf proof : List ℕ) (checker : Checker) (judgement : Judgement) (done : Done) →
    IfSome held (λ files. MakesChecker cnf files (Ok checker)) → IfSome held (λ files. IsWithinLimit proof_limit files proof (Ok tt)) →
    IfSome held (λ files. JudgesProof proof_limit files proof (known checker) (Ok judgement)) → done.text ≡ judgement_text (judgement_of judgement) →
    done.status ≡ judgement_status (judgement_of judgement) → IsJudging done → Answers IsJudging (IsLratRefusal cnf proof) (IsJudged cnf proof) held (Ok done)
judged_here None cnf proof checker judgement done formula tried judged text status own = (own, tt)
judged_here (Some files) cnf proof checker judgement done formula tried judged text status own =
    let read = known_formula (reading (bytes_at files cnf)) (known checker) formula.1 in
    let f : Formula = read.0 in
    let judges : judgement ≡ log_outcome (start f None []) 1 (lines (bytes_at files proof)) = judged ∙ ap (λ (k : Knowledge). log_outcome k 1 (lines (bytes_at files proof))) read.2 in (
      own,
      record {
        held = then_of cnf proof files None formula.0 tried;
        formula = f;
        formula_is = read.1;
        outcome = judgement;
        outcome_is = judges;
        accepted = accepted_where f (bytes_at files proof) judgement judges;
        sound = accepted_sound f (bytes_at files proof) judgement judges;
        text = text;
        writes = own.writes;
        status = status;
      },
    )

pub judged : (held now later : Option Files) → now ≡ held → later ≡ now → (cnf proof : List ℕ) (checker : Checker) (judgement : Judgement) (done : Done) →
    IfSome held (λ files. MakesChecker cnf files (Ok checker)) → IfSome now (λ files. IsWithinLimit proof_limit files proof (Ok tt)) →
    IfSome later (λ files. JudgesProof proof_limit files proof (known checker) (Ok judgement)) → done.text ≡ judgement_text (judgement_of judgement) →
    done.status ≡ judgement_status (judgement_of judgement) → IsJudging done → Answers IsJudging (IsLratRefusal cnf proof) (IsJudged cnf proof) held (Ok done)
judged held now later same still cnf proof checker judgement done formula tried told =
    let P : Option Files → Type 0 = λ o. IfSome o (λ files. IsWithinLimit proof_limit files proof (Ok tt)) in
    let Q : Option Files → Type 0 = λ o. IfSome o (λ files. JudgesProof proof_limit files proof (known checker) (Ok judgement)) in
    judged_here held cnf proof checker judgement done formula (subst P same tried) (subst Q (still ∙ same) told)

-- what each status says
pub one_formula : (text : List ℕ) (f g : Formula) → reading text ≡ Ok f → reading text ≡ Ok g → f ≡ g
one_formula text f g e h = cc

refuted_or_not : (cnf proof : List ℕ) (files : Files) → IsRefuted cnf proof files → IsNotRefuted cnf proof files → ⊥
refuted_or_not cnf proof files yes' no' =
    let same : yes'.formula ≡ no'.formula = one_formula (bytes_at files cnf) yes'.formula no'.formula yes'.formula_is no'.formula_is in
    let P : Formula → Type 0 = λ f. IsRefutation f (bytes_at files proof) in
    no'.refutes_not (subst P same yes'.refutes)

told_done : (cnf proof : List ℕ) (files : Files) (d : Done) → (done : IsJudged cnf proof files d) → (o : Judgement) → done.outcome ≡ o → TellsRefutation cnf proof d.status files
told_done cnf proof files d done Accepted is =
    let zero' : d.status ≡ 0 = done.status ∙ ap (λ (o : Judgement). judgement_status (judgement_of o)) is in
    let says : IsRefuted cnf proof files = record { held = done.held; formula = done.formula; formula_is = done.formula_is; refutes = done.accepted.0 is; unsatisfiable = done.sound is } in
    record {
      accepted_exactly = (λ e. says, λ s. zero');
      rejected_exactly = (λ e. absurd (omega (arith, zero', e)), λ no'. absurd (refuted_or_not cnf proof files says no'));
      refused_exactly = (λ e. absurd (omega (arith, zero', e)), λ r. absurd (refused_none (lrat_refusal cnf proof files) r.refusal done.held r.refused));
      nothing_else = inl zero';
    }
told_done cnf proof files d done (Rejected line rejection) is =
    let one : d.status ≡ 1 = done.status ∙ ap (λ (o : Judgement). judgement_status (judgement_of o)) is in
    let rejected : done.outcome ≡ Accepted → ⊥ = λ e. absurd (not_both (sym is ∙ e)) in
    let says : IsNotRefuted cnf proof files = record { held = done.held; formula = done.formula; formula_is = done.formula_is; refutes_not = λ refutes. rejected (done.accepted.1 refutes) } in
    record {
      accepted_exactly = (λ e. absurd (omega (arith, one, e)), λ yes'. absurd (refuted_or_not cnf proof files yes' says));
      rejected_exactly = (λ e. says, λ s. one);
      refused_exactly = (λ e. absurd (omega (arith, one, e)), λ r. absurd (refused_none (lrat_refusal cnf proof files) r.refusal done.held r.refused));
      nothing_else = inr (inl one);
    }
  where
    not_both : Rejected line rejection ≡ Accepted → ⊥
    not_both e = cc

told_refused : (cnf proof : List ℕ) (files : Files) (r : FileRefusal) → lrat_refusal cnf proof files ≡ Some r → TellsRefutation cnf proof 5 files
told_refused cnf proof files r refused =
    let says : IsLratRefused cnf proof files = record { refusal = r; refused = refused } in
    record {
      accepted_exactly = (λ e. absurd (omega arith), λ yes'. absurd (refused_none (lrat_refusal cnf proof files) r yes'.held refused));
      rejected_exactly = (λ e. absurd (omega arith), λ no'. absurd (refused_none (lrat_refusal cnf proof files) r no'.held refused));
      refused_exactly = (λ e. says, λ s. refl);
      nothing_else = inr (inr refl);
    }

pub lrat_told : (cnf proof : List ℕ) → IsTold (IsLratRefusal cnf proof) (IsJudged cnf proof) (λ status before after. TellsRefutation cnf proof status before)
lrat_told cnf proof = record {
  answered = λ files d done. told_done cnf proof files d done done.outcome refl;
  refused = told_refused cnf proof;
}

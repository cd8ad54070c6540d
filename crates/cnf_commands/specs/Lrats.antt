-- The command `lrat CNF PROOF`.
use Rattle.std.specs.Prelude.{◌≡◌, ◌↔◌, ◌⊎◌, ℕ, Bool, List, [], Option, Some, None, Ok}
use Rattle.arc_base.specs.declared.certificate.CertKind.{CertKind}
use Rattle.arc_base.specs.declared.certificate.CertKind.TheVariants as kinds
use Rattle.arc_outside.specs.Files.{Files}
use Rattle.cnf_types.specs.declared.clauses.Formula.{Formula}
use Rattle.cnf_types.specs.Dimacs.{reading}
use Rattle.cnf_types.specs.Formulas.{Satisfies}
use Rattle.arc_base.specs.TextLines.{lines}
use Rattle.proof_check.specs.declared.rejections.Rejection.{Rejection}
use Rattle.proof_check.specs.declared.rejections.Rejection.TheVariants as rejections
use Rattle.proof_check.specs.declared.rejections.Outcome.{Outcome}
use Rattle.proof_check.specs.declared.rejections.Outcome.TheVariants.{Accepted, Rejected}
use Rattle.proof_check.specs.Knowledge.{start}
use Rattle.proof_check.specs.Outcomes.{log_outcome, IsRefutation, fault_kind}
use Rattle.run_files.specs.declared.judgements.Judgement.{Judgement}
use Rattle.run_files.specs.declared.judgements.Judgement.TheVariants as judgements
use Rattle.run_files.specs.declared.outcome.Done.{Done}
use Rattle.run_files.specs.declared.outcome.FileRefusal.{FileRefusal}
use Rattle.run_files.specs.Limits.{proof_limit}
use Rattle.run_files.specs.Refusals.{bytes_at, read_refusal}
use Rattle.std.specs.Option.{option_or}
use Rattle.cnf_commands.specs.Formulas.{cnf_refusal}
use Rattle.run_files.specs.Judgements.{judgement_status, judgement_text}

-- the first refusal: that of the formula's file, and then that of the proof's file
unfoldable pub lrat_refusal : List ℕ → List ℕ → Files → Option FileRefusal
lrat_refusal cnf proof files =
    option_or (cnf_refusal cnf files) (read_refusal proof_limit files proof)

-- this is the first refusal of the formula or the proof
abbrev pub IsLratRefusal : List ℕ → List ℕ → Files → FileRefusal → Type 0
IsLratRefusal cnf proof files r = lrat_refusal cnf proof files ≡ Some r

-- the kind of reason for which a line is rejected
abbrev pub rejection_kind : Rejection → CertKind
rejection_kind rejections.Form = kinds.Form
rejection_kind (rejections.Fault fault) = fault_kind fault
rejection_kind rejections.NotRefuted = kinds.NotRefuted

-- the judgement that is printed for an outcome
abbrev pub judgement_of : Outcome → Judgement
judgement_of Accepted = judgements.Accepted
judgement_of (Rejected line rejection) = judgements.Rejected line (rejection_kind rejection)

-- The judgement of the proof: the first line that is rejected, or that it is accepted. It is
-- accepted exactly if it is an accepted log that adds the empty clause, and then no assignment
-- satisfies the formula.
pub record IsJudged (cnf proof : List ℕ) (files : Files) (done : Done) : Type 0 where
  pub held : lrat_refusal cnf proof files ≡ None
  pub formula : Formula
  pub formula_is : reading (bytes_at files cnf) ≡ Ok formula
  pub outcome : Outcome
  pub outcome_is : outcome ≡ log_outcome (start formula None []) 1 (lines (bytes_at files proof))
  pub accepted : (outcome ≡ Accepted) ↔ IsRefutation formula (bytes_at files proof)
  pub sound : outcome ≡ Accepted → (assignment : ℕ → Bool) → Satisfies assignment formula → ⊥
  pub text : done.text ≡ judgement_text (judgement_of outcome)
  pub writes : done.writes ≡ []
  pub status : done.status ≡ judgement_status (judgement_of outcome)

-- the formula and the proof are held, and the proof is an accepted log for the formula that adds
-- the empty clause; so no assignment satisfies the formula
pub record IsRefuted (cnf proof : List ℕ) (files : Files) : Type 0 where
  pub held : lrat_refusal cnf proof files ≡ None
  pub formula : Formula
  pub formula_is : reading (bytes_at files cnf) ≡ Ok formula
  pub refutes : IsRefutation formula (bytes_at files proof)
  pub unsatisfiable : (assignment : ℕ → Bool) → Satisfies assignment formula → ⊥

-- the formula and the proof are held, and the proof is no such log
pub record IsNotRefuted (cnf proof : List ℕ) (files : Files) : Type 0 where
  pub held : lrat_refusal cnf proof files ≡ None
  pub formula : Formula
  pub formula_is : reading (bytes_at files cnf) ≡ Ok formula
  pub refutes_not : ¬ IsRefutation formula (bytes_at files proof)

-- the formula or the proof is refused
pub record IsLratRefused (cnf proof : List ℕ) (files : Files) : Type 0 where
  pub refusal : FileRefusal
  pub refused : lrat_refusal cnf proof files ≡ Some refusal

-- The status says which of the three it is: 0 for accepted, 1 for rejected, and 5 for refused.
pub record TellsRefutation (cnf proof : List ℕ) (status : ℕ) (files : Files) : Type 0 where
  pub accepted_exactly : (status ≡ 0) ↔ IsRefuted cnf proof files
  pub rejected_exactly : (status ≡ 1) ↔ IsNotRefuted cnf proof files
  pub refused_exactly : (status ≡ 5) ↔ IsLratRefused cnf proof files
  pub nothing_else : (status ≡ 0) ⊎ ((status ≡ 1) ⊎ (status ≡ 5))

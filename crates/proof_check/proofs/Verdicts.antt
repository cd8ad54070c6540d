-- A proof is accepted exactly where its lines are an accepted refuting log.
use Rattle.std.proofs.Common.{◌≡◌, ℕ, ◌+◌, Bool, true, false, ◌||◌, cond, List, [], ◌∷◌, refl, ap, sym, ◌∙◌, Option, Some, None, Result, Ok, Err, IsSomeAnd, option_map, ◌↔◌}
use Rattle.std.specs.List.{list_any}
use Rattle.std.proofs.lemmas.Bool.{true≢false}
use Rattle.cnf_types.specs.declared.clauses.Formula.{Formula}
use Rattle.cnf_types.specs.Formulas.{Satisfies}
use Rattle.arc_base.specs.TextLines.{lines}
use Rattle.proof_log.specs.declared.steps.Step.{Step}
use Rattle.proof_log.specs.declared.steps.Step.TheVariants.{Add, Drop, Bound}
use Rattle.proof_log.specs.declared.reading.LineKind.{LineKind}
use Rattle.proof_log.specs.Reading.{reading}
use Rattle.proof_check.specs.declared.faults.StepFault.{StepFault}
use Rattle.proof_check.specs.declared.rejections.Rejection.{Rejection}
use Rattle.proof_check.specs.declared.rejections.Rejection.TheVariants.{Form, Fault, NotRefuted}
use Rattle.proof_check.specs.declared.rejections.Outcome.{Outcome}
use Rattle.proof_check.specs.declared.rejections.Outcome.TheVariants.{Accepted, Rejected}
use Rattle.proof_check.specs.Knowledge.{Knowledge, start, step_fault, after}
use Rattle.proof_check.specs.Logs.{after_all, IsAccepted, IsRefuting, KeepsBounds, adds_empty}
use Rattle.proof_check.specs.Outcomes.{with_line, steps_of, IsRefutation, line_rejection, line_after, rejected_or, log_outcome}
use Rattle.proof_check.proofs.SoundLogs.{sound}

or-false : (b : Bool) → (b || false) ≡ b
or-false true = refl
or-false false = refl

or_assoc : (a b c : Bool) → ((a || b) || c) ≡ (a || (b || c))
or_assoc true b c = refl
or_assoc false b c = refl

refuted_step : (k : Knowledge) (s : Step) → (after k s).refuted ≡ (k.refuted || adds_empty s)
refuted_step k (Add id lits hints) = refl
refuted_step k (Drop ids) = sym (or-false k.refuted)
refuted_step k (Bound id price) = sym (or-false k.refuted)

refuted_more : (k : Knowledge) (s : Step) (b : Bool) → ((after k s).refuted || b) ≡ (k.refuted || (adds_empty s || b))
refuted_more k s b = ap (λ v. v || b) (refuted_step k s) ∙ or_assoc k.refuted (adds_empty s) b

-- the flag says whether some step added the empty clause
pub refuted_all : (k : Knowledge) (steps : List Step) → (after_all k steps).refuted ≡ (k.refuted || list_any adds_empty steps)
refuted_all k [] = sym (or-false k.refuted)
refuted_all k (s ∷ steps) = refuted_all (after k s) steps ∙ refuted_more k s (list_any adds_empty steps)

-- the steps are accepted, and the empty clause was added before or is added by one
abbrev Refutes : Knowledge → List Step → Type 0
Refutes k steps = IsAccepted k steps × ((k.refuted || list_any adds_empty steps) ≡ true)

abbrev Judged : Knowledge → Option (List Step) → Type 0
Judged k o = IsSomeAnd o (Refutes k)

not_accepted : (n : ℕ) (r : Rejection) → Rejected n r ≡ Accepted → ⊥
not_accepted n r e = cc

at_end : (b : Bool) (n : ℕ) → cond b Accepted (Rejected n NotRefuted) ≡ Accepted → (b || false) ≡ true
at_end true n e = refl
at_end false n e = absurd (not_accepted n NotRefuted e)

end_at : (b : Bool) (n : ℕ) → (b || false) ≡ true → cond b Accepted (Rejected n NotRefuted) ≡ Accepted
end_at true n e = refl
end_at false n e = absurd (true≢false (sym e))

judged_more : (k : Knowledge) (s : Step) (o : Option (List Step)) → step_fault k s ≡ None → Judged (after k s) o → Judged k (option_map (λ steps. s ∷ steps) o)
judged_more k s None none h = absurd h
judged_more k s (Some steps) none h = ((none, h.0), sym (refuted_more k s (list_any adds_empty steps)) ∙ h.1)

judged_less : (k : Knowledge) (s : Step) (o : Option (List Step)) → Judged k (option_map (λ steps. s ∷ steps) o) → (step_fault k s ≡ None) × Judged (after k s) o
judged_less k s None h = absurd h
judged_less k s (Some steps) h = ((h.0).0, ((h.0).1, refuted_more k s (list_any adds_empty steps) ∙ h.1))

-- from an accepted text to its steps
to_step : (k : Knowledge) (s : Step) (n : ℕ) (ls : List (List ℕ)) (o : Option StepFault) → step_fault k s ≡ o →
    (log_outcome (after k s) (n + 1) ls ≡ Accepted → Judged (after k s) (steps_of ls)) →
    rejected_or (option_map Fault o) n (log_outcome (after k s) (n + 1) ls) ≡ Accepted → Judged k (option_map (λ steps. s ∷ steps) (steps_of ls))
to_step k s n ls None none rest e = judged_more k s (steps_of ls) none (rest e)
to_step k s n ls (Some fault) some rest e = absurd (not_accepted n (Fault fault) e)

to_line : (r : Result (Option Step) LineKind) (k : Knowledge) (n : ℕ) (ls : List (List ℕ)) →
    ((j : Knowledge) → log_outcome j (n + 1) ls ≡ Accepted → Judged j (steps_of ls)) →
    rejected_or (line_rejection r k) n (log_outcome (line_after r k) (n + 1) ls) ≡ Accepted → Judged k (with_line r (steps_of ls))
to_line (Err kind) k n ls rest e = absurd (not_accepted n Form e)
to_line (Ok None) k n ls rest e = rest k e
to_line (Ok (Some s)) k n ls rest e = to_step k s n ls (step_fault k s) refl (rest (after k s)) e

to_steps : (ls : List (List ℕ)) (n : ℕ) (k : Knowledge) → log_outcome k n ls ≡ Accepted → Judged k (steps_of ls)
to_steps [] n k e = (tt, at_end k.refuted n e)
to_steps (line ∷ ls) n k e = to_line (reading line) k n ls (to_steps ls (n + 1)) e

-- and back
from_line : (r : Result (Option Step) LineKind) (k : Knowledge) (n : ℕ) (ls : List (List ℕ)) →
    ((j : Knowledge) → Judged j (steps_of ls) → log_outcome j (n + 1) ls ≡ Accepted) → Judged k (with_line r (steps_of ls)) →
    rejected_or (line_rejection r k) n (log_outcome (line_after r k) (n + 1) ls) ≡ Accepted
from_line (Err kind) k n ls rest h = absurd h
from_line (Ok None) k n ls rest h = rest k h
from_line (Ok (Some s)) k n ls rest h =
    let parts = judged_less k s (steps_of ls) h in
    ap (λ o. rejected_or (option_map Fault o) n (log_outcome (after k s) (n + 1) ls)) parts.0 ∙ rest (after k s) parts.1

from_steps : (ls : List (List ℕ)) (n : ℕ) (k : Knowledge) → Judged k (steps_of ls) → log_outcome k n ls ≡ Accepted
from_steps [] n k h = end_at k.refuted n h.1
from_steps (line ∷ ls) n k h = from_line (reading line) k n ls (from_steps ls (n + 1)) h

pub accepted_where : (f : Formula) (proof : List ℕ) (o : Outcome) → o ≡ log_outcome (start f None []) 1 (lines proof) → (o ≡ Accepted) ↔ IsRefutation f proof
accepted_where f proof o e = (λ h. to_steps (lines proof) 1 (start f None []) (sym e ∙ h), λ h. e ∙ from_steps (lines proof) 1 (start f None []) h)

-- no step of a log without literals for prices that is accepted is a bound, so an assignment keeps to all
no_bounds : (a : ℕ → Bool) (steps : List Step) → KeepsBounds a [] steps
no_bounds a [] = tt
no_bounds a (Add id lits hints ∷ steps) = (tt, no_bounds a steps)
no_bounds a (Drop ids ∷ steps) = (tt, no_bounds a steps)
no_bounds a (Bound id price ∷ steps) = (tt, no_bounds a steps)

refutation_sound : (f : Formula) (o : Option (List Step)) → IsSomeAnd o (λ steps. IsAccepted (start f None []) steps × IsRefuting steps) → (a : ℕ → Bool) → Satisfies a f → ⊥
refutation_sound f None h a holds = absurd h
refutation_sound f (Some steps) h a holds = sound f None [] steps h.0 h.1 a holds (no_bounds a steps)

pub accepted_sound : (f : Formula) (proof : List ℕ) (o : Outcome) → o ≡ log_outcome (start f None []) 1 (lines proof) → o ≡ Accepted → (a : ℕ → Bool) → Satisfies a f → ⊥
accepted_sound f proof o e h = refutation_sound f (steps_of (lines proof)) ((accepted_where f proof o e).0 h)

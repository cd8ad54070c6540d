-- The log of a certificate is accepted exactly if it shows the claim.
use Rattle.std.proofs.Common.{◌≡◌, ℕ, ◌+◌, Bool, true, false, not, ◌||◌, List, [], ◌∷◌, ◌++◌, map, refl, sym, ◌∙◌, ap, subst}
use Rattle.std.specs.Prelude.{IsTrue, MatchBool, MatchOption, Option, Some, None, Ok}
use Rattle.std.specs.List.{filter_map, list_any}
use Rattle.std.proofs.lemmas.Bool.{false≢true}
use Rattle.arc_base.specs.declared.certificate.CertKind.{CertKind}
use Rattle.arc_base.specs.declared.certificate.CertKind.TheVariants as kinds
use Rattle.proof_check.specs.declared.faults.StepFault.{StepFault}
use Rattle.proof_check.specs.Knowledge.{Knowledge, after, step_fault}
use Rattle.proof_check.specs.Logs.{adds_empty, after_all, IsAccepted, IsRefuting}
use Rattle.proof_check.proofs.Verdicts.{refuted_all}
use Rattle.proof_log.specs.declared.steps.Step.{Step}
use Rattle.policy_report.specs.declared.got.Got.TheVariants.{End}
use Rattle.policy_report.specs.Recertifying.{Told, told_answer}
use Rattle.report_check.specs.declared.outcome.Outcome.{Outcome}
use Rattle.report_check.specs.declared.outcome.Outcome.TheVariants.{Accepted}
use Rattle.repair_check.specs.Outcomes.{IsEndOutcome, IsLogOutcome, rejected}
use Rattle.proof_check.specs.Outcomes.{fault_kind}

-- the outcome is acceptance exactly if this holds
abbrev pub AcceptsIf : Outcome → Type 0 → Type 0
AcceptsIf o P = (o ≡ Accepted → P) × (P → o ≡ Accepted)

pub never : (o : Outcome) (number : ℕ) (kind : CertKind) → o ≡ rejected number kind → o ≡ Accepted → ⊥
never o number kind is e = no_end (sym is ∙ e)
  where
    no_end : rejected number kind ≡ Accepted → ⊥
    no_end h = cc

-- the steps that the lines of a log have
abbrev pub steps_told : List Told → List Step
steps_told told = filter_map (λ t. t) told

-- the steps are accepted, and then the formula is refuted, if it has to be
abbrev pub Passes : Bool → Knowledge → List Step → Type 0
Passes needs known steps = IsAccepted known steps × IsTrue (not needs || (after_all known steps).refuted)

at_end : (agrees : Bool) (number : ℕ) (o : Outcome) → MatchBool agrees (IsEndOutcome (number + 1) [] o) (o ≡ rejected number kinds.NotRefuted) → AcceptsIf o (IsTrue agrees)
at_end true number o h = (λ e. refl, λ p. h)
at_end false number o h = (λ e. absurd (never o number kinds.NotRefuted h e), λ p. absurd (false≢true p))

-- either a step is not accepted, or it is and the rest decides
at_step : (fault : Option StepFault) (P : Type 0) (Q : Type 0) (number : ℕ) (o : Outcome) → MatchOption fault Q (λ f. o ≡ rejected number (fault_kind f)) →
    (Q → AcceptsIf o P) → AcceptsIf o ((fault ≡ None) × P)
at_step None P Q number o h rest = (λ e. (refl, (rest h).0 e), λ p. (rest h).1 p.1)
at_step (Some f) P Q number o h rest = (λ e. absurd (never o number (fault_kind f) h e), λ p. absurd (some_none p.0))
  where
    some_none : Some f ≡ None → ⊥
    some_none e = cc

pub log_exact : (needs : Bool) (known : Knowledge) (number : ℕ) (told : List Told) (o : Outcome) →
    IsLogOutcome needs known number (map told_answer told ++ Ok End ∷ []) o → AcceptsIf o (Passes needs known (steps_told told))
log_exact needs known number [] o h =
    let end = at_end (not needs || known.refuted) number o h in
    (λ e. (tt, end.0 e), λ p. end.1 p.1)
log_exact needs known number (None ∷ told) o h = log_exact needs known (number + 1) told o h
log_exact needs known number (Some s ∷ told) o h =
    let Rest : Type 0 = IsLogOutcome needs (after known s) (number + 1) (map told_answer told ++ Ok End ∷ []) o in
    let step = at_step (step_fault known s) (Passes needs (after known s) (steps_told told)) Rest number o h (λ (rest : Rest). log_exact needs (after known s) (number + 1) told o rest) in
    (λ e. (((step.0 e).0, (step.0 e).1.0), (step.0 e).1.1), λ p. step.1 (p.0.0, (p.0.1, p.1)))

-- if there is something to refute, it is refuted
met_need : (needs refuted : Bool) → IsTrue (not needs || refuted) → IsTrue needs → IsTrue refuted
met_need true refuted h is = h
met_need false refuted h is = absurd (false≢true is)

need_met : (needs refuted : Bool) → (IsTrue needs → IsTrue refuted) → IsTrue (not needs || refuted)
need_met true refuted h = h refl
need_met false refuted h = refl

-- from a start where nothing is refuted yet, the steps refute the formula if one of them adds the empty clause
pub passes_shows : (needs : Bool) (known : Knowledge) (steps : List Step) → known.refuted ≡ false → Passes needs known steps → IsAccepted known steps × (IsTrue needs → IsRefuting steps)
passes_shows needs known steps fresh p =
    let same : (after_all known steps).refuted ≡ list_any adds_empty steps = refuted_all known steps ∙ ap (λ b. b || list_any adds_empty steps) fresh in
    (p.0, λ need. subst IsTrue same (met_need needs (after_all known steps).refuted p.1 need))

pub shows_passes : (needs : Bool) (known : Knowledge) (steps : List Step) → known.refuted ≡ false → IsAccepted known steps → (IsTrue needs → IsRefuting steps) → Passes needs known steps
shows_passes needs known steps fresh accepted refuting =
    let same : (after_all known steps).refuted ≡ list_any adds_empty steps = refuted_all known steps ∙ ap (λ b. b || list_any adds_empty steps) fresh in
    (accepted, need_met needs (after_all known steps).refuted (λ need. subst IsTrue (sym same) (refuting need)))

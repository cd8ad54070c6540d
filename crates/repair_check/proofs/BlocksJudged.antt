-- The blocks of a certificate are passed exactly if their verdicts are right.
use Rattle.std.proofs.Common.{◌≡◌, ℕ, ◌+◌, ◌==◌, Bool, true, false, inl, inr, List, [], ◌∷◌, ◌++◌, length, map, refl, arith, eq-eqb}
use Rattle.std.specs.Prelude.{Result, Ok}
use Rattle.std.specs.List.{AllZip}
use Rattle.std.proofs.lemmas.Bool.Decides.{eqb_tells}
use Rattle.std.proofs.lemmas.Bool.{MatchBool-at_false, MatchBool-at_true}
use Rattle.arc_base.specs.declared.certificate.CertKind.TheVariants as kinds
use Rattle.net_model.specs.declared.policies.Policy.{Policy}
use Rattle.net_model.specs.declared.rows.Network.{Network}
use Rattle.net_model.specs.declared.verdicts.Verdict as verdicts
use Rattle.net_model.specs.declared.verdicts.Verdict.TheVariants.{Closed, Paths, Walk, Denied, Cut, Refused}
use Rattle.net_model.specs.Witnesses.{IsRight}
use Rattle.proof_check.specs.Knowledge.{Knowledge}
use Rattle.policy_report.specs.declared.got.Got.{Got}
use Rattle.policy_report.specs.declared.got.Got.TheVariants.{Verdict, End}
use Rattle.policy_report.specs.declared.got.CertFault.{CertFault}
use Rattle.policy_report.specs.Reports.{witness_lines}
use Rattle.policy_report.specs.Recertifying.{IsYes, Told, log_answers, told_answer}
use Rattle.policy_report.specs.Rereading.{blocks_answers, more}
use Rattle.report_check.specs.declared.outcome.Outcome.{Outcome}
use Rattle.report_check.proofs.Rights.{AreRightFrom}
use Rattle.arc_repair.specs.Claims.{IsRightYes}
use Rattle.repair_check.specs.Outcomes.{ReaderAnswers, IsBlocksOutcome, IsLogOutcome}
use Rattle.repair_check.proofs.Logs.{AcceptsIf, Passes, log_exact, never, steps_told}

differ : (m n : ℕ) → (m ≡ n → ⊥) → (m == n) ≡ false
differ m n h =
    elim (eqb_tells m n) [
      | inl same ↦ absurd (h same.1)
      | inr other ↦ other.0
    ]

module _ (net now : Network) (policies : List Policy) (needs : Bool) (known : Knowledge) (told : List Told) (o : Outcome) where
  -- the lines inside a block are passed
  passed : (judged first number : ℕ) (ls : List (List ℕ)) (last : Result Got CertFault) (rest : ReaderAnswers) → (judged == length policies) ≡ false →
      IsBlocksOutcome now policies needs known judged first number ((more ls ++ last ∷ []) ++ rest) o → (n : ℕ) × IsBlocksOutcome now policies needs known judged first n (last ∷ rest) o
  passed judged first number [] last rest unfinished h = (number, h)
  passed judged first number (line ∷ ls) last rest unfinished h =
      passed judged first (number + 1) ls last rest unfinished
      (MatchBool-at_false (IsLogOutcome needs known (number + 1) ((more ls ++ last ∷ []) ++ rest) o)
      (IsBlocksOutcome now policies needs known judged first (number + 1) ((more ls ++ last ∷ []) ++ rest) o) unfinished h)

  pub blocks_exact : (judged first number : ℕ) (vs : List verdicts.Verdict) → judged + length vs ≡ length policies →
      IsBlocksOutcome now policies needs known judged first number (blocks_answers net judged vs (log_answers told)) o →
      AcceptsIf o (AreRightFrom now policies judged vs × Passes needs known (steps_told told))
  blocks_exact judged first number [] whole h =
      let all : (judged == length policies) ≡ true = eq-eqb judged (length policies) (omega (arith, whole)) in
      let Log : Type 0 = IsLogOutcome needs known (number + 1) (map told_answer told ++ Ok End ∷ []) o in
      let log = log_exact needs known (number + 1) told o
      (MatchBool-at_true Log (IsBlocksOutcome now policies needs known judged first (number + 1) (map told_answer told ++ Ok End ∷ []) o) all h) in
      (λ e. (tt, log.0 e), λ p. log.1 p.1)
  blocks_exact judged first number (v ∷ vs) whole h =
      let unfinished : (judged == length policies) ≡ false = differ judged (length policies) (λ (e : judged ≡ length policies). omega (arith, whole, e)) in
      let last = passed judged first number (witness_lines net v) (Ok (Verdict judged v)) (blocks_answers net (judged + 1) vs (log_answers told)) unfinished h in
      elim last.1 [
        | inl good ↦
            let rest = blocks_exact (judged + 1) (last.0 + 1) (last.0 + 1) vs (omega (arith, whole)) good.1 in
            (λ e. ((good.0, (rest.0 e).0), (rest.0 e).1), λ p. rest.1 (p.0.1, p.1))
        | inr bad ↦ (λ e. absurd (never o first kinds.Witness bad.1 e), λ p. absurd (bad.0 p.0.0))
      ]

is_yes_there : (now : Network) (policy : Policy) (v : verdicts.Verdict) → IsYes v → IsRight now policy v → IsRightYes now policy v
is_yes_there now policy (Closed sides) yes' right = record { yes = refl; right = right }
is_yes_there now policy (Paths paths) yes' right = record { yes = refl; right = right }
is_yes_there now policy (Walk class path) yes' right = absurd yes'
is_yes_there now policy (Denied class) yes' right = absurd yes'
is_yes_there now policy (Cut links side) yes' right = absurd yes'
is_yes_there now policy (Refused packet link) yes' right = absurd yes'

-- each verdict is a yes
abbrev pub AreYes : List verdicts.Verdict → Type 0
AreYes [] = Unit {0}
AreYes (v ∷ vs) = IsYes v × AreYes vs

pub right_yeses : (now : Network) (policies : List Policy) (vs : List verdicts.Verdict) → AreYes vs → AllZip (IsRight now) policies vs → AllZip (IsRightYes now) policies vs
right_yeses now [] [] yes' right = tt
right_yeses now [] (v ∷ vs) yes' right = absurd right
right_yeses now (policy ∷ policies) [] yes' right = absurd right
right_yeses now (policy ∷ policies) (v ∷ vs) yes' right = (is_yes_there now policy v yes'.0 right.0, right_yeses now policies vs yes'.1 right.1)

pub yeses_right : (now : Network) (policies : List Policy) (vs : List verdicts.Verdict) → AllZip (IsRightYes now) policies vs → AllZip (IsRight now) policies vs
yeses_right now [] [] all = tt
yeses_right now [] (v ∷ vs) all = absurd all
yeses_right now (policy ∷ policies) [] all = absurd all
yeses_right now (policy ∷ policies) (v ∷ vs) all = (all.0.right, yeses_right now policies vs all.1)

-- A text has one outcome.
use Rattle.std.proofs.Common.{◌≡◌, ◌∙◌, ℕ, ◌+◌, ◌<◌, ◌≤◌, ◌==◌, ◌||◌, Bool, true, false, not, inl, inr, List, [], ◌∷◌, length, set, sym, subst, arith}
use Rattle.std.specs.Prelude.{MatchBool, MatchOption, Option, Some, None, Ok, Err}
use Rattle.arc_base.specs.declared.certificate.CertKind.TheVariants as kinds
use Rattle.cnf_types.specs.declared.clauses.Formula.{Formula}
use Rattle.cnf_types.specs.declared.literal.Lit.{Lit}
use Rattle.arc_base.specs.TextLines.{lines}
use Rattle.net_model.specs.declared.policies.Document.{Document}
use Rattle.net_model.specs.declared.policies.Policy.{Policy}
use Rattle.net_model.specs.declared.rows.Network.{Network}
use Rattle.net_model.specs.Validity.{IsValid}
use Rattle.edit_list.specs.declared.edit_kinds.Edit as edits
use Rattle.edit_list.specs.Determined.{AfterIsOne, IsCountable}
use Rattle.edit_list.specs.Prices.{chosen_of, none_of}
use Rattle.policy_encode.specs.Laws.{HaveOneFormula}
use Rattle.price_descent.specs.Outcomes.{least_below}
use Rattle.proof_check.specs.declared.faults.StepFault.{StepFault}
use Rattle.proof_check.specs.Knowledge.{Knowledge, after, start, step_fault}
use Rattle.proof_check.specs.Outcomes.{fault_kind}
use Rattle.policy_report.specs.declared.got.Got.TheVariants.{More, Head, Verdict, Edit, Step, End}
use Rattle.policy_report.specs.declared.got.CertForm.TheVariants.{Repaired, NoRepair}
use Rattle.policy_report.specs.Rereading.{answers}
use Rattle.policy_report.specs.Steps as reader
use Rattle.report_check.specs.declared.outcome.Outcome.{Outcome}
use Rattle.report_check.specs.declared.outcome.Outcome.TheVariants.{Rejected}
use Rattle.arc_repair.specs.Claims.{is_above_zero}
use Rattle.repair_check.specs.Outcomes.{AfterEdits, AfterNone, ReaderAnswers, HasOneOutcome, IsAnswerOutcome, IsBlocksOutcome, IsEditsEnd}
use Rattle.repair_check.specs.Outcomes.{IsEditsOutcome, IsEndOutcome, IsHeadOutcome, IsLogOutcome, IsReadyOutcome, is_edit_kind, rejected}

-- one test decides both
one_case : (b : Bool) (P Q R S T : Type 0) → (P → R → T) → (Q → S → T) → MatchBool b P Q → MatchBool b R S → T
one_case true P Q R S T f g h k = f h k
one_case false P Q R S T f g h k = g h k

one_step : (fault : Option StepFault) (number : ℕ) (P Q : Type 0) (o p : Outcome) → (P → Q → o ≡ p) →
    MatchOption fault P (λ f. o ≡ rejected number (fault_kind f)) → MatchOption fault Q (λ f. p ≡ rejected number (fault_kind f)) → o ≡ p
one_step None number P Q o p rest h k = rest h k
one_step (Some f) number P Q o p rest h k = h ∙ sym k

one_end : (number : ℕ) (told : ReaderAnswers) (o p : Outcome) → IsEndOutcome number told o → IsEndOutcome number told p → o ≡ p
one_end number [] o p h k = h ∙ sym k
one_end number (told ∷ rest) o p h k = h ∙ sym k

one_log : (needs : Bool) (known : Knowledge) (number : ℕ) (told : ReaderAnswers) (o p : Outcome) → IsLogOutcome needs known number told o → IsLogOutcome needs known number told p → o ≡ p
one_log needs known number [] o p h k = h ∙ sym k
one_log needs known number (Err fault ∷ rest) o p h k = h ∙ sym k
one_log needs known number (Ok More ∷ rest) o p h k = one_log needs known (number + 1) rest o p h k
one_log needs known number (Ok (Step s) ∷ rest) o p h k =
    one_step (step_fault known s) number (IsLogOutcome needs (after known s) (number + 1) rest o) (IsLogOutcome needs (after known s) (number + 1) rest p) o p
    (λ a b. one_log needs (after known s) (number + 1) rest o p a b) h k
one_log needs known number (Ok End ∷ rest) o p h k =
    one_case (not needs || known.refuted) (IsEndOutcome (number + 1) rest o) (o ≡ rejected number kinds.NotRefuted) (IsEndOutcome (number + 1) rest p) (p ≡ rejected number kinds.NotRefuted) (o ≡ p)
    (λ a b. one_end (number + 1) rest o p a b) (λ a b. a ∙ sym b) h k
one_log needs known number (Ok other ∷ rest) o p h k = h ∙ sym k

one_ready : (known : Knowledge) (number : ℕ) (told : ReaderAnswers) (o p : Outcome) → IsReadyOutcome known number told o → IsReadyOutcome known number told p → o ≡ p
one_ready known number [] o p h k = h ∙ sym k
one_ready known number (Err fault ∷ rest) o p h k = h ∙ sym k
one_ready known number (Ok More ∷ rest) o p h k = one_log true known (number + 1) rest o p h k
one_ready known number (Ok other ∷ rest) o p h k = h ∙ sym k

one_blocks : (now : Network) (policies : List Policy) (needs : Bool) (known : Knowledge) (judged first number : ℕ) (told : ReaderAnswers) (o p : Outcome) →
    IsBlocksOutcome now policies needs known judged first number told o → IsBlocksOutcome now policies needs known judged first number told p → o ≡ p
one_blocks now policies needs known judged first number [] o p h k = h ∙ sym k
one_blocks now policies needs known judged first number (Err fault ∷ rest) o p h k = h ∙ sym k
one_blocks now policies needs known judged first number (Ok More ∷ rest) o p h k =
    one_case (judged == length policies) (IsLogOutcome needs known (number + 1) rest o) (IsBlocksOutcome now policies needs known judged first (number + 1) rest o)
    (IsLogOutcome needs known (number + 1) rest p) (IsBlocksOutcome now policies needs known judged first (number + 1) rest p) (o ≡ p)
    (λ a b. one_log needs known (number + 1) rest o p a b) (λ a b. one_blocks now policies needs known judged first (number + 1) rest o p a b) h k
one_blocks now policies needs known judged first number (Ok (Verdict which v) ∷ rest) o p h k =
    elim h [
      | inl good ↦ elim k [
        | inl also ↦ one_blocks now policies needs known (which + 1) (number + 1) (number + 1) rest o p good.1 also.1
        | inr bad ↦ absurd (bad.0 good.0)
      ]
      | inr bad ↦ elim k [
        | inl good ↦ absurd (bad.0 good.0)
        | inr also ↦ bad.1 ∙ sym also.1
      ]
    ]
one_blocks now policies needs known judged first number (Ok other ∷ rest) o p h k = h ∙ sym k

module _ (one_after : AfterIsOne) (one_formula : HaveOneFormula) (net : Network) (doc : Document) (list : List edits.Edit) (valid : IsValid net) (countable : IsCountable net) where
  module _ (price bound : ℕ) where
    -- there is one network after the edits, and one formula
    after_edits : (flags : List Bool) (number : ℕ) (told : ReaderAnswers) (o p : Outcome) → AfterEdits net doc list price bound flags number told o →
        AfterEdits net doc list price bound flags number told p → o ≡ p
    after_edits flags number told o p a b =
        let nets : a.now ≡ b.now = one_after net valid countable (chosen_of list flags) a.now b.now a.is_after b.is_after in
        let formulas = one_formula net doc list bound a.formula b.formula a.tops b.tops valid a.is_formula b.is_formula in
        let Judged : Network → Formula → List Lit → Type 0 = λ n f t. IsBlocksOutcome n doc.policies (is_above_zero price) (start f (least_below price) t) 0 number number told o in
        let one : Judged b.now a.formula a.tops = subst (λ (n : Network). Judged n a.formula a.tops) nets a.outcome in
        let two : Judged b.now b.formula a.tops = subst (λ (f : Formula). Judged b.now f a.tops) formulas.0 one in
        one_blocks b.now doc.policies (is_above_zero price) (start b.formula (least_below price) b.tops) 0 number number told o p (subst (Judged b.now b.formula) formulas.1 two) b.outcome

    one_edits_end : (flags : List Bool) (number : ℕ) (told : ReaderAnswers) (o p : Outcome) → IsEditsEnd net doc list price bound flags number told o →
        IsEditsEnd net doc list price bound flags number told p → o ≡ p
    one_edits_end flags number told o p (inl h) (inl k) = h.1 ∙ sym k.1
    one_edits_end flags number told o p (inl h) (inr b) = absurd (b.priced h.0)
    one_edits_end flags number told o p (inr a) (inl k) = absurd (a.priced k.0)
    one_edits_end flags number told o p (inr a) (inr b) = after_edits flags number told o p a b

    one_edits : (flags : List Bool) (number : ℕ) (told : ReaderAnswers) (o p : Outcome) → IsEditsOutcome net doc list price bound flags number told o →
        IsEditsOutcome net doc list price bound flags number told p → o ≡ p
    one_edits flags number [] o p h k = one_edits_end flags number [] o p h k
    one_edits flags number (Err fault ∷ rest) o p h k =
        one_case (is_edit_kind fault.kind) (o ≡ Rejected fault) (IsEditsEnd net doc list price bound flags number (Err fault ∷ rest) o)
        (p ≡ Rejected fault) (IsEditsEnd net doc list price bound flags number (Err fault ∷ rest) p) (o ≡ p)
        (λ a b. a ∙ sym b) (λ a b. one_edits_end flags number (Err fault ∷ rest) o p a b) h k
    one_edits flags number (Ok (Edit place) ∷ rest) o p h k = one_edits (set flags place true) (number + 1) rest o p h k
    one_edits flags number (Ok got ∷ rest) o p h k = one_edits_end flags number (Ok got ∷ rest) o p h k

  after_none : (bound number : ℕ) (told : ReaderAnswers) (o p : Outcome) → AfterNone net doc list bound number told o → AfterNone net doc list bound number told p → o ≡ p
  after_none bound number told o p a b =
      let formulas = one_formula net doc list bound a.formula b.formula a.tops b.tops valid a.is_formula b.is_formula in
      let Judged : Formula → List Lit → Type 0 = λ f t. IsReadyOutcome (start f (Some bound) t) number told o in
      let one : Judged b.formula a.tops = subst (λ (f : Formula). Judged f a.tops) formulas.0 a.outcome in
      one_ready (start b.formula (Some bound) b.tops) number told o p (subst (Judged b.formula) formulas.1 one) b.outcome

  beyond : (bound : ℕ) → 512 < bound → bound ≤ 512 → ⊥
  beyond bound above few = omega (arith, above, few)

  one_answer : (number : ℕ) (told : ReaderAnswers) (o p : Outcome) → IsAnswerOutcome net doc list number told o → IsAnswerOutcome net doc list number told p → o ≡ p
  one_answer number [] o p h k = h ∙ sym k
  one_answer number (Err fault ∷ rest) o p h k = h ∙ sym k
  one_answer number (Ok (Head (Repaired price bound)) ∷ rest) o p h k = one_edits price bound (none_of list) (number + 1) rest o p h k
  one_answer number (Ok (Head (NoRepair bound)) ∷ rest) o p (inl h) (inl k) = h.1 ∙ sym k.1
  one_answer number (Ok (Head (NoRepair bound)) ∷ rest) o p (inl h) (inr b) = absurd (beyond bound h.0 b.few)
  one_answer number (Ok (Head (NoRepair bound)) ∷ rest) o p (inr a) (inl k) = absurd (beyond bound k.0 a.few)
  one_answer number (Ok (Head (NoRepair bound)) ∷ rest) o p (inr a) (inr b) = after_none bound (number + 1) rest o p a b
  one_answer number (Ok other ∷ rest) o p h k = h ∙ sym k

  one_head : (number : ℕ) (told : ReaderAnswers) (o p : Outcome) → IsHeadOutcome net doc list number told o → IsHeadOutcome net doc list number told p → o ≡ p
  one_head number [] o p h k = h ∙ sym k
  one_head number (Err fault ∷ rest) o p h k = h ∙ sym k
  one_head number (Ok More ∷ rest) o p h k = one_answer (number + 1) rest o p h k
  one_head number (Ok other ∷ rest) o p h k = h ∙ sym k

pub has_one_outcome : AfterIsOne → HaveOneFormula → HasOneOutcome
has_one_outcome one_after one_formula net doc list text o p valid countable h k = one_head one_after one_formula net doc list valid countable 1 (answers net doc list reader.start (lines text)) o p h k

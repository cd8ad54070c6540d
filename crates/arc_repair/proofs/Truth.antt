-- A claim that has a certificate is true.
use Rattle.std.proofs.Common.{◌≤◌, ◌<◌, ◌+◌, ℕ, zero, suc, inl, inr, Bool, Some, List, [], ◌∷◌, length, refl, arith}
use Rattle.std.specs.Prelude.{All}
use Rattle.std.specs.List.{AllZip}
use Rattle.std.proofs.lemmas.Bool.{cases_lt}
use Rattle.std.proofs.lemmas.List.Elements.{All-nil, All-cons}
use Rattle.cnf_types.specs.declared.literal.Lit.{Lit}
use Rattle.cnf_types.specs.declared.clauses.Formula.{Formula}
use Rattle.net_model.specs.declared.policies.Document.{Document}
use Rattle.net_model.specs.declared.policies.Policy.{Policy}
use Rattle.net_model.specs.declared.rows.Network.{Network}
use Rattle.net_model.specs.declared.verdicts.Verdict.{Verdict}
use Rattle.net_model.specs.Policies.{Meets}
use Rattle.net_model.specs.Validity.{IsValid}
use Rattle.net_laws.specs.Laws.{RightVerdictsDecide}
use Rattle.edit_list.specs.declared.claims.Claim.{Claim}
use Rattle.edit_list.specs.declared.claims.Claim.TheVariants.{Repaired, NoRepair}
use Rattle.edit_list.specs.declared.edit_kinds.Edit.{Edit}
use Rattle.edit_list.specs.Determined.{IsCountable, AfterIsThere, AfterIsValid}
use Rattle.edit_list.specs.EditLists.{AreEdits}
use Rattle.edit_list.specs.Prices.{chosen_of, price_of_flags}
use Rattle.policy_encode.specs.Formulas.{IsRepairFormula}
use Rattle.policy_encode.specs.Laws as encoded
use Rattle.price_descent.specs.Laws.{LogsShowPrices, PricesAreAbove}
use Rattle.price_descent.specs.Prices.{HasModel}
use Rattle.proof_check.specs.Knowledge.{start}
use Rattle.proof_check.specs.Logs.{IsAccepted, IsRefuting}
use Rattle.proof_log.specs.declared.steps.Step.{Step}
use Rattle.arc_repair.specs.Repairs.{Mends, IsLeastPrice}
use Rattle.arc_repair.specs.Claims.{IsRightYes, IsRightRepair, Shows, IsTrueClaim, IsCertificate}
use Rattle.arc_repair.specs.Laws.{CertificatesAreTrue}
use Rattle.arc_repair.proofs.Priced.{are_priced, mends_model}

-- right yes verdicts show that the policies are met
pub yeses_meet : (net : Network) → RightVerdictsDecide net → (policies : List Policy) (verdicts : List Verdict) → AllZip (IsRightYes net) policies verdicts → All (Meets net) policies
yeses_meet net decide [] [] z = All-nil (Meets net)
yeses_meet net decide [] (v ∷ vs) z = absurd z
yeses_meet net decide (p ∷ ps) [] z = absurd z
yeses_meet net decide (p ∷ ps) (v ∷ vs) z = All-cons (Meets net) p ps ((decide p v z.0.right).0 z.0.yes) (yeses_meet net decide ps vs z.1)

module _ (models : encoded.ModelsAreRepairs) (one : encoded.OneModelServes) (fits : encoded.FormulasAreSearchable) (shows : LogsShowPrices)
    (decide : (net : Network) → IsValid net → RightVerdictsDecide net)
    (there : AfterIsThere) (is_valid : AfterIsValid) (net : Network) (doc : Document) (list : List Edit) (valid : IsValid net) (countable : IsCountable net) (edits : AreEdits net doc list) where
  -- the network after edits with right yes verdicts meets the document
  pub right_mends : (price bound : ℕ) (flags : List Bool) (verdicts : List Verdict) → IsRightRepair net doc list price bound flags verdicts → Mends net doc list flags
  right_mends price bound flags verdicts right = record {
    one_each = right.one_each;
    after = right.after;
    is_after = right.is_after;
    meets = yeses_meet right.after (decide right.after (is_valid net valid countable (chosen_of list flags) right.after right.is_after)) doc.policies verdicts right.judged;
  }

  module _ (most : ℕ) (formula : Formula) (tops : List Lit) (is : IsRepairFormula net doc list most formula tops) where
    few_tops : length tops ≤ most + 1
    few_tops = elim (fits net doc list most formula tops valid is).one_each [
      | inl none ↦ omega (arith, none)
      | inr each ↦ omega (arith, each)
    ]

    above : (least : ℕ) (steps : List Step) → IsAccepted (start formula (Some least) tops) steps → IsRefuting steps → PricesAreAbove (price_of_flags doc list) formula tops (length list) most least
    above least steps accepted refuting =
        shows (price_of_flags doc list) formula tops (length list) most least steps (are_priced models one there is_valid net doc list most formula tops valid
        countable edits is) few_tops accepted refuting

    has_model : (flags : List Bool) → Mends net doc list flags → price_of_flags doc list flags ≤ most → HasModel formula tops flags most
    has_model flags mends affordable = mends_model models one there is_valid net doc list most formula tops valid countable edits is flags most mends affordable (omega arith)

    -- with such a log, all edits that mend the network cost more than the least bound
    pub costs_more : (least : ℕ) (steps : List Step) → least ≤ most → IsAccepted (start formula (Some least) tops) steps → IsRefuting steps →
        (flags : List Bool) → Mends net doc list flags → least < price_of_flags doc list flags
    costs_more least steps within accepted refuting flags mends =
        elim (cases_lt most (price_of_flags doc list flags)) [
          | inl dear ↦ omega (arith, dear, within)
          | inr cheap ↦ (above least steps accepted refuting).above flags most mends.one_each (omega arith) (has_model flags mends cheap)
        ]

  least : (price bound : ℕ) (flags : List Bool) (verdicts : List Verdict) (steps : List Step) → price ≤ bound →
      Shows net doc list (Repaired price bound flags verdicts) steps → IsLeastPrice net doc list price
  least zero bound flags verdicts steps within shown others mends = omega arith
  least (suc n) bound flags verdicts steps within shown others mends =
      omega (arith, costs_more bound shown.formula shown.tops shown.is_formula n steps (omega (arith, within)) shown.accepted (shown.refuting refl) others mends)

  pub is_true : (claim : Claim) (steps : List Step) → IsCertificate net doc list claim steps → IsTrueClaim net doc list claim
  is_true (Repaired price bound flags verdicts) steps c = record {
    right = c.right;
    mends = right_mends price bound flags verdicts c.right;
    least = least price bound flags verdicts steps c.right.affordable c.shown;
  }
  is_true (NoRepair bound) steps c = λ flags mends. costs_more bound c.shown.formula c.shown.tops c.shown.is_formula bound steps (omega arith) c.shown.accepted (c.shown.refuting refl) flags mends

pub certificates_are_true : encoded.ModelsAreRepairs → encoded.OneModelServes → encoded.FormulasAreSearchable → LogsShowPrices →
    ((net : Network) → IsValid net → RightVerdictsDecide net) → AfterIsThere → AfterIsValid → CertificatesAreTrue
certificates_are_true models one fits shows decide there is_valid net doc list claim steps valid countable edits c =
    is_true models one fits shows decide there is_valid net doc list valid countable edits claim steps c

-- The claim of a repair, from the verdicts in the network after its edits.
use Rattle.std.proofs.Common.{◌≡◌, ◌≤◌, ℕ, zero, suc, Bool, List, [], length, IsTrue, refl, sym, ◌∙◌, ap, subst, arith}
use Rattle.std.specs.Prelude.{All}
use Rattle.net_model.specs.declared.policies.Document.{Document}
use Rattle.net_model.specs.declared.rows.Network.{Network}
use Rattle.net_model.specs.declared.verdicts.Verdict.{Verdict}
use Rattle.net_model.specs.Policies.{Meets}
use Rattle.net_model.specs.Validity.{IsValid}
use Rattle.net_laws.proofs.RightVerdicts.{right_verdicts_decide}
use Rattle.cnf_types.specs.declared.literal.Lit.{Lit}
use Rattle.cnf_types.specs.declared.clauses.Formula.{Formula}
use Rattle.edit_list.specs.declared.claims.Claim.TheVariants.{Repaired}
use Rattle.edit_list.specs.declared.edit_kinds.Edit.{Edit}
use Rattle.edit_list.specs.After.{IsAfter}
use Rattle.edit_list.specs.Determined.{IsCountable}
use Rattle.edit_list.specs.Prices.{chosen_of, price_of_flags, none_of}
use Rattle.edit_space.proofs.OneAfter.{after_is_one}
use Rattle.edit_space.proofs.SomeNames.{after_is_valid}
use Rattle.policy_encode.specs.Formulas.{IsRepairFormula}
use Rattle.price_descent.specs.declared.found.Offer.{Offer}
use Rattle.proof_log.specs.declared.steps.Step.{Step}
use Rattle.arc_repair.specs.Answers.{IsDone}
use Rattle.arc_repair.specs.Claims.{IsRightRepair, is_above_zero}
use Rattle.arc_repair.specs.Repairs.{Mends}
use Rattle.arc_repair.specs.Search.{AreYesAfter, IsCheapestFound}
use Rattle.arc_repair.proofs.Truth.{yeses_meet}
use Rattle.arc_repair.proofs.Untouched.{none_for_each, none_costs, shows_free}

module _ (net : Network) (doc : Document) (list : List Edit) where
  right_repair : (price bound : ℕ) (flags : List Bool) (verdicts : List Verdict) → length flags ≡ length list → price_of_flags doc list flags ≡ price →
      price ≤ bound → bound ≤ 512 → AreYesAfter net doc list flags verdicts → IsRightRepair net doc list price bound flags verdicts
  right_repair price bound flags verdicts each costs affordable few judgement =
      record { one_each = each; costs = costs; affordable = affordable; few = few; after = judgement.after; is_after = judgement.is_after; judged = judgement.judged }

  above_zero : (n : ℕ) → IsTrue (is_above_zero n) → 1 ≤ n
  above_zero zero h = absurd (bad h)
    where
      bad : IsTrue (is_above_zero 0) → ⊥
      bad h = cc
  above_zero (suc n) h = omega arith

  -- if a search found the cheapest edits
  pub found_done : (bound price : ℕ) (offer : Offer) (verdicts : List Verdict) (steps : List Step) → bound ≤ 512 → price ≡ offer.price →
      IsCheapestFound net doc list bound offer steps → AreYesAfter net doc list offer.values verdicts →
      IsDone net doc list bound (Repaired price bound offer.values verdicts) steps
  found_done bound price offer verdicts steps few same found judgement =
      let right : IsRightRepair net doc list offer.price bound offer.values verdicts =
      right_repair offer.price bound offer.values verdicts found.mends.one_each found.costs found.affordable few judgement in
      subst (λ (n : ℕ). IsDone net doc list bound (Repaired n bound offer.values verdicts) steps) (sym same) (record {
        same_bound = refl;
        is_true = record { right = right; mends = found.mends; least = found.least };
        certificate = record {
          right = right;
          shown = record { formula = found.formula; tops = found.tops; is_formula = found.is_formula; accepted = found.accepted; refuting = λ needs. found.refuting (above_zero offer.price needs) };
        };
      })

  module _ (valid : IsValid net) (countable : IsCountable net) where
    yes_mends : (flags : List Bool) (verdicts : List Verdict) → length flags ≡ length list → AreYesAfter net doc list flags verdicts → Mends net doc list flags
    yes_mends flags verdicts each judgement = record {
      one_each = each;
      after = judgement.after;
      is_after = judgement.is_after;
      meets = yeses_meet judgement.after (right_verdicts_decide judgement.after (after_is_valid net valid countable (chosen_of list flags) judgement.after judgement.is_after))
          doc.policies verdicts judgement.judged;
    }

    -- if the network meets the document without edits
    pub untouched_done : (bound : ℕ) (flags : List Bool) (verdicts : List Verdict) (formula : Formula) (tops : List Lit) → bound ≤ 512 → flags ≡ none_of list →
        AreYesAfter net doc list flags verdicts → IsRepairFormula net doc list bound formula tops →
        IsDone net doc list bound (Repaired 0 bound flags verdicts) []
    untouched_done bound flags verdicts formula tops few none judgement is =
        let each : length flags ≡ length list = ap length none ∙ none_for_each list in
        let right : IsRightRepair net doc list 0 bound flags verdicts =
        right_repair 0 bound flags verdicts each (ap (price_of_flags doc list) none ∙ none_costs doc list) (omega arith) few judgement in
        record {
          same_bound = refl;
          is_true = record { right = right; mends = yes_mends flags verdicts each judgement; least = λ others mends. omega arith };
          certificate = record { right = right; shown = shows_free net doc list bound flags verdicts formula tops is };
        }

-- the network after edits that mend it is the one that was made
pub meets_there : (net : Network) (doc : Document) (list : List Edit) (flags : List Bool) (after : Network) → IsValid net → IsCountable net →
    IsAfter net (chosen_of list flags) after → Mends net doc list flags → All (Meets after) doc.policies
meets_there net doc list flags after valid countable is mends =
    subst (λ (n : Network). All (Meets n) doc.policies) (after_is_one net valid countable (chosen_of list flags) mends.after after mends.is_after is) mends.meets

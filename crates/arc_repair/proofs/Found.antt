-- What a descent over the repair formula finds, in terms of the network.
use Rattle.std.proofs.Common.{◌≡◌, ◌≤◌, inl, inr, ℕ, Bool, List, length, refl, sym, ◌∙◌, ap, subst, arith, eq-eqb, if◌then◌else◌}
use Rattle.std.proofs.lemmas.Bool.{cases_lt}
use Rattle.std.proofs.lemmas.List.Elements.{All-contains}
use Rattle.arc_base.proofs.Items.{All-from}
use Rattle.cnf_types.specs.declared.literal.Lit.{Lit}
use Rattle.cnf_types.specs.declared.clauses.Formula.{Formula}
use Rattle.net_model.specs.declared.policies.Document.{Document}
use Rattle.net_model.specs.declared.rows.Network.{Network}
use Rattle.net_model.specs.Validity.{IsValid}
use Rattle.edit_list.specs.declared.edit_kinds.Edit.{Edit}
use Rattle.edit_list.specs.Determined.{IsCountable, AfterIsThere, AfterIsValid}
use Rattle.edit_list.specs.EditLists.{AreEdits}
use Rattle.edit_list.specs.Prices.{price_of_flags}
use Rattle.policy_encode.specs.Formulas.{IsRepairFormula}
use Rattle.policy_encode.specs.Laws as encoded
use Rattle.price_descent.specs.declared.found.Found.{Found}
use Rattle.price_descent.specs.declared.found.Found.TheVariants.{Cheapest, Nothing, Budget}
use Rattle.price_descent.specs.Outcomes as descent
use Rattle.price_descent.specs.Prices.{HasModel, ArePriced}
use Rattle.proof_log.specs.declared.steps.Step.{Step}
use Rattle.proof_log.specs.declared.steps.Step.TheVariants.{Add, Drop, Bound}
use Rattle.arc_repair.specs.Answers.{IsBoundWithCause}
use Rattle.arc_repair.specs.Repairs.{Mends}
use Rattle.arc_repair.specs.Search.{flagged_cost, IsSearched}
use Rattle.arc_repair.proofs.Priced.{are_priced, model_mends, mends_model}

pub flagged : (doc : Document) (list : List Edit) (flags : List Bool) → length flags ≡ length list → flagged_cost doc list flags ≡ price_of_flags doc list flags
flagged doc list flags each = ap (λ b. if b then price_of_flags doc list flags else 0) (eq-eqb (length flags) (length list) each)

module _ (models : encoded.ModelsAreRepairs) (one : encoded.OneModelServes) (there : AfterIsThere) (is_valid : AfterIsValid) (net : Network) (doc : Document) (list : List Edit)
    (most : ℕ) (formula : Formula) (tops : List Lit)
    (valid : IsValid net) (countable : IsCountable net) (edits : AreEdits net doc list) (is : IsRepairFormula net doc list most formula tops) where
  pub flags_priced : ArePriced (flagged_cost doc list) formula tops (length list) most
  flags_priced =
      let priced : ArePriced (price_of_flags doc list) formula tops (length list) most = are_priced models one there is_valid net doc list most formula tops valid countable edits is in
      record {
        told = λ flags bound each within has. subst (λ (n : ℕ). n ≤ bound) (sym (flagged doc list flags each)) (priced.told flags bound each within has);
        one_model = λ flags bound each within has.
            let m = priced.one_model flags bound each within has in
            record { assignment = m.assignment; begins = m.begins; satisfies = m.satisfies; keeps = λ b above below. m.keeps b (subst (λ (n : ℕ). n ≤ b) (flagged doc list flags each) above) below };
      }

  mends : (flags : List Bool) → length flags ≡ length list → HasModel formula tops flags most → Mends net doc list flags
  mends flags each has = (model_mends models one there is_valid net doc list most formula tops valid countable edits is flags most each (omega arith) has).mends

  has_model : (flags : List Bool) → Mends net doc list flags → price_of_flags doc list flags ≤ most → HasModel formula tops flags most
  has_model flags m affordable = mends_model models one there is_valid net doc list most formula tops valid countable edits is flags most m affordable (omega arith)

  known : (s : Step) → descent.IsKnownBound (flagged_cost doc list) formula tops (length list) most s → IsBoundWithCause net doc list most s
  known (Add id lits hints) k = tt
  known (Drop ids) k = tt
  known (Bound id bound) (inl same) = inl same
  known (Bound id bound) (inr reached) = inr (record {
    flags = reached.values;
    mends = mends reached.values reached.one_each reached.begins;
    costs = sym (flagged doc list reached.values reached.one_each) ∙ reached.costs;
  })

  -- flags whose price is within the bound are no cheaper, and others cost more
  least : (price : ℕ) → price ≤ most →
      ((flags : List Bool) → length flags ≡ length list → HasModel formula tops flags most → price ≤ flagged_cost doc list flags) → (flags : List Bool) →
      Mends net doc list flags → price ≤ price_of_flags doc list flags
  least price within cheapest flags m = elim (cases_lt most (price_of_flags doc list flags)) [
    | inl dear ↦ omega (arith, dear, within)
    | inr cheap ↦ subst (λ (n : ℕ). price ≤ n) (flagged doc list flags m.one_each) (cheapest flags m.one_each (has_model flags m cheap))
  ]

  pub searched : (limit : ℕ) → most ≤ 512 → (found : Found) → descent.IsFound (flagged_cost doc list) formula tops (length list) most limit found → IsSearched net doc list most limit found
  searched limit few (Cheapest offer log) f = record {
    mends = mends offer.values f.is_offer.one_each f.is_offer.begins;
    costs = sym (flagged doc list offer.values f.is_offer.one_each) ∙ sym f.is_offer.costs;
    affordable = f.is_offer.affordable;
    least = least offer.price f.is_offer.affordable f.least;
    formula = formula;
    tops = tops;
    is_formula = is;
    accepted = f.accepted;
    refuting = f.refuting;
  }
  searched limit few (Nothing log) f = record {
    same_bound = refl;
    is_true = λ flags m. elim (cases_lt most (price_of_flags doc list flags)) [
      | inl dear ↦ dear
      | inr cheap ↦ absurd (f.none flags m.one_each (has_model flags m cheap))
    ];
    certificate = record { right = few; shown = record { formula = formula; tops = tops; is_formula = is; accepted = f.accepted; refuting = λ needs. f.refuting } };
  }
  searched limit few (Budget log) f = record {
    formula = formula;
    tops = tops;
    is_formula = is;
    spent = f.spent;
    bounds = All-from (IsBoundWithCause net doc list most) log.steps
        (λ s there_s. known s (All-contains (descent.IsKnownBound (flagged_cost doc list) formula tops (length list) most) log.steps s f.bounds there_s));
  }

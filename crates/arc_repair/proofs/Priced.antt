-- The models of a repair formula have the prices of their edits, and are the edits that mend the network.
use Rattle.std.proofs.Common.{◌≡◌, ◌≤◌, ℕ, Bool, List, length}
use Rattle.cnf_types.specs.declared.literal.Lit.{Lit}
use Rattle.cnf_types.specs.declared.clauses.Formula.{Formula}
use Rattle.net_model.specs.declared.policies.Document.{Document}
use Rattle.net_model.specs.declared.rows.Network.{Network}
use Rattle.net_model.specs.Validity.{IsValid}
use Rattle.edit_list.specs.declared.edit_kinds.Edit.{Edit}
use Rattle.edit_list.specs.After.{IsAfter}
use Rattle.edit_list.specs.Determined.{IsCountable, AfterIsThere, AfterIsValid}
use Rattle.edit_list.specs.EditLists.{AreEdits}
use Rattle.edit_list.specs.Prices.{chosen_of, price_of_flags}
use Rattle.policy_encode.specs.Formulas.{IsRepairFormula}
use Rattle.policy_encode.specs.Laws as encoded
use Rattle.price_descent.specs.Prices.{HasModel, ArePriced}
use Rattle.arc_repair.specs.Repairs.{Mends}
use Rattle.arc_repair.proofs.Bounds.{to_encoded, to_priced}

module _ (models : encoded.ModelsAreRepairs) (one : encoded.OneModelServes) (there : AfterIsThere) (is_valid : AfterIsValid) (net : Network) (doc : Document) (list : List Edit)
    (most : ℕ) (formula : Formula) (tops : List Lit)
    (valid : IsValid net) (countable : IsCountable net) (edits : AreEdits net doc list) (is : IsRepairFormula net doc list most formula tops) where
  edited : (flags : List Bool) → length flags ≡ length list → (after : Network) → IsAfter net (chosen_of list flags) after → encoded.IsEdited net doc list flags after
  edited flags each after is_after = record { valid = valid; edits = edits; one_each = each; is_after = is_after; valid_after = is_valid net valid countable (chosen_of list flags) after is_after }

  -- what a model of the formula with a bound shows about the edits that it begins with
  pub record IsBought (flags : List Bool) (bound : ℕ) : Type 0 where
    pub mends : Mends net doc list flags
    pub affordable : price_of_flags doc list flags ≤ bound

  pub model_mends : (flags : List Bool) (bound : ℕ) → length flags ≡ length list → bound ≤ most → HasModel formula tops flags bound → IsBought flags bound
  model_mends flags bound each within has =
      let some = there net valid countable (chosen_of list flags) in
      let repair = (models net doc list most formula tops flags some.0 bound is (edited flags each some.0 some.1.is_after) within).0
      (record { assignment = has.assignment; begins = has.begins; satisfies = has.satisfies; keeps = to_encoded has.assignment tops bound has.keeps }) in
      record { mends = record { one_each = each; after = some.0; is_after = some.1.is_after; meets = repair.met }; affordable = repair.affordable }

  pub mends_model : (flags : List Bool) (bound : ℕ) → Mends net doc list flags → price_of_flags doc list flags ≤ bound → bound ≤ most → HasModel formula tops flags bound
  mends_model flags bound mends affordable within =
      let has = (models net doc list most formula tops flags mends.after bound is (edited flags mends.one_each mends.after mends.is_after) within).1
      (record { met = mends.meets; affordable = affordable }) in
      record { assignment = has.assignment; begins = has.begins; satisfies = has.satisfies; keeps = to_priced has.assignment tops bound has.keeps }

  pub are_priced : ArePriced (price_of_flags doc list) formula tops (length list) most
  are_priced = record {
    told = λ flags bound each within has. (model_mends flags bound each within has).affordable;
    one_model = λ flags bound each within has.
        let bought = model_mends flags bound each within has in
        let m = one net doc list most formula tops flags bought.mends.after is (edited flags each bought.mends.after bought.mends.is_after) bought.mends.meets in
        record { assignment = m.assignment; begins = m.begins; satisfies = m.satisfies; keeps = λ b above below. to_priced m.assignment tops b (m.keeps b above below) };
  }

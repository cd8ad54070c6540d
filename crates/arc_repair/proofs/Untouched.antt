-- Choosing no edits: its price, and when the network needs no edits.
use Rattle.std.proofs.Common.{◌≡◌, ℕ, Bool, false, List, [], ◌∷◌, length, refl, sym, ap, subst}
use Rattle.std.proofs.lemmas.Bool.{false≢true}
use Rattle.std.proofs.lemmas.List.{length-map}
use Rattle.cnf_types.specs.declared.literal.Lit.{Lit}
use Rattle.cnf_types.specs.declared.clauses.Formula.{Formula}
use Rattle.net_model.specs.declared.policies.Document.{Document}
use Rattle.net_model.specs.declared.rows.Network.{Network}
use Rattle.net_model.specs.declared.verdicts.Verdict.{Verdict}
use Rattle.net_model.specs.Policies.{MeetsDocument}
use Rattle.net_model.specs.Validity.{IsValid}
use Rattle.edit_list.specs.declared.claims.Claim.TheVariants.{Repaired}
use Rattle.edit_list.specs.declared.edit_kinds.Edit.{Edit}
use Rattle.edit_list.specs.After.{IsAfter}
use Rattle.edit_list.specs.Ordered.{IsInOrder}
use Rattle.network_edit_laws.proofs.NoEdits.{none_change}
use Rattle.network_edit_laws.specs.Laws.{NoEditsChangeNothing}
use Rattle.edit_list.specs.Prices.{chosen_of, price_of, price_of_flags, none_of}
use Rattle.policy_encode.specs.Formulas.{IsRepairFormula}
use Rattle.arc_repair.specs.Claims.{Shows}
use Rattle.arc_repair.specs.Laws.{MetNetworksNeedNoEdits}
use Rattle.arc_repair.specs.Repairs.{Mends}

pub none_chosen : (list : List Edit) → chosen_of list (none_of list) ≡ []
none_chosen [] = refl
none_chosen (e ∷ es) = none_chosen es

pub none_for_each : (list : List Edit) → length (none_of list) ≡ length list
none_for_each list = length-map list (λ e. false)

pub none_costs : (doc : Document) (list : List Edit) → price_of_flags doc list (none_of list) ≡ 0
none_costs doc list = ap (price_of doc.weights) (none_chosen list)

-- an empty log shows a repair of price 0
pub shows_free : (net : Network) (doc : Document) (list : List Edit) (bound : ℕ) (flags : List Bool) (verdicts : List Verdict) (formula : Formula) (tops : List Lit) →
    IsRepairFormula net doc list bound formula tops → Shows net doc list (Repaired 0 bound flags verdicts) []
shows_free net doc list bound flags verdicts formula tops is = record { formula = formula; tops = tops; is_formula = is; accepted = tt; refuting = λ needs. absurd (false≢true needs) }

pub met_networks : NoEditsChangeNothing → MetNetworksNeedNoEdits
met_networks nothing net doc list valid names packets routes meets = record {
  one_each = none_for_each list;
  after = net;
  is_after = subst (λ (chosen : List Edit). IsAfter net chosen net) (sym (none_chosen list)) (nothing net valid names packets routes);
  meets = meets;
}

pub met_in_order : (net : Network) (doc : Document) (list : List Edit) → IsValid net → IsInOrder net → MeetsDocument net doc → Mends net doc list (none_of list)
met_in_order net doc list valid order meets = met_networks none_change net doc list valid order.names order.packet_lists order.route_lists meets

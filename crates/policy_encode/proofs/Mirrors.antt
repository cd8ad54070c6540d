-- A question whose arcs of conditions stand for the routed arcs of a network.
use Rattle.std.proofs.Common.{◌≡◌, ℕ, ◌&&◌, Bool, true, not, inl, inr, IsTrue, List, [], ◌∷◌, map, filter, refl, sym, ◌∙◌, ap, subst}
use Rattle.std.specs.Prelude.{Contains}
use Rattle.std.specs.List.{list_all}
use Rattle.std.proofs.lemmas.Bool.{false≢true, cases_Bool, and_parts, and_from}
use Rattle.std.proofs.lemmas.List.Elements.{All-contains}
use Rattle.std.proofs.lemmas.List.Folds.{list_all-append}
use Rattle.std.proofs.lemmas.List.Kept.{AllPairs-filter}
use Rattle.arc_base.proofs.Items.{Contains-map, from_map, from_filter, All-from, AllPairs-map, AllPairs-unmap}
use Rattle.graph_flow.specs.declared.arcs.Arc as shown
use Rattle.graph_flow.specs.Paths as graphs
use Rattle.net_model.specs.declared.policies.PolicyKind.{PolicyKind}
use Rattle.net_model.specs.declared.policies.PolicyKind.TheVariants as kinds
use Rattle.net_model.specs.Routing.{Arc}
use Rattle.net_model.specs.Witnesses.{MayBreak}
use Rattle.condition_formula.specs.declared.network.ConditionArc.{ConditionArc}
use Rattle.condition_formula.specs.Conditions.{comes_true, lists_of, is_routed, is_arc_open, is_counted, bare, IsClearArc}
use Rattle.policy_encode.specs.Questions.{demand_of}

pub open_from : (chosen : ℕ → Bool) (k : ℕ) (ca : ConditionArc) → IsTrue (is_routed chosen ca) → IsClearArc chosen k ca → is_arc_open chosen k ca ≡ true
open_from chosen k ca routed clear =
    let out = (lists_of ca k).outbound in
    let ins = (lists_of ca k).inbound in
    list_all-append (comes_true chosen) ca.routing (out ∷ ins ∷ []) ∙
    and_from (list_all (comes_true chosen) ca.routing) (list_all (comes_true chosen) (out ∷ ins ∷ [])) routed
    (and_from (comes_true chosen out) (comes_true chosen ins && true) clear.outbound (and_from (comes_true chosen ins) true clear.inbound refl))

pub record IsOpenTo (chosen : ℕ → Bool) (k : ℕ) (ca : ConditionArc) : Type 0 where
  pub routed : IsTrue (is_routed chosen ca)
  pub clear : IsClearArc chosen k ca

pub open_to : (chosen : ℕ → Bool) (k : ℕ) (ca : ConditionArc) → is_arc_open chosen k ca ≡ true → IsOpenTo chosen k ca
open_to chosen k ca open_is =
    let out = (lists_of ca k).outbound in
    let ins = (lists_of ca k).inbound in
    let both = and_parts (list_all (comes_true chosen) ca.routing) (list_all (comes_true chosen) (out ∷ ins ∷ [])) (sym (list_all-append (comes_true chosen) ca.routing (out ∷ ins ∷ [])) ∙ open_is) in
    let lists = and_parts (comes_true chosen out) (comes_true chosen ins && true) both.1 in
    record { routed = both.0; clear = record { outbound = lists.0; inbound = (and_parts (comes_true chosen ins) true lists.1).0 } }

-- an arc that counts for the demand may break the policy
pub counts_breaks : (kind : PolicyKind) (ca : ConditionArc) (arc : Arc) → ca.waypoint ≡ arc.row.waypoint → is_counted (demand_of kind) ca ≡ true → MayBreak kind arc
counts_breaks kinds.Blocked ca arc same counts = tt
counts_breaks kinds.Through ca arc same counts = elim (cases_Bool ca.waypoint) [
  | inl t ↦ absurd (false≢true (sym (ap not t) ∙ counts))
  | inr f ↦ sym same ∙ f
]
counts_breaks (kinds.Reach k) ca arc same counts = tt

pub breaks_counts : (kind : PolicyKind) (ca : ConditionArc) (arc : Arc) → ca.waypoint ≡ arc.row.waypoint → MayBreak kind arc → is_counted (demand_of kind) ca ≡ true
breaks_counts kinds.Blocked ca arc same may = refl
breaks_counts kinds.Through ca arc same may = ap not (same ∙ may)
breaks_counts (kinds.Reach k) ca arc same may = refl

-- a part of the arcs makes a graph too
pub part_is_graph : (nodes : ℕ) (arcs : List ConditionArc) (test : ConditionArc → Bool) → graphs.IsGraph (record { nodes = nodes; arcs = map bare arcs }) →
    graphs.IsGraph (record { nodes = nodes; arcs = map bare (filter test arcs) })
part_is_graph nodes arcs test is = record {
  joined = All-from (graphs.Joins nodes) (map bare (filter test arcs)) (λ a m.
      let r = from_map bare (filter test arcs) a m in
      All-contains (graphs.Joins nodes) (map bare arcs) a is.joined (subst (λ (b : shown.Arc). Contains (map bare arcs) b) r.2 (Contains-map bare arcs r.0 (from_filter test arcs r.0 r.1).0)));
  opposite = AllPairs-map graphs.MayShare bare (filter test arcs)
      (AllPairs-filter (λ (a : ConditionArc) (b : ConditionArc). graphs.MayShare (bare a) (bare b)) test arcs (AllPairs-unmap graphs.MayShare bare arcs is.opposite));
}

-- The network of conditions: for each policy of the document a question, with the arcs over which
-- packets may go.
use Rattle.std.specs.Prelude.{◌≡◌, ℕ, ◌+◌, ◌&&◌, Bool, true, false, not, Some, List, [], ◌∷◌, map}
use Rattle.std.specs.Prelude.{filter, length, slice_get, if◌then◌else◌}
use Rattle.std.specs.List.{flat_map, list_any, AllZip}
use Rattle.std.specs.Option.{option_map_or}
use Rattle.arc_base.specs.declared.place.Face.{Face}
use Rattle.arc_base.specs.declared.prefix.Prefix.{Prefix}
use Rattle.net_model.specs.declared.policies.Class.{Class}
use Rattle.net_model.specs.declared.policies.Document.{Document}
use Rattle.net_model.specs.declared.policies.Policy.{Policy}
use Rattle.net_model.specs.declared.policies.PolicyKind.{PolicyKind}
use Rattle.net_model.specs.declared.policies.PolicyKind.TheVariants as kinds
use Rattle.net_model.specs.declared.rows.FaceRow.{FaceRow}
use Rattle.net_model.specs.declared.rows.LinkRow.{LinkRow}
use Rattle.net_model.specs.declared.rows.Network.{Network}
use Rattle.net_model.specs.Decided.{is_able_end, is_told}
use Rattle.net_model.specs.Routing.{session_at, tail_end, head_end}
use Rattle.net_model.specs.Forwarding.{IsHostOf}
use Rattle.traffic_classes.specs.Classes.{AreClasses}
use Rattle.condition_formula.specs.declared.condition.Condition.{Condition}
use Rattle.condition_formula.specs.declared.condition.Condition.TheVariants.{Always, Never, If}
use Rattle.condition_formula.specs.declared.condition.Condition.TheVariants.{Unless}
use Rattle.condition_formula.specs.declared.network.ConditionArc.{ConditionArc}
use Rattle.condition_formula.specs.declared.network.ConditionNet.{ConditionNet}
use Rattle.condition_formula.specs.declared.network.Question.{Question}
use Rattle.condition_formula.specs.declared.network.Demand.{Demand}
use Rattle.condition_formula.specs.declared.network.Demand.TheVariants.{Blocked, Through, Reach}
use Rattle.edit_list.specs.declared.edit_kinds.Edit.{Edit}
use Rattle.arc_base.specs.Numbered.{placed}
use Rattle.edit_list.specs.Prices.{weight}
use Rattle.policy_encode.specs.Answers.{session_condition, route_condition, arc_lists, class_ends}

-- whether the condition is that nothing holds
abbrev pub is_never : Condition → Bool
is_never Never = true
is_never Always = false
is_never (If edit) = false
is_never (Unless edit) = false

-- whether the link between these two interfaces is able: both make it so
abbrev pub is_able : Network → LinkRow → FaceRow → FaceRow → Bool
is_able net link a b =
    is_able_end net (session_at net link.a) a b && is_able_end net (session_at net link.b) b a

-- the conditions for a route over an able link: the session at its end a, the session at its end b,
-- and the route list at the arc's tail
abbrev pub routing_of : Network → List Edit → Prefix → LinkRow → FaceRow → FaceRow →
    Bool → List Condition
routing_of net list to link a b from_a =
    session_condition net list link.a a ∷ session_condition net list link.b b ∷
    route_condition net list to (tail_end link from_a) (session_at net (tail_end link from_a)) ∷ []

-- the row of the interface at the arc's tail, and at its head, of the rows at the ends a and b
abbrev pub tail_row : FaceRow → FaceRow → Bool → FaceRow
tail_row a b from_a = if from_a then a else b

abbrev pub head_row : FaceRow → FaceRow → Bool → FaceRow
head_row a b from_a = if from_a then b else a

-- the arc of an able link in this direction, with its conditions
abbrev pub arc_over : Network → List Edit → Prefix → List Class → ℕ × LinkRow → FaceRow →
    FaceRow → Bool → ConditionArc
arc_over net list to classes link a b from_a = record {
  link = record { 0 = link.0 };
  tail = (tail_row a b from_a).router.0;
  head = (head_row a b from_a).router.0;
  waypoint = link.1.waypoint;
  routing = routing_of net list to link.1 a b from_a;
  lists =
      map (arc_lists net list (tail_row a b from_a) (head_end link.1 from_a) (head_row a b from_a))
      classes;
}

-- the arcs of an able link, from a to b and from b to a, except for an arc with a condition that
-- never holds
abbrev pub able_arcs : Network → List Edit → Prefix → List Class → ℕ × LinkRow → FaceRow →
    FaceRow → List ConditionArc
able_arcs net list to classes link a b =
    filter (λ arc. not (list_any is_never arc.routing))
    (arc_over net list to classes link a b true ∷ arc_over net list to classes link a b false ∷ [])

-- the arcs of a link: none where it is not able
abbrev pub link_arcs : Network → List Edit → Prefix → List Class → ℕ × LinkRow → List ConditionArc
link_arcs net list to classes link =
    option_map_or (λ a. option_map_or (λ b. if is_able net link.1 a b
    then able_arcs net list to classes link a b else [])
    (slice_get net.faces link.1.b.0) []) (slice_get net.faces link.1.a.0) []

-- all arcs to a host network, by link: none if it is not advertised
abbrev pub arcs_to : Network → List Edit → Prefix → List Class → List ConditionArc
arcs_to net list to classes =
    if is_told net to then flat_map (link_arcs net list to classes) (placed net.links) else []

-- what the policy demands: for reach one path more than links may fail
abbrev pub demand_of : PolicyKind → Demand
demand_of kinds.Blocked = Blocked
demand_of kinds.Through = Through
demand_of (kinds.Reach k) = Reach (k + 1)

-- the question of a policy whose packets enter at the one interface and leave at the other, for
-- this host network and with these classes
abbrev pub question_of : Network → List Edit → PolicyKind → Face → FaceRow → FaceRow → Prefix →
    List Class → Question
question_of net list kind source source_row target to classes = record {
  demand = demand_of kind;
  source = source_row.router.0;
  target = target.router.0;
  arcs = arcs_to net list to classes;
  classes = map (class_ends net list source source_row target) classes;
}

-- the question is that of the policy, which is one of these
pub record IsQuestion (net : Network) (policies : List Policy) (list : List Edit) (policy : Policy)
    (question : Question) : Type 0 where
  pub source : Face
  pub target : Face
  pub to : Prefix
  pub classes : List Class
  pub source_is : IsHostOf net policy.from source.0
  pub target_is : IsHostOf net policy.to target.0
  pub to_is : target_is.face.host ≡ Some to
  pub classes_are : AreClasses net policies policy classes
  pub is :
      question ≡ question_of net list policy.kind source source_is.face target_is.face to classes

-- the network of conditions: the routers, the links, the weights of the edits, and the question of
-- each policy in order
pub record AreConditions (net : Network) (doc : Document) (list : List Edit)
    (conditions : ConditionNet) : Type 0 where
  pub nodes : conditions.nodes ≡ length net.routers
  pub links : conditions.links ≡ length net.links
  pub weights : conditions.weights ≡ map (weight doc.weights) list
  pub questions : AllZip (IsQuestion net doc.policies list) doc.policies conditions.questions

-- A network of conditions under a choice of edits: which arcs are open, and whether a question is
-- met.
use Rattle.std.specs.Prelude.{◌≢◌, ℕ, ◌<◌, Bool, true, false, not, IsTrue, List, [], ◌∷◌, ◌++◌}
use Rattle.std.specs.Prelude.{length, map, filter, slice_index_or, All, Contains}
use Rattle.std.specs.List.{list_all}
use Rattle.graph_flow.specs.declared.arcs.Arc.{Arc}
use Rattle.graph_flow.specs.Paths.{Leads, IsGraph}
use Rattle.graph_flow.specs.Laws.{HavePaths}
use Rattle.condition_formula.specs.declared.condition.Condition.{Condition}
use Rattle.condition_formula.specs.declared.condition.Condition.TheVariants.{Always, Never, If}
use Rattle.condition_formula.specs.declared.condition.Condition.TheVariants.{Unless}
use Rattle.condition_formula.specs.declared.condition.ArcLists.{ArcLists}
use Rattle.condition_formula.specs.declared.condition.ClassEnds.{ClassEnds}
use Rattle.condition_formula.specs.declared.network.ConditionArc.{ConditionArc}
use Rattle.condition_formula.specs.declared.network.Question.{Question}
use Rattle.condition_formula.specs.declared.network.Demand.{Demand}
use Rattle.condition_formula.specs.declared.network.Demand.TheVariants.{Blocked, Through, Reach}

-- whether the condition holds where these edits are chosen
abbrev pub comes_true : (ℕ → Bool) → Condition → Bool
comes_true chosen Always = true
comes_true chosen Never = false
comes_true chosen (If edit) = chosen edit
comes_true chosen (Unless edit) = not (chosen edit)

-- the condition's edit is one of the first `edits`
abbrev pub IsOfEdits : ℕ → Condition → Type 0
IsOfEdits edits Always = Unit {0}
IsOfEdits edits Never = Unit {0}
IsOfEdits edits (If edit) = edit < edits
IsOfEdits edits (Unless edit) = edit < edits

-- the conditions under which the arc's two packet lists permit the class; always for a class
-- without any
abbrev pub lists_of : ConditionArc → ℕ → ArcLists
lists_of arc class = slice_index_or arc.lists class (record { outbound = Always; inbound = Always })

-- all conditions under which the packets of the class go over the arc
abbrev pub conditions_of : ConditionArc → ℕ → List Condition
conditions_of arc class =
    arc.routing ++ (lists_of arc class).outbound ∷ (lists_of arc class).inbound ∷ []

-- the conditions under which the packets of the class enter and leave; always for a class without
-- any
abbrev pub ends_of : Question → ℕ → ClassEnds
ends_of q class = slice_index_or q.classes class (record { enter = Always; leave = Always })

-- whether packets are routed over the arc
abbrev pub is_routed : (ℕ → Bool) → ConditionArc → Bool
is_routed chosen arc = list_all (comes_true chosen) arc.routing

-- whether packets of the class are routed over the arc and permitted
abbrev pub is_arc_open : (ℕ → Bool) → ℕ → ConditionArc → Bool
is_arc_open chosen class arc = list_all (comes_true chosen) (conditions_of arc class)

-- whether the arc counts for the demand: for Through the arcs of waypoints do not
abbrev pub is_counted : Demand → ConditionArc → Bool
is_counted Blocked arc = true
is_counted Through arc = not arc.waypoint
is_counted (Reach paths) arc = true

-- the arcs that count
abbrev pub counted_arcs : Question → List ConditionArc
counted_arcs q = filter (is_counted q.demand) q.arcs

-- the arc without its conditions
abbrev pub bare : ConditionArc → Arc
bare arc = record { link = arc.link; tail = arc.tail; head = arc.head; cost = 0 }

-- the arcs that count and are open to the class
abbrev pub open_arcs : (ℕ → Bool) → Question → ℕ → List Arc
open_arcs chosen q class = map bare (filter (is_arc_open chosen class) (counted_arcs q))

-- the arcs over which packets are routed
abbrev pub routed_arcs : (ℕ → Bool) → Question → List Arc
routed_arcs chosen q = map bare (filter (is_routed chosen) q.arcs)

-- packets of the class enter at the source, go over open arcs, and leave at the target
pub record Comes (chosen : ℕ → Bool) (q : Question) (class : ℕ) : Type 0 where
  pub enter : IsTrue (comes_true chosen (ends_of q class).enter)
  pub leave : IsTrue (comes_true chosen (ends_of q class).leave)
  pub leads : Leads (open_arcs chosen q class) q.source q.target

-- no packets of any class come from the source to the target
abbrev pub IsKeptOff : (ℕ → Bool) → Question → Type 0
IsKeptOff chosen q = (class : ℕ) → class < length q.classes → Comes chosen q class → ⊥

-- the packets of the class enter and leave
pub record PassesEnds (chosen : ℕ → Bool) (q : Question) (class : ℕ) : Type 0 where
  pub enter : IsTrue (comes_true chosen (ends_of q class).enter)
  pub leave : IsTrue (comes_true chosen (ends_of q class).leave)

-- both packet lists of the arc permit the class
pub record IsClearArc (chosen : ℕ → Bool) (class : ℕ) (arc : ConditionArc) : Type 0 where
  pub outbound : IsTrue (comes_true chosen (lists_of arc class).outbound)
  pub inbound : IsTrue (comes_true chosen (lists_of arc class).inbound)

-- all packets enter and leave; and if the two nodes differ, every routed arc is clear, and `many`
-- paths share no link
pub record AreReached (chosen : ℕ → Bool) (q : Question) (many : ℕ) : Type 0 where
  pub ends : (class : ℕ) → class < length q.classes → PassesEnds chosen q class
  pub clear : q.source ≢ q.target → (class : ℕ) → class < length q.classes →
      (arc : ConditionArc) → Contains q.arcs arc → IsTrue (is_routed chosen arc) →
      IsClearArc chosen class arc
  pub paths : q.source ≢ q.target → HavePaths (routed_arcs chosen q) q.source q.target many

-- the demand is met where these edits are chosen
abbrev pub MeetsDemand : (ℕ → Bool) → Question → Demand → Type 0
MeetsDemand chosen q Blocked = IsKeptOff chosen q
MeetsDemand chosen q Through = IsKeptOff chosen q
MeetsDemand chosen q (Reach many) = AreReached chosen q many

-- the question is met where these edits are chosen
abbrev pub IsMet : (ℕ → Bool) → Question → Type 0
IsMet chosen q = MeetsDemand chosen q q.demand

-- the conditions of the arc are about the first `edits` edits
pub record IsAboutEdits (edits : ℕ) (arc : ConditionArc) : Type 0 where
  pub routing : All (IsOfEdits edits) arc.routing
  pub lists : (class : ℕ) →
      IsOfEdits edits (lists_of arc class).outbound × IsOfEdits edits (lists_of arc class).inbound

-- the question is one over these nodes, links and edits
pub record IsSound (nodes links edits : ℕ) (q : Question) : Type 0 where
  pub source : q.source < nodes
  pub target : q.target < nodes
  pub graph : IsGraph (record { nodes = nodes; arcs = map bare q.arcs })
  pub of_links : All (λ arc. arc.link.0 < links) q.arcs
  pub arcs : All (IsAboutEdits edits) q.arcs
  pub ends : (class : ℕ) →
      IsOfEdits edits (ends_of q class).enter × IsOfEdits edits (ends_of q class).leave

-- Clauses of reach: families of arcs that form link-disjoint paths. `used` is the variable of an
-- arc's place, or of a family and a place: the family uses the arc.
use Rattle.std.specs.Prelude.{ℕ, false, not, if◌then◌else◌, ◌==◌, ◌&&◌, List, [], ◌∷◌, ◌++◌, length}
use Rattle.std.specs.Prelude.{map, filter, flat_map, slice_index_or}
use Rattle.condition_formula.specs.declared.network.ConditionArc.{ConditionArc}
use Rattle.condition_formula.specs.declared.network.Question.{Question}
use Rattle.condition_formula.specs.Lists.{upto, pairs}
use Rattle.condition_formula.specs.Conditions.{lists_of, ends_of}
use Rattle.condition_formula.specs.declared.part.Part.{Part}
use Rattle.condition_formula.specs.Clauses.{yes, no, affirmed, denied}

-- the default for a place without an arc
abbrev pub no_arc : ConditionArc
no_arc = record {
  link = record { 0 = 0 };
  tail = 0;
  head = 0;
  waypoint = false;
  routing = [];
  lists = [];
}

-- the arc at a place
abbrev pub arc_at : Question → ℕ → ConditionArc
arc_at q place = slice_index_or q.arcs place no_arc

-- the places of the arcs
abbrev pub places : Question → List ℕ
places q = upto (length q.arcs)

-- the places of the arcs out of the node
abbrev pub out_of : Question → ℕ → List ℕ
out_of q node = filter (λ place. (arc_at q place).tail == node) (places q)

-- the places of the arcs into the node
abbrev pub into : Question → ℕ → List ℕ
into q node = filter (λ place. (arc_at q place).head == node) (places q)

-- the clauses that of any two of the items not both variables are true
abbrev pub exclusions : {X : Type 0} → (X → ℕ) → List X → List (List Part)
exclusions variable items =
    map (λ pair. no (variable pair.0) ∷ no (variable pair.1) ∷ []) (pairs items)

-- the clauses that if one of these places is used, so is one of the others
abbrev pub implications : (ℕ → ℕ) → List ℕ → List ℕ → List (List Part)
implications used ones others =
    map (λ place. no (used place) ∷ map (λ other. yes (used other)) others) ones

-- each used arc is routed
abbrev pub routed_parts : Question → (ℕ → ℕ) → List (List Part)
routed_parts q used = flat_map
    (λ place. map (λ condition. no (used place) ∷ affirmed condition ∷ []) (arc_at q place).routing)
    (places q)

-- flow conservation at an inner node: a used arc enters it exactly if a used arc leaves it
abbrev pub node_parts : Question → (ℕ → ℕ) → ℕ → List (List Part)
node_parts q used node =
    implications used (into q node) (out_of q node) ++
    implications used (out_of q node) (into q node)

-- at most one used arc leaves the node, and at most one enters it
abbrev pub once_parts : Question → (ℕ → ℕ) → ℕ → List (List Part)
once_parts q used node = exclusions used (out_of q node) ++ exclusions used (into q node)

-- the nodes other than source and target
abbrev pub inner_nodes : Question → ℕ → List ℕ
inner_nodes q nodes = filter (λ node. not (node == q.source) && not (node == q.target)) (upto nodes)

-- the used arcs are routed, and form a path from the source to the target
abbrev pub family_parts : Question → ℕ → (ℕ → ℕ) → List (List Part)
family_parts q nodes used =
    routed_parts q used ++ (map (λ place. yes (used place)) (out_of q q.source)
    ∷ map (λ place. yes (used place)) (into q q.target) ∷ [])
    ++ map (λ place. no (used place) ∷ []) (into q q.source)
    ++ map (λ place. no (used place) ∷ []) (out_of q q.target)
    ++ flat_map (node_parts q used) (inner_nodes q nodes) ++
    flat_map (once_parts q used) (upto nodes)

-- the families and places over the link, the families in order
abbrev pub over_link : Question → ℕ → ℕ → List (ℕ × ℕ)
over_link q many link = flat_map (λ family.
    map (λ place. (family, place)) (filter (λ place. (arc_at q place).link.0 == link) (places q)))
    (upto many)

-- the packets of the class enter and leave
abbrev pub ends_parts : Question → ℕ → List (List Part)
ends_parts q class =
    (affirmed (ends_of q class).enter ∷ []) ∷ (affirmed (ends_of q class).leave ∷ []) ∷ []

-- if the arc is routed, it is clear to the class
abbrev pub clear_parts : ℕ → ConditionArc → List (List Part)
clear_parts class arc =
    (map denied arc.routing ++ affirmed (lists_of arc class).outbound ∷ [])
    ∷ (map denied arc.routing ++ affirmed (lists_of arc class).inbound ∷ []) ∷ []

-- the clauses of link-disjoint paths over routed arcs, all of which are clear
abbrev pub paths_parts : Question → ℕ → ℕ → ℕ → (ℕ → ℕ → ℕ) → List (List Part)
paths_parts q nodes links many used =
    flat_map (λ class. flat_map (clear_parts class) q.arcs) (upto (length q.classes))
    ++ flat_map (λ family. family_parts q nodes (used family)) (upto many)
    ++ flat_map (λ link. exclusions (λ item. used item.0 item.1) (over_link q many link))
    (upto links)

-- the packets enter and leave, and there are paths if source and target differ
abbrev pub reached_parts : Question → ℕ → ℕ → ℕ → (ℕ → ℕ → ℕ) → List (List Part)
reached_parts q nodes links many used =
    flat_map (ends_parts q) (upto (length q.classes))
    ++ (if q.source == q.target then [] else paths_parts q nodes links many used)

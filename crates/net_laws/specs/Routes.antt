-- Routes that are left once some links have failed, and what packets then find.
use Rattle.std.specs.Prelude.{◌≡◌, ◌↔◌, ℕ, List, [], ◌∷◌}
use Rattle.arc_base.specs.declared.place.Link.{Link}
use Rattle.arc_base.specs.declared.prefix.Prefix.{Prefix}
use Rattle.net_model.specs.declared.lists.Packet.{Packet}
use Rattle.net_model.specs.declared.policies.Class.{Class}
use Rattle.net_model.specs.declared.rows.Network.{Network}
use Rattle.net_model.specs.Packets.{IsOfClass}
use Rattle.net_model.specs.Routing.{Arc, FailureSet, IsUsable, tail_router, head_router}
use Rattle.net_model.specs.Forwarding.{Ends, AreEnds, Enters, Leaves, source_router, target_router}
use Rattle.net_model.specs.Policies.{IsClear, Reaches}
use Rattle.net_model.specs.Witnesses.{among}
use Rattle.net_laws.specs.Breaking.{no_link, ReachesUnder}

-- the failure set that holds just this link
abbrev pub just : Link → FailureSet
just link = among (link ∷ [])

-- each packet of the class enters and leaves
abbrev pub Passes : Network → Ends → Class → Type 0
Passes net ends class = (p : Packet) → IsOfClass class p → Enters net ends p × Leaves net ends p

-- the arcs are a route from the one router to the other: each can be used, and begins where the one
-- before ends
abbrev pub Route : Network → Prefix → FailureSet → ℕ → List Arc → ℕ → Type 0
Route net to failed u [] v = u ≡ v
Route net to failed u (arc ∷ arcs) v =
    IsUsable net to failed arc × (tail_router arc ≡ u) ×
    Route net to failed (head_router arc) arcs v

-- some route leads from the source to the target
abbrev pub HasRoute : Network → Ends → FailureSet → Type 0
HasRoute net ends failed =
    (arcs : List Arc) × Route net ends.to failed (source_router ends) arcs (target_router ends)

-- a clear class whose packets enter and leave reaches its target under a failure set exactly where
-- a route is left
abbrev pub RoutesDecide : Network → Type 0
RoutesDecide net =
    (ends : Ends) (class : Class) → AreEnds net class ends → IsClear net ends class →
    Passes net ends class →
    (failed : FailureSet) → ReachesUnder net ends class failed ↔ HasRoute net ends failed

-- and it reaches its target under no failures exactly where a route is left under the failure set
-- that holds no link
abbrev pub RoutesDecideAllUp : Network → Type 0
RoutesDecideAllUp net =
    (ends : Ends) (class : Class) → AreEnds net class ends → IsClear net ends class →
    Passes net ends class → Reaches net ends class 0 ↔ HasRoute net ends no_link

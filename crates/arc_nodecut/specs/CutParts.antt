-- What must hold of each arc and each router of a cut.
use Rattle.std.specs.Prelude.{◌≢◌, ◌<◌, Bool, List, length, Contains}
use Rattle.arc_base.specs.declared.place.Router.{Router}
use Rattle.net_model.specs.declared.rows.Network.{Network}
use Rattle.net_model.specs.Routing.{Arc, tail_router, head_router}
use Rattle.net_model.specs.Forwarding.{Ends, source_router, target_router}
use Rattle.net_model.specs.Witnesses.{IsOn}

-- the arc stays on the side: it does not lead from it to a router that is off it and is not one of
-- these
abbrev pub StaysOn : List Router → List Bool → Arc → Type 0
StaysOn routers side arc =
    IsOn side (tail_router arc) → (¬ Contains routers arc.head.router) → IsOn side (head_router arc)

-- the router is one of the network, and neither end
pub record IsInner (net : Network) (ends : Ends) (router : Router) : Type 0 where
  pub within : router.0 < length net.routers
  pub not_source : router.0 ≢ source_router ends
  pub not_target : router.0 ≢ target_router ends

-- the router is off the side
abbrev pub IsOff : List Bool → Router → Type 0
IsOff side router = ¬ IsOn side router.0

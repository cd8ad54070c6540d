-- Paths that share no router but their ends, judged arc by arc.
use Rattle.std.specs.Prelude.{◌≡◌, ◌⊎◌, ℕ}
use Rattle.net_model.specs.declared.rows.Network.{Network}
use Rattle.net_model.specs.declared.verdicts.LinkPath.{LinkPath}
use Rattle.net_model.specs.Routing.{Arc, head_router}
use Rattle.net_model.specs.Forwarding.{Ends, source_router, target_router}
use Rattle.witness_check.specs.Trails.{IsTrail, Avoids}

-- another path may pass the router beside this one: it is one of the ends, or this one leads from
-- source to target and does not come to it
abbrev pub MayPass : Network → Ends → LinkPath → ℕ → Type 0
MayPass net ends path router =
    (router ≡ source_router ends) ⊎ (router ≡ target_router ends) ⊎
    IsTrail net ends.to (Avoids router) (source_router ends) path.links (target_router ends)

-- the arc leads to a router that may be passed beside the path
abbrev pub KeepsOff : Network → Ends → LinkPath → Arc → Type 0
KeepsOff net ends path arc = MayPass net ends path (head_router arc)

-- the one path leads from source to target by routers that may be passed beside the other
abbrev pub GoesOff : Network → Ends → LinkPath → LinkPath → Type 0
GoesOff net ends path other =
    IsTrail net ends.to (KeepsOff net ends other) (source_router ends) path.links
    (target_router ends)

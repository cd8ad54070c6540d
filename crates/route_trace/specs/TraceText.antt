-- The text of a trace: where packets from one prefix to another go, router by router.
use Rattle.std.specs.Prelude.{◌≡◌, ℕ, ◌+◌, ◌<◌, List, [], ◌∷◌, ◌++◌, Option, Some, None, codes}
use Rattle.std.specs.Prelude.{decimal, length, slice_get}
use Rattle.std.specs.List.{flat_map, range_with_len}
use Rattle.std.specs.Option.{option_map_or}
use Rattle.arc_base.specs.PrefixText.{prefix_text}
use Rattle.arc_base.specs.declared.place.Link.{Link}
use Rattle.arc_base.specs.declared.prefix.Prefix.{Prefix}
use Rattle.net_model.specs.declared.rows.FaceRow.{FaceRow}
use Rattle.net_model.specs.declared.rows.Network.{Network}
use Rattle.net_model.specs.Routing.{FailureSet}
use Rattle.net_model.specs.Forwarding.{IsHostFace}
use Rattle.route_trace.specs.Routes.{distance_map, AreDistances, AreNextHops}

-- the name of the router at a place
abbrev pub traced_name : Network → ℕ → List ℕ
traced_name net router = option_map_or (λ r. r.name) (slice_get net.routers router) []

-- a prefix and the name of the router that owns its host network
abbrev pub end_text : Prefix → List ℕ → List ℕ
end_text prefix name = codes " " ++ prefix_text prefix ++ codes " " ++ name

-- the first line: the two ends
abbrev pub trace_head : Prefix → List ℕ → Prefix → List ℕ → List ℕ
trace_head from source to target =
    codes "trace" ++ end_text from source ++ end_text to target ++ codes "\n"

-- the number of a link, counted from 1
abbrev pub traced_link : Link → List ℕ
traced_link link = codes " " ++ decimal (link.0 + 1)

-- the links of the next hops, where there are any
abbrev pub hops_text : List Link → List ℕ
hops_text [] = []
hops_text (hop ∷ hops) = codes " via" ++ flat_map traced_link (hop ∷ hops)

-- a router's distance and its next hops, or none
abbrev pub traced_route : Option ℕ → List Link → List ℕ
traced_route None hops = codes "none"
traced_route (Some distance) hops = decimal distance ++ hops_text hops

-- the line of a router
abbrev pub route_line : List ℕ → Option ℕ → List Link → List ℕ
route_line name distance hops = name ++ codes " " ++ traced_route distance hops ++ codes "\n"

-- the lines of the routers, in order
abbrev pub route_lines : Network → List (Option ℕ) → (ℕ → List Link) → ℕ → List ℕ
route_lines net distances hops routers =
    flat_map (λ u. route_line (traced_name net u) (distance_map distances u) (hops u))
    (range_with_len 0 routers)

-- the text of a trace from a prefix at one interface to a prefix at another: the two ends, and then
-- the line of each router
abbrev pub trace_text : Network → Prefix → FaceRow → Prefix → FaceRow → List (Option ℕ) →
    (ℕ → List Link) → List ℕ
trace_text net from source to target distances hops =
    trace_head from (traced_name net source.router.0) to (traced_name net target.router.0)
    ++ route_lines net distances hops (length net.routers)

-- the text is that of the trace: it has the stable distances to the target's host network and the
-- next hops of each router
pub record IsTrace (net : Network) (failed : FailureSet) (from to : Prefix)
    (text : List ℕ) : Type 0 where
  pub source : FaceRow
  pub target : FaceRow
  pub is_source : IsHostFace net from source
  pub is_target : IsHostFace net to target
  pub host : Prefix
  pub host_is : target.host ≡ Some host
  pub distances : List (Option ℕ)
  pub are_distances : AreDistances net host failed distances
  pub hops : ℕ → List Link
  pub are_hops : (u : ℕ) → u < length net.routers →
      AreNextHops net host failed (distance_map distances) u (hops u)
  pub text_is : text ≡ trace_text net from source to target distances hops

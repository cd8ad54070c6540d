-- Where entries can be added: in existing lists, and in new lists where none is bound. First those
-- of the first router, then those of the second, and so on.
use Rattle.std.specs.Prelude.{ℕ, Bool, ◌&&◌, not, is_some, Option, Some, None, option_map, List}
use Rattle.std.specs.Prelude.{◌++◌, map, length, slice_get, if◌then◌else◌}
use Rattle.std.specs.List.{filter_map}
use Rattle.net_model.specs.declared.lists.PacketList.{PacketList}
use Rattle.net_model.specs.declared.lists.RouteList.{RouteList}
use Rattle.net_model.specs.declared.rows.FaceRow.{FaceRow}
use Rattle.net_model.specs.declared.rows.SessionRow.{SessionRow}
use Rattle.net_model.specs.declared.rows.Network.{Network}
use Rattle.edit_list.specs.declared.sites.Site.{Site}
use Rattle.edit_list.specs.declared.sites.Site.TheVariants.{Bound, New}
use Rattle.arc_base.specs.Numbered.{placed, by_number}

-- the route list at this place, with its router
abbrev pub route_list_site : ℕ × RouteList → ℕ × Site
route_list_site list = (list.1.router.0, Bound (record { 0 = list.0 }))

-- the neighbour of a session at which no route list is bound, with its router
abbrev pub neighbor_site : Network → SessionRow → Option (ℕ × Site)
neighbor_site net session =
    if session.bound then None
    else option_map (λ face. (face.router.0, New session.face)) (slice_get net.faces session.face.0)

-- the packet list at this place, if it is an extended one, with its router
abbrev pub packet_list_site : ℕ × PacketList → Option (ℕ × Site)
packet_list_site list =
    if list.1.extended then Some (list.1.router.0, Bound (record { 0 = list.0 })) else None

-- whether a packet list can be bound inbound: the interface is up, it has an address, and none is
-- bound there
abbrev pub takes_list : FaceRow → Bool
takes_list face = face.up && is_some face.addr && not face.bound_in

-- the interface at this place, if a packet list can be bound inbound, with its router
abbrev pub face_site : ℕ × FaceRow → Option (ℕ × Site)
face_site face =
    if takes_list face.1 then Some (face.1.router.0, New (record { 0 = face.0 })) else None

-- the sites of routes: for each router its route lists and then its neighbours at which none is
-- bound
abbrev pub route_sites : Network → List Site
route_sites net =
    by_number (length net.routers)
    (map route_list_site (placed net.route_lists) ++ filter_map (neighbor_site net) net.sessions)

-- the sites of packets: for each router its extended packet lists and then its interfaces at which
-- one can be bound
abbrev pub packet_sites : Network → List Site
packet_sites net =
    by_number (length net.routers) (filter_map packet_list_site (placed net.packet_lists) ++
    filter_map face_site (placed net.faces))

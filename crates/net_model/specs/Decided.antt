-- Whether interfaces are able and open, and advertise a host network, as truth values, for
-- definitions that compute with them. Each is true where the fact of `Routing` holds.
use Rattle.std.specs.Prelude.{◌==◌, ◌&&◌, not, Bool, true, false, is_some, Option, slice_get}
use Rattle.std.specs.List.{list_any}
use Rattle.std.specs.Option.{option_map_or}
use Rattle.arc_base.specs.declared.prefix.Prefix.{Prefix}
use Rattle.net_model.specs.declared.rows.Protocol.{Protocol}
use Rattle.net_model.specs.declared.rows.Protocol.TheVariants.{Ospf, Bgp}
use Rattle.net_model.specs.declared.rows.FaceRow.{FaceRow}
use Rattle.net_model.specs.declared.rows.SessionRow.{SessionRow}
use Rattle.net_model.specs.declared.rows.Network.{Network}

-- whether the session names the far interface: its address, and the AS of its router
abbrev pub names : Network → SessionRow → FaceRow → Bool
names net s far =
    option_map_or (λ a. a == s.peer) far.addr false &&
    option_map_or (λ r. s.remote == r.asn) (slice_get net.routers far.router.0) false

-- whether the interface takes part in the protocol towards the far one
abbrev pub takes_part : Protocol → Network → Option SessionRow → FaceRow → FaceRow → Bool
takes_part Ospf net session near far = near.enabled
takes_part Bgp net session near far = option_map_or (λ s. names net s far) session false

-- whether the interface makes its link able from its side: it is up, has an address, and takes part
abbrev pub is_able_end : Network → Option SessionRow → FaceRow → FaceRow → Bool
is_able_end net session near far =
    near.up && is_some near.addr && takes_part net.protocol net session near far

-- whether the interface talks to its neighbour: it is not passive, and no session of it is shut
-- down
abbrev pub is_open : Option SessionRow → FaceRow → Bool
is_open session face = not face.passive && option_map_or (λ s. not s.down) session true

-- whether this is the interface's host network, is advertised, and the interface is up
abbrev pub tells : Prefix → FaceRow → Bool
tells to face =
    option_map_or (λ host. host.addr == to.addr && host.len == to.len) face.host false &&
    face.told && face.up

-- whether some interface advertises the host network
abbrev pub is_told : Network → Prefix → Bool
is_told net to = list_any (tells to) net.faces

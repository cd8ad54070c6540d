-- The new lists that edits make, and their names.
use Rattle.std.specs.Prelude.{◌≡◌, ℕ, ◌+◌, Bool, not, Option, Some, None, option_map, List, []}
use Rattle.std.specs.Prelude.{◌++◌, map, filter, take, length, slice_get, codes, decimal, bytes_eq}
use Rattle.std.specs.Prelude.{if◌then◌else◌}
use Rattle.std.specs.List.{filter_map, list_any, range_with_len, zip}
use Rattle.std.specs.Option.{option_map_or}
use Rattle.net_model.specs.declared.rows.FaceRow.{FaceRow}
use Rattle.net_model.specs.declared.rows.SessionRow.{SessionRow}
use Rattle.net_model.specs.declared.rows.Network.{Network}
use Rattle.edit_list.specs.declared.edit_kinds.Edit.{Edit}
use Rattle.edit_list.specs.declared.list_kinds.NewList.{NewList}
use Rattle.edit_list.specs.declared.list_kinds.NewList.TheVariants.{Route, Packet}
use Rattle.arc_base.specs.Numbered.{placed, of_number, is_empty}
use Rattle.edit_list.specs.Changes.{new_prefixes, new_classes}

-- the n-th name for new lists
abbrev pub new_name : ℕ → List ℕ
new_name n = codes "ARC-" ++ decimal n

-- whether the name is one of these
abbrev pub is_name_among : List (List ℕ) → List ℕ → Bool
is_name_among names name = list_any (bytes_eq name) names

-- the first `count` of the names ARC-1, ARC-2 and so on that are none of these; they are found
-- among the first names, as many as these and the counted ones together
abbrev pub free_names : List (List ℕ) → ℕ → List (List ℕ)
free_names names count =
    take count (filter (λ name. not (is_name_among names name))
    (map new_name (range_with_len 1 (length names + count))))

-- the new route list of a session, if the edits make one, with its router
abbrev pub new_route_list : Network → List Edit → SessionRow → Option (ℕ × NewList)
new_route_list net chosen session =
    if is_empty (new_prefixes chosen session.face.0) then None else
    option_map (λ face. (face.router.0, Route session.face)) (slice_get net.faces session.face.0)

-- the new packet list of the interface at this place, if the edits make one, with its router
abbrev pub new_packet_list : List Edit → ℕ × FaceRow → Option (ℕ × NewList)
new_packet_list chosen face =
    if is_empty (new_classes chosen face.0) then None
    else Some (face.1.router.0, Packet (record { 0 = face.0 }))

-- all new lists, with their routers: the route lists in the order of sessions, and then the packet
-- lists in the order of interfaces
abbrev pub new_lists : Network → List Edit → List (ℕ × NewList)
new_lists net chosen =
    filter_map (new_route_list net chosen) net.sessions ++
    filter_map (new_packet_list chosen) (placed net.faces)

-- the new lists of a router
abbrev pub new_lists_of : Network → List Edit → ℕ → List NewList
new_lists_of net chosen router = of_number router (new_lists net chosen)

-- the names that the file of a router gives to lists or binds
abbrev pub names_of : Network → ℕ → List (List ℕ)
names_of net router = option_map_or (λ r. r.names) (slice_get net.routers router) []

-- the names of the new lists of a router, in the order of these lists
abbrev pub new_names_of : Network → List Edit → ℕ → List (List ℕ)
new_names_of net chosen router =
    free_names (names_of net router) (length (new_lists_of net chosen router))

-- the new lists of the router, each with its name
abbrev pub named_lists : Network → List Edit → ℕ → List (NewList × List ℕ)
named_lists net chosen router =
    zip (new_lists_of net chosen router) (new_names_of net chosen router)

-- this is a new list of the router, and this is its name: they are at the same place
pub record IsNewList (net : Network) (chosen : List Edit) (router : ℕ) (list : NewList)
    (name : List ℕ) : Type 0 where
  pub place : ℕ
  pub list_is : slice_get (new_lists_of net chosen router) place ≡ Some list
  pub name_is : slice_get (new_names_of net chosen router) place ≡ Some name

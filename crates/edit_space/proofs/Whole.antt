-- The network that is put together is the network after the edits.
use Rattle.std.proofs.Common.{◌≡◌, ℕ, ◌<◌, List, length, map, sym, subst}
use Rattle.net_model.specs.declared.rows.Network.{Network}
use Rattle.net_model.specs.Validity.{IsValid}
use Rattle.arc_base.specs.NameForms.{IsName}
use Rattle.edit_list.specs.declared.edit_kinds.Edit.{Edit}
use Rattle.edit_list.specs.declared.list_kinds.NewList.{NewList}
use Rattle.edit_space.specs.declared.new_lists.Named.{Named}
use Rattle.edit_space.specs.declared.order.Keyed.{Keyed}
use Rattle.edit_space.specs.declared.order.Places.{Places}
use Rattle.net_model.specs.declared.rows.FaceRow.{FaceRow}
use Rattle.net_model.specs.declared.rows.SessionRow.{SessionRow}
use Rattle.edit_list.specs.After.{IsRouterAfter, IsFaceAfter, IsSessionAfter, IsAfter}
use Rattle.edit_list.specs.NewLists.{IsNewList}
use Rattle.arc_base.specs.Numbered.{placed, EachRow}
use Rattle.edit_space.specs.Working.{AreMade, AreInPlace, packet_keys, route_keys, IsPacketListFor, IsRouteListFor, face_after, session_after}
use Rattle.edit_space.proofs.AfterValid.{is_valid}
use Rattle.edit_space.proofs.NamedFacts.{router_within, name_is_new}
use Rattle.edit_space.proofs.Bound.{faces_are, sessions_are}
use Rattle.edit_space.proofs.ListKinds.{packets, routes}
use Rattle.edit_space.proofs.ListPlaces.{stays_bound, is_bound, lists_in_order, just_lists}

pub in_place : {lists keys sorted : List Keyed} {places : Places} → lists ≡ keys → AreInPlace lists sorted places → AreInPlace keys sorted places
in_place {lists} {keys} {sorted} {places} is p = subst (λ (l : List Keyed). AreInPlace l sorted places) is p

module _ (net : Network) (valid : IsValid net) (chosen : List Edit) (names : List (List (List ℕ))) (named : List Named) (m : AreMade net chosen names named)
    (packets_sorted routes_sorted : List Keyed) (packet_places route_places : Places) (p : AreInPlace (packet_keys net named) packets_sorted packet_places)
    (r : AreInPlace (route_keys net named) routes_sorted route_places)
    (after : Network) (protocol : after.protocol ≡ net.protocol) (links : after.links ≡ net.links) (routers : EachRow (IsRouterAfter net chosen) net.routers after.routers)
    (faces : after.faces ≡ map (face_after net.protocol chosen packet_places) (placed net.faces)) (sessions : after.sessions ≡ map (session_after chosen route_places) net.sessions)
    (packet_rows : EachRow (λ place. IsPacketListFor net chosen) packets_sorted after.packet_lists) (route_rows : EachRow (λ place. IsRouteListFor net chosen) routes_sorted after.route_lists) where
  is_after : IsAfter net chosen after
  is_after = record {
    protocol = protocol;
    links = links;
    routers = routers;
    faces = subst (λ (l : List FaceRow). EachRow (IsFaceAfter net chosen after) net.faces l) (sym faces)
        (faces_are net valid chosen names named m.new_names m.are_named after packet_places
        (stays_bound (packets net chosen valid) valid m packets_sorted p.order p.same after.packet_lists packet_rows packet_places p.are)
        (is_bound (packets net chosen valid) valid m packets_sorted p.order p.same after.packet_lists packet_rows packet_places p.are));
    sessions = subst (λ (l : List SessionRow). EachRow (IsSessionAfter net chosen after) net.sessions l) (sym sessions)
        (sessions_are net valid chosen names named m.new_names m.are_named after route_places
        (is_bound (routes net chosen valid) valid m routes_sorted r.order r.same after.route_lists route_rows route_places r.are));
    packet_order = lists_in_order (packets net chosen valid) valid m packets_sorted p.order p.same after.packet_lists packet_rows;
    packet_lists = just_lists (packets net chosen valid) valid m packets_sorted p.order p.same after.packet_lists packet_rows;
    route_order = lists_in_order (routes net chosen valid) valid m routes_sorted r.order r.same after.route_lists route_rows;
    route_lists = just_lists (routes net chosen valid) valid m routes_sorted r.order r.same after.route_lists route_rows;
  }

  good_names : (router : ℕ) (list : NewList) (name : List ℕ) → IsNewList net chosen router list name → (router < length net.routers) × IsName name
  good_names router list name new =
      (router_within net valid chosen names named m.new_names m.are_named router list name new, (name_is_new net valid chosen names named m.new_names m.are_named router list name m.few new).1)

  pub is_whole : IsAfter net chosen after × IsValid after
  is_whole = (is_after, is_valid net valid chosen after is_after good_names)

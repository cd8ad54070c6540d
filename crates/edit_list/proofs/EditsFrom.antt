-- Where the edits of a network come from: sessions from links, and entries from sites that take them.
use Rattle.std.proofs.Common.{◌≡◌, ℕ, ◌<◌, ◌⊎◌, ◌&&◌, inl, inr, Bool, true, false, not, List, [], ◌∷◌, ◌++◌, length, map, refl, sym, subst, ap, Some, None, Option, if◌then◌else◌}
use Rattle.std.specs.Prelude.{Contains, slice_get, is_some, option_map}
use Rattle.std.specs.List.{filter_map, flat_map}
use Rattle.std.proofs.lemmas.Bool.{and_parts, false≢true}
use Rattle.std.proofs.lemmas.List.Elements.{Contains-append_cases}
use Rattle.std.proofs.lemmas.Option.{none-some, same_Some, slice_get_within}
use Rattle.arc_base.proofs.Items.{Contains-none, from_map, from_piece}
use Rattle.arc_base.specs.declared.place.Face.{Face}
use Rattle.arc_base.specs.declared.place.ListId.{ListId}
use Rattle.arc_base.specs.declared.prefix.Prefix.{Prefix}
use Rattle.net_model.specs.declared.lists.PacketList.{PacketList}
use Rattle.net_model.specs.declared.policies.Class.{Class}
use Rattle.net_model.specs.declared.policies.Document.{Document}
use Rattle.net_model.specs.declared.rows.FaceRow.{FaceRow}
use Rattle.net_model.specs.declared.rows.LinkRow.{LinkRow}
use Rattle.net_model.specs.declared.rows.Network.{Network}
use Rattle.net_model.specs.declared.rows.SessionRow.{SessionRow}
use Rattle.edit_list.specs.declared.edit_kinds.Edit.{Edit}
use Rattle.edit_list.specs.declared.edit_kinds.Edit.TheVariants as edits
use Rattle.edit_list.specs.declared.sites.Site.{Site}
use Rattle.edit_list.specs.declared.sites.Site.TheVariants.{Bound, New}
use Rattle.edit_list.specs.EditLists.{has_session, edits_at, link_edits, route_edit, packet_edit, writable_classes, all_edits, AreEdits}
use Rattle.arc_base.specs.Numbered.{placed, if_number, of_number, by_number}
use Rattle.edit_list.specs.Sites.{route_list_site, neighbor_site, packet_list_site, takes_list, face_site, route_sites, packet_sites}
use Rattle.edit_list.proofs.NewListFacts.{picked_from, placed_is}
use Rattle.edit_list.proofs.Apart.{only_item, number_told}

-- the interface has a session at which no route list is bound
pub record TakesRoutes (net : Network) (face : Face) : Type 0 where
  pub session : SessionRow
  pub one : Contains net.sessions session
  pub at : session.face ≡ face
  pub free : session.bound ≡ false
  pub within : face.0 < length net.faces

-- no packet list is bound inbound at the interface
pub record TakesPackets (net : Network) (face : Face) : Type 0 where
  pub row : FaceRow
  pub at : slice_get net.faces face.0 ≡ Some row
  pub free : row.bound_in ≡ false

-- the packet list is an extended one
pub record TakesClasses (net : Network) (list : ListId) : Type 0 where
  pub row : PacketList
  pub at : slice_get net.packet_lists list.0 ≡ Some row
  pub extended : row.extended ≡ true

abbrev pub IsRouteSite : Network → Site → Type 0
IsRouteSite net (Bound list) = list.0 < length net.route_lists
IsRouteSite net (New face) = TakesRoutes net face

abbrev pub IsPacketSite : Network → Site → Type 0
IsPacketSite net (Bound list) = TakesClasses net list
IsPacketSite net (New face) = TakesPackets net face

-- the interface is an end of a link
abbrev pub IsEnd : Network → Face → Type 0
IsEnd net face = (link : LinkRow) × Contains net.links link × ((face ≡ link.a) ⊎ (face ≡ link.b))

-- what an edit is about is there, where these are the destinations and the classes
abbrev pub IsFrom : Network → List Prefix → List Class → Edit → Type 0
IsFrom net destinations all (edits.Session face) = IsEnd net face
IsFrom net destinations all (edits.RouteList list prefix) = (list.0 < length net.route_lists) × Contains destinations prefix
IsFrom net destinations all (edits.RouteNew face prefix) = TakesRoutes net face × Contains destinations prefix
IsFrom net destinations all (edits.PacketList list class) = TakesClasses net list × Contains (writable_classes all) class
IsFrom net destinations all (edits.PacketNew face class) = TakesPackets net face × Contains (writable_classes all) class

-- which lists give which sites
pub neighbor_told : (net : Network) (session : SessionRow) (site : ℕ × Site) → neighbor_site net session ≡ Some site →
    (site.1 ≡ New session.face) × (session.bound ≡ false) × (session.face.0 < length net.faces)
neighbor_told net session site e = by session.bound refl (slice_get net.faces session.face.0) refl e
  where
    by : (b : Bool) → session.bound ≡ b → (o : Option FaceRow) → slice_get net.faces session.face.0 ≡ o →
        (if b then None else option_map (λ (face : FaceRow). (face.router.0, New session.face)) o) ≡ Some site →
        (site.1 ≡ New session.face) × (session.bound ≡ false) × (session.face.0 < length net.faces)
    by true free o is e = absurd (none-some site e)
    by false free None is e = absurd (none-some site e)
    by false free (Some face) is e = (sym (ap (λ (s : ℕ × Site). s.1) (same_Some _ site e)), free, slice_get_within net.faces session.face.0 face is)

pub packet_list_told : (list : ℕ × PacketList) (site : ℕ × Site) → packet_list_site list ≡ Some site → (site.1 ≡ Bound (record { 0 = list.0 })) × (list.1.extended ≡ true)
packet_list_told list site e = by list.1.extended refl e
  where
    by : (b : Bool) → list.1.extended ≡ b → (if b then Some (list.1.router.0, Bound (record { 0 = list.0 })) else None) ≡ Some site →
        (site.1 ≡ Bound (record { 0 = list.0 })) × (list.1.extended ≡ true)
    by true is e = (sym (ap (λ (s : ℕ × Site). s.1) (same_Some _ site e)), is)
    by false is e = absurd (none-some site e)

pub face_told : (face : ℕ × FaceRow) (site : ℕ × Site) → face_site face ≡ Some site → (site.1 ≡ New (record { 0 = face.0 })) × (face.1.bound_in ≡ false)
face_told face site e = by (takes_list face.1) refl e
  where
    not_bound : (b : Bool) → not b ≡ true → b ≡ false
    not_bound true e = absurd (false≢true e)
    not_bound false e = refl

    by : (b : Bool) → takes_list face.1 ≡ b → (if b then Some (face.1.router.0, New (record { 0 = face.0 })) else None) ≡ Some site →
        (site.1 ≡ New (record { 0 = face.0 })) × (face.1.bound_in ≡ false)
    by true takes e = (
      sym (ap (λ (s : ℕ × Site). s.1) (same_Some _ site e)),
      not_bound face.1.bound_in (and_parts (face.1.up && is_some face.1.addr) (not face.1.bound_in) takes).1,
    )
    by false takes e = absurd (none-some site e)

module _ (net : Network) where
  abbrev pub route_things : List (ℕ × Site)
  route_things = map route_list_site (placed net.route_lists) ++ filter_map (neighbor_site net) net.sessions

  abbrev pub packet_things : List (ℕ × Site)
  packet_things = filter_map packet_list_site (placed net.packet_lists) ++ filter_map face_site (placed net.faces)

  -- the thing of a site
  site_thing : (things : List (ℕ × Site)) (site : Site) → Contains (by_number (length net.routers) things) site → (thing : ℕ × Site) × Contains things thing × (thing.1 ≡ site)
  site_thing things site there =
      let n = from_piece (λ n. of_number n things) _ site there in
      let t = picked_from (if_number n.0) things site n.2 in
      (t.0, t.1, (number_told n.0 t.0 site t.2).1)

  route_site_there : (site : Site) → Contains (route_sites net) site → IsRouteSite net site
  route_site_there site there =
      let t = site_thing route_things site there in
      subst (IsRouteSite net) t.2
      (elim (Contains-append_cases (map route_list_site (placed net.route_lists)) (filter_map (neighbor_site net) net.sessions) t.0 t.1) [
        | inl bound ↦
            let l = from_map route_list_site (placed net.route_lists) t.0 bound in
            subst (λ (s : ℕ × Site). IsRouteSite net s.1) l.2 (slice_get_within net.route_lists l.0.0 l.0.1 (placed_is net.route_lists l.0 l.1))
        | inr new ↦
            let s = picked_from (neighbor_site net) net.sessions t.0 new in
            let told = neighbor_told net s.0 t.0 s.2 in
            subst (IsRouteSite net) (sym told.0) (record { session = s.0; one = s.1; at = refl; free = told.1; within = told.2 })
      ])

  packet_site_there : (site : Site) → Contains (packet_sites net) site → IsPacketSite net site
  packet_site_there site there =
      let t = site_thing packet_things site there in
      subst (IsPacketSite net) t.2
      (elim (Contains-append_cases (filter_map packet_list_site (placed net.packet_lists)) (filter_map face_site (placed net.faces)) t.0 t.1) [
        | inl bound ↦
            let l = picked_from packet_list_site (placed net.packet_lists) t.0 bound in
            let told = packet_list_told l.0 t.0 l.2 in
            subst (IsPacketSite net) (sym told.0) (record { row = l.0.1; at = placed_is net.packet_lists l.0 l.1; extended = told.1 })
        | inr new ↦
            let f = picked_from face_site (placed net.faces) t.0 new in
            let told = face_told f.0 t.0 f.2 in
            subst (IsPacketSite net) (sym told.0) (record { row = f.0.1; at = placed_is net.faces f.0 f.1; free = told.1 })
      ])

  -- the session edits of links
  pub edit_at : (face : Face) (edit : Edit) → Contains (edits_at net face) edit → edit ≡ edits.Session face
  edit_at face edit there = by (has_session net.protocol net face) there
    where
      by : (b : Bool) → Contains (if b then edits.Session face ∷ [] else []) edit → edit ≡ edits.Session face
      by true h = sym (only_item (edits.Session face) edit h)
      by false h = absurd (Contains-none edit h)

  pub edit_of_link : (link : LinkRow) (edit : Edit) → Contains (link_edits net link) edit → (edit ≡ edits.Session link.a) ⊎ (edit ≡ edits.Session link.b)
  edit_of_link link edit there =
      elim (Contains-append_cases (edits_at net link.a) (edits_at net link.b) edit there) [
        | inl one ↦ inl (edit_at link.a edit one)
        | inr two ↦ inr (edit_at link.b edit two)
      ]

  abbrev pub session_list : List Edit
  session_list = flat_map (link_edits net) net.links

  pub session_of : (x : Edit) → Contains session_list x → (face : Face) × IsEnd net face × (x ≡ edits.Session face)
  session_of x there =
      let l = from_piece (link_edits net) net.links x there in
      elim (edit_of_link l.0 x l.2) [
        | inl a ↦ (l.0.a, (l.0, l.1, inl refl), a)
        | inr b ↦ (l.0.b, (l.0, l.1, inr refl), b)
      ]

-- an edit among those of sites
pub at_site : {T : Type 0} (edit : Site → T → Edit) (sites : List Site) (things : List T) (x : Edit) → Contains (flat_map (λ site. map (edit site) things) sites) x →
    (site : Site) × Contains sites site × (thing : T) × Contains things thing × (edit site thing ≡ x)
at_site edit sites things x there =
    let s = from_piece (λ site. map (edit site) things) sites x there in
    let t = from_map (edit s.0) things x s.2 in
    (s.0, s.1, t.0, t.1, t.2)

module _ (net : Network) (destinations : List Prefix) (all : List Class) where
  abbrev pub route_edits : List Edit
  route_edits = flat_map (λ site. map (route_edit site) destinations) (route_sites net)

  abbrev pub packet_edits : List Edit
  packet_edits = flat_map (λ site. map (packet_edit site) (writable_classes all)) (packet_sites net)

  route_from : (site : Site) (p : Prefix) → IsRouteSite net site → Contains destinations p → IsFrom net destinations all (route_edit site p)
  route_from (Bound l) p h one = (h, one)
  route_from (New f) p h one = (h, one)

  packet_from : (site : Site) (c : Class) → IsPacketSite net site → Contains (writable_classes all) c → IsFrom net destinations all (packet_edit site c)
  packet_from (Bound l) c h one = (h, one)
  packet_from (New f) c h one = (h, one)

  -- each edit comes from what it is about
  pub edit_from : (x : Edit) → Contains (all_edits net destinations all) x → IsFrom net destinations all x
  edit_from x there =
      elim (Contains-append_cases (session_list net ++ route_edits) packet_edits x there) [
        | inl before ↦ elim (Contains-append_cases (session_list net) route_edits x before) [
          | inl session ↦ let s = session_of net x session in subst (IsFrom net destinations all) (sym s.2) s.1
          | inr route ↦
              let r = at_site route_edit (route_sites net) destinations x route in
              subst (IsFrom net destinations all) r.4 (route_from r.0 r.2 (route_site_there net r.0 r.1) r.3)
        ]
        | inr packet ↦
            let r = at_site packet_edit (packet_sites net) (writable_classes all) x packet in
            subst (IsFrom net destinations all) r.4 (packet_from r.0 r.2 (packet_site_there net r.0 r.1) r.3)
      ]

-- the edits of a network for a document
pub edits_from : (net : Network) (doc : Document) (list : List Edit) (are : AreEdits net doc list) (x : Edit) → Contains list x → IsFrom net are.destinations are.classes x
edits_from net doc list are x there = edit_from net are.destinations are.classes x (subst (λ (l : List Edit). Contains l x) are.all there)

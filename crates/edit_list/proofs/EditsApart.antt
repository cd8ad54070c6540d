-- The edits of a network are different from each other.
use Rattle.std.proofs.Common.{◌≡◌, ◌≢◌, ℕ, inl, inr, Bool, true, false, List, [], ◌∷◌, ◌++◌}
use Rattle.std.proofs.Common.{length, map, refl, sym, subst, ap, ◌∙◌, arith, if◌then◌else◌}
use Rattle.std.specs.Prelude.{AllPairs, Contains, slice_get}
use Rattle.std.specs.List.{filter_map, flat_map}
use Rattle.std.proofs.lemmas.Bool.{and_from, eq-eqb}
use Rattle.std.proofs.lemmas.List.Elements.{Contains-append_cases}
use Rattle.std.proofs.lemmas.List.Kept.{AllPairs-filter}
use Rattle.std.proofs.lemmas.Option.{same_Some}
use Rattle.arc_base.proofs.Items.{from_map, AllPairs-append, AllPairs-among, AllPairs-map, AllPairs-none, AllPairs-single}
use Rattle.arc_base.specs.declared.place.Face.{Face}
use Rattle.arc_base.specs.declared.prefix.Prefix.{Prefix}
use Rattle.net_model.specs.declared.lists.PacketList.{PacketList}
use Rattle.net_model.specs.declared.lists.RouteList.{RouteList}
use Rattle.net_model.specs.declared.policies.Class.{Class}
use Rattle.net_model.specs.declared.policies.Document.{Document}
use Rattle.net_model.specs.declared.rows.FaceRow.{FaceRow}
use Rattle.net_model.specs.declared.rows.LinkRow.{LinkRow}
use Rattle.net_model.specs.declared.rows.Network.{Network}
use Rattle.net_model.specs.Validity.{IsValid, AreLinksApart, AreSessionsApart}
use Rattle.net_model.proofs.Readings.{place_of_item}
use Rattle.traffic_classes.specs.AllClasses as classes
use Rattle.edit_list.specs.declared.edit_kinds.Edit.{Edit}
use Rattle.edit_list.specs.declared.edit_kinds.Edit.TheVariants as edits
use Rattle.edit_list.specs.declared.sites.Site.{Site}
use Rattle.edit_list.specs.declared.sites.Site.TheVariants.{Bound, New}
use Rattle.edit_list.specs.EditLists.{has_session, edits_at, link_edits, route_edit, packet_edit, writable_classes, all_edits, is_same, AreEdits}
use Rattle.arc_base.specs.Numbered.{placed}
use Rattle.edit_list.specs.Writable.{is_writable}
use Rattle.edit_list.specs.Sites.{route_list_site, neighbor_site, packet_list_site, face_site, route_sites, packet_sites}
use Rattle.edit_list.proofs.NewListFacts.{picked_from, pairs_picked, placed_apart}
use Rattle.edit_list.proofs.Apart.{pieces_apart, map_apart, numbers_apart, once_apart}
use Rattle.edit_list.proofs.EditsFrom.{neighbor_told, packet_list_told, face_told, route_things, packet_things, edit_at, edit_of_link, session_list, session_of, at_site, route_edits, packet_edits}
use Rattle.arc_base.specs.Lists.{AreDistinct}

abbrev place_of : Site → ℕ
place_of (Bound list) = list.0
place_of (New face) = face.0

-- two sites are different
abbrev Differ : ℕ × Site → ℕ × Site → Type 0
Differ s t = s.1 ≢ t.1

bound_or_new : (list face : ℕ) → Bound (record { 0 = list }) ≡ New (record { 0 = face }) → ⊥
bound_or_new list face e = cc

module _ (net : Network) (valid : IsValid net) where
  route_things_apart : AllPairs Differ (route_things net)
  route_things_apart =
      AllPairs-append Differ (map route_list_site (placed net.route_lists)) (filter_map (neighbor_site net) net.sessions)
      (AllPairs-map Differ route_list_site (placed net.route_lists)
      (AllPairs-among (λ (x : ℕ × RouteList) (y : ℕ × RouteList). x.0 ≢ y.0) (λ x y. Differ (route_list_site x) (route_list_site y)) (placed net.route_lists)
      (λ x y in_x in_y differ e. differ (ap place_of e)) (placed_apart net.route_lists)))
      (pairs_picked (AreSessionsApart net) Differ (neighbor_site net) net.sessions
      (λ s t a b apart told_a told_b e. apart.0 (ap place_of (sym (neighbor_told net s a told_a).0 ∙ e ∙ (neighbor_told net t b told_b).0))) valid.sessions_apart)
      (λ a b in_a in_b e.
      let l = from_map route_list_site (placed net.route_lists) a in_a in
      let s = picked_from (neighbor_site net) net.sessions b in_b in
      bound_or_new l.0.0 s.0.face.0 (ap (λ (t : ℕ × Site). t.1) l.2 ∙ e ∙ (neighbor_told net s.0 b s.2).0))

  packet_things_apart : AllPairs Differ (packet_things net)
  packet_things_apart =
      AllPairs-append Differ (filter_map packet_list_site (placed net.packet_lists)) (filter_map face_site (placed net.faces))
      (pairs_picked (λ (x : ℕ × PacketList) (y : ℕ × PacketList). x.0 ≢ y.0) Differ packet_list_site (placed net.packet_lists)
      (λ x y a b differ told_a told_b e. differ (ap place_of (sym (packet_list_told x a told_a).0 ∙ e ∙ (packet_list_told y b told_b).0))) (placed_apart net.packet_lists))
      (pairs_picked (λ (x : ℕ × FaceRow) (y : ℕ × FaceRow). x.0 ≢ y.0) Differ face_site (placed net.faces)
      (λ x y a b differ told_a told_b e. differ (ap place_of (sym (face_told x a told_a).0 ∙ e ∙ (face_told y b told_b).0))) (placed_apart net.faces))
      (λ a b in_a in_b e.
      let l = picked_from packet_list_site (placed net.packet_lists) a in_a in
      let f = picked_from face_site (placed net.faces) b in_b in
      bound_or_new l.0.0 f.0.0 (sym (packet_list_told l.0 a l.2).0 ∙ e ∙ (face_told f.0 b f.2).0))

  abbrev face_of : Edit → ℕ
  face_of (edits.Session face) = face.0
  face_of other = 0

  same_face : (x y : Edit) (f g : Face) → x ≡ y → x ≡ edits.Session f → y ≡ edits.Session g → f.0 ≡ g.0
  same_face x y f g e is_x is_y = sym (ap face_of is_x) ∙ ap face_of e ∙ ap face_of is_y

  links_edits_apart : (l m : LinkRow) → AreLinksApart l m → (x y : Edit) → Contains (link_edits net l) x → Contains (link_edits net m) y → x ≢ y
  links_edits_apart l m apart x y in_x in_y e =
      elim (edit_of_link net l x in_x) [
        | inl xa ↦ elim (edit_of_link net m y in_y) [ inl ya ↦ apart.0 (same_face x y l.a m.a e xa ya) | inr yb ↦ apart.1 (same_face x y l.a m.b e xa yb) ]
        | inr xb ↦ elim (edit_of_link net m y in_y) [ inl ya ↦ apart.2 (same_face x y l.b m.a e xb ya) | inr yb ↦ apart.3 (same_face x y l.b m.b e xb yb) ]
      ]

  edits_at_apart : (face : Face) → AreDistinct (edits_at net face)
  edits_at_apart face = by (has_session net.protocol net face)
    where
      by : (b : Bool) → AreDistinct (if b then edits.Session face ∷ [] else [])
      by true = AllPairs-single (λ x y. x ≢ y) (edits.Session face)
      by false = AllPairs-none (λ x y. x ≢ y)

  link_edits_apart : (link : LinkRow) → Contains net.links link → AreDistinct (link_edits net link)
  link_edits_apart link there =
      let at = place_of_item net.links link there in
      let is = valid.links at.0 link at.1 in
      AllPairs-append (λ x y. x ≢ y) (edits_at net link.a) (edits_at net link.b) (edits_at_apart link.a) (edits_at_apart link.b)
      (λ x y in_x in_y e.
      let same : link.a.0 ≡ link.b.0 = same_face x y link.a link.b e (edit_at net link.a x in_x) (edit_at net link.b y in_y) in
      let rows : is.a ≡ is.b = same_Some _ _ (sym is.a_is ∙ ap (slice_get net.faces) same ∙ is.b_is) in
      is.routers (ap (λ (f : FaceRow). f.router.0) rows))

  sessions_different : AreDistinct (session_list net)
  sessions_different =
      pieces_apart (λ x y. x ≢ y) (link_edits net) net.links
      (AllPairs-among AreLinksApart (λ l m. (x y : Edit) → Contains (link_edits net l) x → Contains (link_edits net m) y → x ≢ y) net.links
      (λ l m in_l in_m apart. links_edits_apart l m apart) valid.links_apart)
      link_edits_apart

  -- the edits of routes and of packets
  one_route_edit : (s t : Site) (p q : Prefix) → route_edit s p ≡ route_edit t q → (s ≡ t) × (p ≡ q)
  one_route_edit (Bound l) (Bound m) p q e = (cc, cc)
  one_route_edit (New f) (New g) p q e = (cc, cc)
  one_route_edit (Bound l) (New g) p q e = absurd (cc)
  one_route_edit (New f) (Bound m) p q e = absurd (cc)

  one_packet_edit : (s t : Site) (c d : Class) → packet_edit s c ≡ packet_edit t d → (s ≡ t) × (c ≡ d)
  one_packet_edit (Bound l) (Bound m) c d e = (cc, cc)
  one_packet_edit (New f) (New g) c d e = (cc, cc)
  one_packet_edit (Bound l) (New g) c d e = absurd (cc)
  one_packet_edit (New f) (Bound m) c d e = absurd (cc)

  -- edits of things that differ at sites that differ
  sites_different : {T : Type 0} (edit : Site → T → Edit) → ((s t : Site) (p q : T) → edit s p ≡ edit t q → (s ≡ t) × (p ≡ q)) →
      (sites : List Site) (things : List T) → AreDistinct sites → AreDistinct things → AreDistinct (flat_map (λ site. map (edit site) things) sites)
  sites_different {T} edit one sites things sites_apart things_apart =
      pieces_apart (λ x y. x ≢ y) (λ site. map (edit site) things) sites
      (AllPairs-among (λ (s : Site) (t : Site). s ≢ t) (λ s t. (x y : Edit) → Contains (map (edit s) things) x → Contains (map (edit t) things) y → x ≢ y) sites
      (λ s t in_s in_t differ x y in_x in_y e.
      let p = from_map (edit s) things x in_x in
      let q = from_map (edit t) things y in_y in
      differ (one s t p.0 q.0 (p.2 ∙ e ∙ sym q.2)).0) sites_apart)
      (λ site there. map_apart (edit site) (λ p q e. (one site site p q e).1) things things_apart)

  -- what an edit is about
  abbrev kind_of : Edit → ℕ
  kind_of (edits.Session face) = 0
  kind_of (edits.RouteList list prefix) = 1
  kind_of (edits.RouteNew face prefix) = 1
  kind_of (edits.PacketList list class) = 2
  kind_of (edits.PacketNew face class) = 2

  route_kind : (site : Site) (p : Prefix) → kind_of (route_edit site p) ≡ 1
  route_kind (Bound l) p = refl
  route_kind (New f) p = refl

  packet_kind : (site : Site) (c : Class) → kind_of (packet_edit site c) ≡ 2
  packet_kind (Bound l) c = refl
  packet_kind (New f) c = refl

  module _ (destinations : List Prefix) (all : List Class) where
    abbrev routes : List Edit
    routes = route_edits net destinations all

    abbrev packets : List Edit
    packets = packet_edits net destinations all

    session_kind_of : (x : Edit) → Contains (session_list net) x → kind_of x ≡ 0
    session_kind_of x there = ap kind_of (session_of net x there).2

    route_kind_of : (x : Edit) → Contains routes x → kind_of x ≡ 1
    route_kind_of x there = let r = at_site route_edit (route_sites net) destinations x there in sym (ap kind_of r.4) ∙ route_kind r.0 r.2

    packet_kind_of : (x : Edit) → Contains packets x → kind_of x ≡ 2
    packet_kind_of x there = let r = at_site packet_edit (packet_sites net) (writable_classes all) x there in sym (ap kind_of r.4) ∙ packet_kind r.0 r.2

    -- and no edit stands twice
    pub edits_different : AreDistinct destinations → AreDistinct all → AreDistinct (all_edits net destinations all)
    edits_different destinations_apart all_apart =
        AllPairs-append (λ x y. x ≢ y) (session_list net ++ routes) packets
        (AllPairs-append (λ x y. x ≢ y) (session_list net) routes sessions_different
        (sites_different route_edit one_route_edit (route_sites net) destinations (numbers_apart (length net.routers) (route_things net) route_things_apart) destinations_apart)
        (λ x y in_x in_y e. omega (arith, session_kind_of x in_x, route_kind_of y in_y, ap kind_of e)))
        (sites_different packet_edit one_packet_edit (packet_sites net) (writable_classes all) (numbers_apart (length net.routers) (packet_things net) packet_things_apart)
        (AllPairs-filter (λ c d. c ≢ d) (λ (class : Class). is_writable class.service) all all_apart))
        (λ x y in_x in_y e.
        let k : kind_of x ≡ 2 = ap kind_of e ∙ packet_kind_of y in_y in
        elim (Contains-append_cases (session_list net) routes x in_x) [
          | inl session ↦ omega (arith, k, session_kind_of x session)
          | inr route ↦ omega (arith, k, route_kind_of x route)
        ])

prefix_itself : (p : Prefix) → is_same p p ≡ true
prefix_itself p = and_from _ _ (eq-eqb p.addr p.addr refl) (eq-eqb p.len p.len refl)

class_itself : (c : Class) → classes.is_same_class c c ≡ true
class_itself c =
    let itself = λ (n : ℕ). eq-eqb n n refl in
    let from = and_from _ _ (itself c.from.addr) (itself c.from.len) in
    let to = and_from _ _ (and_from _ _ from (itself c.to.addr)) (itself c.to.len) in
    and_from _ _ (and_from _ _ to (itself c.service.low)) (itself c.service.high)

-- the edits of a network for a document
pub all_different : (net : Network) (doc : Document) (list : List Edit) → IsValid net → AreEdits net doc list → AreDistinct list
all_different net doc list valid are =
    let destinations_apart : AreDistinct are.destinations =
    subst (λ (l : List Prefix). AreDistinct l) (sym are.destinations_are.once) (once_apart is_same prefix_itself are.destinations_are.hosts [] (AllPairs-none (λ x y. x ≢ y))) in
    let classes_apart : AreDistinct are.classes =
    subst (λ (l : List Class). AreDistinct l) (sym are.classes_are.once)
    (once_apart classes.is_same_class class_itself (flat_map (λ l. l) are.classes_are.lists) [] (AllPairs-none (λ x y. x ≢ y))) in
    subst (λ (l : List Edit). AreDistinct l) (sym are.all) (edits_different net valid are.destinations are.classes destinations_apart classes_apart)

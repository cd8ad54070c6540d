-- The network after edits is valid.
use Rattle.std.proofs.Common.{◌≡◌, ◌≢◌, ℕ, ◌<◌, ◌≤◌, ◌==◌, ◌⊎◌, inl, inr, Bool, true, false, not, ◌||◌, Option}
use Rattle.std.proofs.Common.{Some, None, List, [], ◌∷◌, length, get_or, map, IsTrue, refl, sym, ◌∙◌, ap, subst, arith}
use Rattle.std.specs.Prelude.{AllPairs, Any, Contains, IfSome, IsSomeAnd, IsFalse, MatchBool, slice_get, count_by}
use Rattle.std.proofs.lemmas.Bool.{or_left, or_right}
use Rattle.std.proofs.lemmas.List.Elements.{All-contains}
use Rattle.std.proofs.lemmas.Option.{slice_get_within, slice_get-get_or}
use Rattle.arc_base.specs.Addresses.{AreDisjoint, IsInside}
use Rattle.arc_base.specs.declared.place.ListId.{ListId}
use Rattle.arc_base.specs.declared.prefix.Prefix.{Prefix}
use Rattle.arc_base.proofs.Items.{All-from, AllPairs-among}
use Rattle.net_model.specs.declared.lists.PacketList.{PacketList}
use Rattle.net_model.specs.declared.lists.RouteList.{RouteList}
use Rattle.net_model.specs.declared.rows.Protocol.{Protocol}
use Rattle.net_model.specs.declared.rows.Protocol.TheVariants.{Ospf, Bgp}
use Rattle.net_model.specs.declared.rows.FaceRow.{FaceRow}
use Rattle.net_model.specs.declared.rows.LinkRow.{LinkRow}
use Rattle.net_model.specs.declared.rows.RouterRow.{RouterRow}
use Rattle.net_model.specs.declared.rows.SessionRow.{SessionRow}
use Rattle.net_model.specs.declared.rows.Network.{Network}
use Rattle.net_model.specs.Validity.{EndsAt, IsLinkEnd, AreLinked, AreApart, AreLinksApart, AreSessionsApart}
use Rattle.net_model.specs.Validity.{FitsProtocol, IsValid, IsValidFace, IsValidLink, IsValidSession, IsValidPacketList, IsValidRouteList}
use Rattle.arc_base.specs.NameForms.{IsName, IsFaceName}
use Rattle.net_model.proofs.Readings.{item_at_place}
use Rattle.edit_list.specs.declared.edit_kinds.Edit.{Edit}
use Rattle.edit_list.specs.declared.list_kinds.NewList.{NewList}
use Rattle.edit_list.specs.Changes.{new_classes, new_prefixes}
use Rattle.edit_list.specs.After.{edited_packet_list, edited_route_list, IsNewPacketList, IsNewRouteList, IsPacketListAfter, IsRouteListAfter}
use Rattle.edit_list.specs.After.{StaysBound, IsRouterAfter, IsFaceAfter, IsSessionAfter, passive_after, IsAfter}
use Rattle.edit_list.specs.NewLists.{new_names_of, IsNewList}
use Rattle.arc_base.specs.Numbered.{is_empty}
use Rattle.edit_list.specs.Ordered.{IsKeyBefore}
use Rattle.edit_space.proofs.Keys.{not_before_itself}
use Rattle.edit_list.proofs.RowFacts.{row_was, row_now, rows_all, rows_pairs, rows_map, count_numbers}

-- where a list of either kind stands after the edits
abbrev Moves : {L : Type 0} → List L → List L → (ℕ → L → L) → ListId → ListId → Type 0
Moves before now edited was id = IsSomeAnd (slice_get before was.0) (λ list. slice_get now id.0 ≡ Some (edited was.0 list))

module _ {L : Type 0} (before now : List L) (edited : ℕ → L → L) where
  there_after : (was id : ListId) (o : Option L) → IsSomeAnd o (λ list. slice_get now id.0 ≡ Some (edited was.0 list)) → id.0 < length now
  there_after was id None h = absurd h
  there_after was id (Some list) h = slice_get_within now id.0 (edited was.0 list) h

  new_there : (P : L → Type 0) (id : ListId) → IsSomeAnd (slice_get now id.0) P → id.0 < length now
  new_there P id h = by (slice_get now id.0) refl h
    where
      by : (o : Option L) → slice_get now id.0 ≡ o → IsSomeAnd o P → id.0 < length now
      by None e k = absurd k
      by (Some list) e k = slice_get_within now id.0 list e

  -- what stays bound is a list that there is
  pub stays_within : (o n : Option ListId) → StaysBound (Moves before now edited) o n → IfSome n (λ id. id.0 < length now)
  stays_within None n h = subst (λ (p : Option ListId). IfSome p (λ id. id.0 < length now)) (sym h) tt
  stays_within (Some was) None h = absurd h
  stays_within (Some was) (Some id) h = there_after was id (slice_get before was.0) h

  -- and so is what is bound at an interface or a session, which says that it has a list
  pub bound_within : (P : L → Type 0) (b was_bound bound : Bool) (o n : Option ListId) → bound ≡ (was_bound || not b) → IfSome o (λ id. (id.0 < length before) × IsTrue was_bound) →
      MatchBool b (StaysBound (Moves before now edited) o n) (IsSomeAnd n (λ id. IsSomeAnd (slice_get now id.0) P)) → IfSome n (λ id. (id.0 < length now) × IsTrue bound)
  bound_within P true was_bound bound None n is v h = subst (λ (p : Option ListId). IfSome p (λ id. (id.0 < length now) × IsTrue bound)) (sym h) tt
  bound_within P true was_bound bound (Some was) None is v h = absurd h
  bound_within P true was_bound bound (Some was) (Some id) is v h = (there_after was id (slice_get before was.0) h, is ∙ or_left was_bound false v.1)
  bound_within P false was_bound bound o None is v h = absurd h
  bound_within P false was_bound bound o (Some id) is v h = (new_there P id h, is ∙ or_right was_bound true refl)

module _ (net : Network) (valid : IsValid net) (chosen : List Edit) (after : Network) (is : IsAfter net chosen after)
    (good : (router : ℕ) (list : NewList) (name : List ℕ) → IsNewList net chosen router list name → (router < length net.routers) × IsName name) where
  same_router : {place : ℕ} {was now : FaceRow} → IsFaceAfter net chosen after place was now → now.router.0 ≡ was.router.0
  same_router f = ap (λ (x : FaceRow). x.router.0) f.same

  face_was : (place : ℕ) (now : FaceRow) → slice_get after.faces place ≡ Some now → (was : FaceRow) × (slice_get net.faces place ≡ Some was) × IsFaceAfter net chosen after place was now
  face_was = row_was (IsFaceAfter net chosen after) net.faces after.faces is.faces

  face_now : (place : ℕ) (was : FaceRow) → slice_get net.faces place ≡ Some was → (now : FaceRow) × (slice_get after.faces place ≡ Some now) × IsFaceAfter net chosen after place was now
  face_now = row_now (IsFaceAfter net chosen after) net.faces after.faces is.faces

  same_ends : (place : ℕ) → IsLinkEnd after place → IsLinkEnd net place
  same_ends place h = subst (λ (l : List LinkRow). Any (λ link. EndsAt link place) l) is.links h

  abbrev HostFits : ℕ → Option Prefix → Option Prefix → Type 0
  HostFits place host subnet = IfSome host (λ p. (¬ IsLinkEnd after place) × (s : Prefix) × (subnet ≡ Some s) × IsInside p s)

  host_fits : (place : ℕ) (host subnet : Option Prefix) → IfSome host (λ p. (¬ IsLinkEnd net place) × (s : Prefix) × (subnet ≡ Some s) × IsInside p s) → HostFits place host subnet
  host_fits place None subnet h = tt
  host_fits place (Some p) subnet h = (λ ends. h.0 (same_ends place ends), h.1, h.2, h.3)

  valid_face : (place : ℕ) (now : FaceRow) → slice_get after.faces place ≡ Some now → IsValidFace after place now
  valid_face place now at =
      let r = face_was place now at in
      let was : FaceRow = r.0 in
      let f : IsFaceAfter net chosen after place was now = r.2 in
      let v : IsValidFace net place was = valid.faces place was r.1 in
      let host : now.host ≡ was.host = ap (λ (x : FaceRow). x.host) f.same in
      let subnet : now.subnet ≡ was.subnet = ap (λ (x : FaceRow). x.subnet) f.same in
      record {
        router = omega (arith, v.router, is.routers.whole, same_router f);
        list_in = bound_within net.packet_lists after.packet_lists (edited_packet_list chosen) (IsNewPacketList net chosen (record { 0 = place }))
            (is_empty (new_classes chosen place)) was.bound_in now.bound_in was.list_in now.list_in f.bound_in v.list_in f.list_in;
        list_out = stays_within net.packet_lists after.packet_lists (edited_packet_list chosen) was.list_out now.list_out f.list_out;
        host = subst (λ (s : Option Prefix). HostFits place now.host s) (sym subnet)
            (subst (λ (h : Option Prefix). HostFits place h was.subnet) (sym host) (host_fits place was.host was.subnet v.host));
        cost_low = subst (λ (n : ℕ). 1 ≤ n) (sym (ap (λ (x : FaceRow). x.cost) f.same)) v.cost_low;
        cost_high = subst (λ (n : ℕ). n ≤ 65535) (sym (ap (λ (x : FaceRow). x.cost) f.same)) v.cost_high;
        name = subst IsFaceName (sym (ap (λ (x : FaceRow). x.name) f.same)) v.name;
      }

  valid_link : (place : ℕ) (link : LinkRow) → slice_get after.links place ≡ Some link → IsValidLink after link
  valid_link place link at =
      let v : IsValidLink net link = valid.links place link (ap (λ (l : List LinkRow). slice_get l place) (sym is.links) ∙ at) in
      let a = face_now link.a.0 v.a v.a_is in
      let b = face_now link.b.0 v.b v.b_is in
      record {
        a = a.0;
        b = b.0;
        a_is = a.1;
        b_is = b.1;
        routers = λ e. v.routers (sym (same_router a.2) ∙ e ∙ same_router b.2);
      }

  valid_session : (place : ℕ) (was now : SessionRow) → IsSessionAfter net chosen after place was now → IsValidSession net was → IsValidSession after now
  valid_session place was now s v =
      let face : now.face.0 ≡ was.face.0 = ap (λ (x : SessionRow). x.face.0) s.same in
      record {
        face = omega (arith, v.face, is.faces.whole, face);
        link_end = subst (λ (k : ℕ). IsLinkEnd after k) (sym face) (subst (λ (l : List LinkRow). Any (λ link. EndsAt link was.face.0) l) (sym is.links) v.link_end);
        filter = bound_within net.route_lists after.route_lists (edited_route_list chosen) (IsNewRouteList net chosen was.face)
            (is_empty (new_prefixes chosen was.face.0)) was.bound now.bound was.filter now.filter s.bound v.filter s.filter;
      }

  sessions_apart : (i j : ℕ) (s t : SessionRow) (x y : SessionRow) → IsSessionAfter net chosen after i s x → IsSessionAfter net chosen after j t y →
      AreSessionsApart net s t → AreSessionsApart after x y
  sessions_apart i j s t x y this that h = (λ e. h.0 (sym (face_of s x i this) ∙ e ∙ face_of t y j that), peers)
    where
      face_of : (s x : SessionRow) (i : ℕ) → IsSessionAfter net chosen after i s x → x.face.0 ≡ s.face.0
      face_of s x i this = ap (λ (z : SessionRow). z.face.0) this.same

      peers : (f g : FaceRow) → slice_get after.faces x.face.0 ≡ Some f → slice_get after.faces y.face.0 ≡ Some g → f.router.0 ≡ g.router.0 → x.peer ≢ y.peer
      peers f g at_f at_g routers e =
          let a = face_was s.face.0 f (ap (slice_get after.faces) (sym (face_of s x i this)) ∙ at_f) in
          let b = face_was t.face.0 g (ap (slice_get after.faces) (sym (face_of t y j that)) ∙ at_g) in
          h.1 a.0 b.0 a.1 b.1 (sym (same_router a.2) ∙ routers ∙ same_router b.2)
          (sym (ap (λ (z : SessionRow). z.peer) this.same) ∙ e ∙ ap (λ (z : SessionRow). z.peer) that.same)

  subnets : (i j : ℕ) (f g : FaceRow) → slice_get after.faces i ≡ Some f → slice_get after.faces j ≡ Some g → i ≢ j → AreLinked after i j ⊎ AreApart f g
  subnets i j f g at_f at_g differ =
      let a = face_was i f at_f in
      let b = face_was j g at_g in
      elim (valid.subnets i j a.0 b.0 a.1 b.1 differ) [
        | inl linked ↦ inl (subst (λ (l : List LinkRow). Any (λ link. EndsAt link i × EndsAt link j) l) (sym is.links) linked)
        | inr apart ↦ inr (subst (λ (p : Option Prefix). IfSome p (λ x. IfSome g.subnet (AreDisjoint x))) (sym (ap (λ (z : FaceRow). z.subnet) a.2.same))
            (subst (λ (q : Option Prefix). IfSome a.0.subnet (λ x. IfSome q (AreDisjoint x))) (sym (ap (λ (z : FaceRow). z.subnet) b.2.same)) apart))
      ]

  few_faces : (router : ℕ) → count_by (λ face. face.router.0 == router) after.faces ≤ 256
  few_faces router =
      let owner : FaceRow → ℕ = λ f. f.router.0 in
      let same : map owner after.faces ≡ map owner net.faces = rows_map (IsFaceAfter net chosen after) net.faces after.faces is.faces owner owner (λ k x y h. ap owner h.same) in
      let now : count_by (λ face. face.router.0 == router) after.faces ≡ count_by (λ face. face.router.0 == router) net.faces =
      count_numbers owner router after.faces ∙ ap (count_by (λ n. n == router)) same ∙ sym (count_numbers owner router net.faces) in
      subst (λ (n : ℕ). n ≤ 256) (sym now) (valid.few_faces router)

  fits : (q : Protocol) → net.protocol ≡ q → FitsProtocol q net → FitsProtocol q after
  fits Ospf e h = none after.sessions (is.sessions.whole ∙ ap length h)
    where
      none : (l : List SessionRow) → length l ≡ 0 → l ≡ []
      none [] k = refl
      none (x ∷ xs) k = absurd (omega (arith, k))
  fits Bgp e h = rows_all (IsFaceAfter net chosen after) net.faces after.faces is.faces (λ (f : FaceRow). IsFalse f.passive) (λ (f : FaceRow). IsFalse f.passive) stays h
    where
      stays : (k : ℕ) (was now : FaceRow) → IsFaceAfter net chosen after k was now → IsFalse was.passive → IsFalse now.passive
      stays k was now f not_passive = subst IsFalse (sym (f.passive ∙ ap (λ (p : Protocol). passive_after p chosen k was.passive) e)) not_passive

  router_now : (place : ℕ) (was : RouterRow) → slice_get net.routers place ≡ Some was → (now : RouterRow) × (slice_get after.routers place ≡ Some now) × IsRouterAfter net chosen place was now
  router_now = row_now (IsRouterAfter net chosen) net.routers after.routers is.routers

  new_owner : (router : ℕ) (list : NewList) (name : List ℕ) → IsNewList net chosen router list name → (now : RouterRow) × (slice_get after.routers router ≡ Some now) × Contains now.names name
  new_owner router list name new =
      let nobody : RouterRow = record { name = []; asn = 0; names = [] } in
      let r = router_now router (get_or net.routers router nobody) (slice_get-get_or net.routers router nobody (good router list name new).0) in
      (r.0, r.1, (r.2.names name).1 (inr (item_at_place (new_names_of net chosen router) new.place name new.name_is)))

  valid_packet_list : (list : PacketList) → IsPacketListAfter net chosen list → IsValidPacketList after list
  valid_packet_list list (inl (place, was, at, e)) =
      let v : IsValidPacketList net was = All-contains (IsValidPacketList net) net.packet_lists was valid.packet_lists (item_at_place net.packet_lists place was at) in
      let r = router_now was.router.0 v.owner v.owner_is in
      subst (λ (l : PacketList). IsValidPacketList after l) (sym e) (record { owner = r.0; owner_is = r.1; listed = (r.2.names was.name).1 (inl v.listed); name = v.name })
  valid_packet_list list (inr (face, new)) =
      let o = new_owner list.router.0 _ list.name new.named in
      record { owner = o.0; owner_is = o.1; listed = o.2; name = (good list.router.0 _ list.name new.named).1 }

  valid_route_list : (list : RouteList) → IsRouteListAfter net chosen list → IsValidRouteList after list
  valid_route_list list (inl (place, was, at, e)) =
      let v : IsValidRouteList net was = All-contains (IsValidRouteList net) net.route_lists was valid.route_lists (item_at_place net.route_lists place was at) in
      let r = router_now was.router.0 v.owner v.owner_is in
      subst (λ (l : RouteList). IsValidRouteList after l) (sym e) (record { owner = r.0; owner_is = r.1; listed = (r.2.names was.name).1 (inl v.listed); name = v.name })
  valid_route_list list (inr (face, new)) =
      let o = new_owner list.router.0 _ list.name new.named in
      record { owner = o.0; owner_is = o.1; listed = o.2; name = (good list.router.0 _ list.name new.named).1 }

  names_differ : (r s : ℕ) (m n : List ℕ) → IsKeyBefore (r, m) (s, n) → r ≡ s → m ≢ n
  names_differ r s m n before routers names =
      not_before_itself (s, n) (subst (λ (x : List ℕ). IsKeyBefore (s, x) (s, n)) names (subst (λ (k : ℕ). IsKeyBefore (k, m) (s, n)) routers before))

  pub is_valid : IsValid after
  is_valid = record {
    faces = valid_face;
    links = valid_link;
    links_apart = subst (λ (l : List LinkRow). AllPairs AreLinksApart l) (sym is.links) valid.links_apart;
    sessions = rows_all (IsSessionAfter net chosen after) net.sessions after.sessions is.sessions (IsValidSession net) (IsValidSession after) valid_session valid.sessions;
    sessions_apart = rows_pairs (IsSessionAfter net chosen after) net.sessions after.sessions is.sessions (AreSessionsApart net) (AreSessionsApart after) sessions_apart valid.sessions_apart;
    subnets = subnets;
    few_routers = omega (arith, valid.few_routers, is.routers.whole);
    few_links = subst (λ (l : List LinkRow). length l ≤ 1024) (sym is.links) valid.few_links;
    few_faces = few_faces;
    router_names = rows_all (IsRouterAfter net chosen) net.routers after.routers is.routers (λ (r : RouterRow). IsName r.name) (λ (r : RouterRow). IsName r.name)
        (λ k was now h v. subst IsName (sym h.name) v) valid.router_names;
    routers_named_apart = rows_pairs (IsRouterAfter net chosen) net.routers after.routers is.routers (λ (r : RouterRow) (s : RouterRow). r.name ≢ s.name)
        (λ (r : RouterRow) (s : RouterRow). r.name ≢ s.name)
        (λ i j x z y w h k differ e. differ (sym h.name ∙ e ∙ k.name)) valid.routers_named_apart;
    faces_named_apart = rows_pairs (IsFaceAfter net chosen after) net.faces after.faces is.faces (λ (f : FaceRow) (g : FaceRow). f.router.0 ≡ g.router.0 → f.name ≢ g.name)
        (λ (f : FaceRow) (g : FaceRow). f.router.0 ≡ g.router.0 → f.name ≢ g.name)
        (λ i j x z y w h k differ routers names. differ (sym (same_router h) ∙ routers ∙ same_router k)
        (sym (ap (λ (f : FaceRow). f.name) h.same) ∙ names ∙ ap (λ (f : FaceRow). f.name) k.same)) valid.faces_named_apart;
    packet_lists = All-from (IsValidPacketList after) after.packet_lists (λ l there. valid_packet_list l ((is.packet_lists l).0 there));
    packet_lists_named_apart = AllPairs-among (λ (l : PacketList) (m : PacketList). IsKeyBefore (l.router.0, l.name) (m.router.0, m.name))
        (λ (l : PacketList) (m : PacketList). l.router.0 ≡ m.router.0 → l.name ≢ m.name) after.packet_lists
        (λ l m in_l in_m before. names_differ l.router.0 m.router.0 l.name m.name before) is.packet_order;
    route_lists = All-from (IsValidRouteList after) after.route_lists (λ l there. valid_route_list l ((is.route_lists l).0 there));
    route_lists_named_apart = AllPairs-among (λ (l : RouteList) (m : RouteList). IsKeyBefore (l.router.0, l.name) (m.router.0, m.name))
        (λ (l : RouteList) (m : RouteList). l.router.0 ≡ m.router.0 → l.name ≢ m.name) after.route_lists
        (λ l m in_l in_m before. names_differ l.router.0 m.router.0 l.name m.name before) is.route_order;
    protocol = subst (λ (q : Protocol). FitsProtocol q after) (sym is.protocol) (fits net.protocol refl valid.protocol);
  }

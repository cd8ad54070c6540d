-- The new lists of a valid network: their routers, and that no two are the same.
use Rattle.std.proofs.Common.{◌≡◌, ◌≢◌, ℕ, ◌<◌, ◌⊎◌, inl, inr, Bool, true, false, Option, Some, None, List, [], ◌∷◌, length, get_or, refl, sym, ◌∙◌, ap, subst, arith, if◌then◌else◌}
use Rattle.std.specs.Prelude.{All, AllPairs, Contains, slice_get, option_map}
use Rattle.std.specs.List.{filter_map, cons_option}
use Rattle.std.proofs.lemmas.List.{get_or_default}
use Rattle.std.proofs.lemmas.List.Elements.{Contains-append_cases}
use Rattle.std.proofs.lemmas.Option.{none-some, same_Some, slice_get_within, slice_get-get_or, get_or_from_slice_get}
use Rattle.arc_base.proofs.Items.{Contains-head, Contains-tail, Contains-cases, Contains-none, All-from, AllPairs-append, AllPairs-rest, AllPairs-first, AllPairs-none, AllPairs-single}
use Rattle.arc_base.specs.declared.place.Face.{Face}
use Rattle.net_model.specs.declared.rows.FaceRow.{FaceRow}
use Rattle.net_model.specs.declared.rows.SessionRow.{SessionRow}
use Rattle.net_model.specs.declared.rows.Network.{Network}
use Rattle.net_model.specs.Validity.{IsValid, AreSessionsApart}
use Rattle.edit_list.specs.declared.edit_kinds.Edit.{Edit}
use Rattle.edit_list.specs.declared.list_kinds.NewList.{NewList}
use Rattle.edit_list.specs.declared.list_kinds.NewList.TheVariants.{Route, Packet}
use Rattle.edit_list.specs.Changes.{new_prefixes, new_classes}
use Rattle.edit_list.specs.NewLists.{new_route_list, new_packet_list, new_lists}
use Rattle.arc_base.specs.Numbered.{placed, is_empty}
use Rattle.edit_list.proofs.Placing.{placed_length, placed_at}

-- what is picked was picked of some item
pub picked_from : {X Y : Type 0} (h : X → Option Y) (xs : List X) (y : Y) → Contains (filter_map h xs) y → (x : X) × Contains xs x × (h x ≡ Some y)
picked_from h [] y there = absurd (Contains-none y there)
picked_from {X} {Y} h (x ∷ xs) y there = by (h x) refl (λ later. picked_from h xs y later) there
  where
    by : (o : Option Y) → h x ≡ o → (Contains (filter_map h xs) y → (z : X) × Contains xs z × (h z ≡ Some y)) → Contains (cons_option o (filter_map h xs)) y →
        (z : X) × Contains (x ∷ xs) z × (h z ≡ Some y)
    by None e rest h = let r = rest h in (r.0, Contains-tail x r.0 xs r.1, r.2)
    by (Some z) e rest h = elim (Contains-cases z y (filter_map _ xs) h) [
      | inl same ↦ (x, Contains-head x xs, e ∙ ap Some same)
      | inr later ↦ let r = rest later in (r.0, Contains-tail x r.0 xs r.1, r.2)
    ]

-- what is picked of an item is among what is picked
pub picks : {X Y : Type 0} (h : X → Option Y) (xs : List X) (x : X) (y : Y) → Contains xs x → h x ≡ Some y → Contains (filter_map h xs) y
picks h [] x y there e = absurd (Contains-none x there)
picks {X} {Y} h (z ∷ xs) x y there e = elim (Contains-cases z x xs there) [
  | inl same ↦ subst (λ o. Contains (cons_option o (filter_map h xs)) y) (sym (ap h same ∙ e)) (Contains-head y (filter_map h xs))
  | inr later ↦ put (h z) (picks h xs x y later e)
]
  where
    put : (o : Option Y) → Contains (filter_map h xs) y → Contains (cons_option o (filter_map h xs)) y
    put None k = k
    put (Some w) k = Contains-tail w y (filter_map h xs) k

-- what holds of pairs of items holds of what is picked of them
pub pairs_picked : {X Y : Type 0} (R : X → X → Type 0) (S : Y → Y → Type 0) (h : X → Option Y) (xs : List X) →
    ((x z : X) (y w : Y) → R x z → h x ≡ Some y → h z ≡ Some w → S y w) → AllPairs R xs → AllPairs S (filter_map h xs)
pairs_picked R S h [] along all = AllPairs-none S
pairs_picked {X} {Y} R S h (x ∷ xs) along all = by (h x) refl (pairs_picked R S h xs along (AllPairs-rest R x xs all))
  where
    by : (o : Option Y) → h x ≡ o → AllPairs S (filter_map h xs) → AllPairs S (cons_option o (filter_map h xs))
    by None e rest = rest
    by (Some y) e rest =
        AllPairs-append S (y ∷ []) (filter_map h xs) (AllPairs-single S y) rest
        (λ u w in_y in_rest.
        let r = picked_from h xs w in_rest in
        let same : y ≡ u = elim (Contains-cases y u [] in_y) [ inl q ↦ q | inr q ↦ absurd (Contains-none u q) ] in
        subst (λ (v : Y). S v w) same (along x r.0 y w (AllPairs-first R x r.0 xs all r.1) e r.2))

-- places differ
pub placed_apart : {X : Type 0} (xs : List X) → AllPairs (λ x y. x.0 ≢ y.0) (placed xs)
placed_apart xs i j d l m e =
    let within : j < length xs = omega (arith, m, placed_length xs) in
    let first : i < length xs = omega (arith, l, within) in
    let at_i : get_or (placed xs) i d ≡ (i, get_or xs i d.1) = read i first in
    let at_j : get_or (placed xs) j d ≡ (j, get_or xs j d.1) = read j within in
    omega (arith, ap (λ p. p.0) at_i, ap (λ p. p.0) at_j, e, l)
  where
    read : (k : ℕ) → k < length xs → get_or (placed xs) k d ≡ (k, get_or xs k d.1)
    read k low =
        get_or_default (placed xs) k d (k, get_or xs k d.1) (omega (arith, low, placed_length xs)) ∙
        sym (placed_at xs k (get_or xs k d.1) low (get_or_default xs k d.1 (get_or xs k d.1) low))

-- an item with its place
pub placed_is : {X : Type 0} (xs : List X) (x : ℕ × X) → Contains (placed xs) x → slice_get xs x.0 ≡ Some x.1
placed_is {X} xs x (k, l, e) =
    let within : k < length xs = omega (arith, l, placed_length xs) in
    let here : get_or (placed xs) k x ≡ (k, get_or xs k x.1) =
    get_or_default (placed xs) k x (k, get_or xs k x.1) l ∙ sym (placed_at xs k (get_or xs k x.1) within (get_or_default xs k x.1 (get_or xs k x.1) within)) in
    let is : (k, get_or xs k x.1) ≡ x = sym here ∙ e in
    subst (λ (y : ℕ × X). slice_get xs y.0 ≡ Some y.1) is (slice_get-get_or xs k x.1 within)

pub placed_there : {X : Type 0} (xs : List X) (k : ℕ) (x : X) → slice_get xs k ≡ Some x → Contains (placed xs) (k, x)
placed_there xs k x e =
    let within : k < length xs = slice_get_within xs k x e in
    (k, omega (arith, within, placed_length xs), sym (placed_at xs k x within (sym (get_or_from_slice_get xs k x x e))))

-- what holds of pairs of items holds of them with their places
pub placed_pairs : {X : Type 0} (R : X → X → Type 0) (xs : List X) → AllPairs R xs → AllPairs (λ x y. R x.1 y.1) (placed xs)
placed_pairs {X} R xs all i j d l m =
    let within : j < length xs = omega (arith, m, placed_length xs) in
    let at_i : (get_or (placed xs) i d).1 ≡ get_or xs i d.1 = read i (omega (arith, l, within)) in
    let at_j : (get_or (placed xs) j d).1 ≡ get_or xs j d.1 = read j within in
    subst (λ (y : X). R (get_or (placed xs) i d).1 y) (sym at_j) (subst (λ (x : X). R x (get_or xs j d.1)) (sym at_i) (all i j d.1 l within))
  where
    read : (k : ℕ) → k < length xs → (get_or (placed xs) k d).1 ≡ get_or xs k d.1
    read k low =
        ap (λ (p : ℕ × X). p.1) (get_or_default (placed xs) k d (k, get_or xs k d.1) (omega (arith, low, placed_length xs)) ∙
        sym (placed_at xs k (get_or xs k d.1) low (get_or_default xs k d.1 (get_or xs k d.1) low)))

module _ (net : Network) (valid : IsValid net) (chosen : List Edit) where
  -- a new route list is that of a session, at the router of its interface
  pub record RouteFrom (list : ℕ × NewList) : Type 0 where
    pub session : SessionRow
    pub one : Contains net.sessions session
    pub face : FaceRow
    pub at_face : slice_get net.faces session.face.0 ≡ Some face
    pub is : list ≡ (face.router.0, Route session.face)
    pub filled : is_empty (new_prefixes chosen session.face.0) ≡ false

  pub record PacketFrom (list : ℕ × NewList) : Type 0 where
    pub place : ℕ
    pub face : FaceRow
    pub at_face : slice_get net.faces place ≡ Some face
    pub is : list ≡ (face.router.0, Packet (record { 0 = place }))
    pub filled : is_empty (new_classes chosen place) ≡ false

  route_from_session : (session : SessionRow) (list : ℕ × NewList) → Contains net.sessions session → new_route_list net chosen session ≡ Some list → RouteFrom list
  route_from_session session list one e = by (is_empty (new_prefixes chosen session.face.0)) refl (slice_get net.faces session.face.0) refl e
    where
      by : (b : Bool) → is_empty (new_prefixes chosen session.face.0) ≡ b → (o : Option FaceRow) → slice_get net.faces session.face.0 ≡ o →
          (if b then None else option_map (λ (f : FaceRow). (f.router.0, Route session.face)) o) ≡ Some list → RouteFrom list
      by true p o q e = absurd (none-some list e)
      by false p None q e = absurd (none-some list e)
      by false p (Some face) q e = record { session = session; one = one; face = face; at_face = q; is = sym (same_Some (face.router.0, Route session.face) list e); filled = p }

  packet_from_face : (face : ℕ × FaceRow) (list : ℕ × NewList) → slice_get net.faces face.0 ≡ Some face.1 → new_packet_list chosen face ≡ Some list → PacketFrom list
  packet_from_face face list at e = by (is_empty (new_classes chosen face.0)) refl e
    where
      by : (b : Bool) → is_empty (new_classes chosen face.0) ≡ b → (if b then None else Some (face.1.router.0, Packet (record { 0 = face.0 }))) ≡ Some list → PacketFrom list
      by true p e = absurd (none-some list e)
      by false p e = record { place = face.0; face = face.1; at_face = at; is = sym (same_Some (face.1.router.0, Packet (record { 0 = face.0 })) list e); filled = p }

  pub new_list_from : (list : ℕ × NewList) → Contains (new_lists net chosen) list → RouteFrom list ⊎ PacketFrom list
  new_list_from list there = elim (Contains-append_cases (filter_map (new_route_list net chosen) net.sessions) (filter_map (new_packet_list chosen) (placed net.faces)) list there) [
    | inl route ↦ let r = picked_from (new_route_list net chosen) net.sessions list route in inl (route_from_session r.0 list r.1 r.2)
    | inr packet ↦ let r = picked_from (new_packet_list chosen) (placed net.faces) list packet in inr (packet_from_face r.0 list (placed_is net.faces r.0 r.1) r.2)
  ]

  router_of : (place : ℕ) (face : FaceRow) (list : ℕ × NewList) (new : NewList) → slice_get net.faces place ≡ Some face → list ≡ (face.router.0, new) → list.0 < length net.routers
  router_of place face list new at is = omega (arith, ap (λ (l : ℕ × NewList). l.0) is, (valid.faces place face at).router)

  pub new_list_within : (list : ℕ × NewList) → Contains (new_lists net chosen) list → list.0 < length net.routers
  new_list_within list there = elim (new_list_from list there) [
    | inl r ↦ router_of r.session.face.0 r.face list (Route r.session.face) r.at_face r.is
    | inr r ↦ router_of r.place r.face list (Packet (record { 0 = r.place })) r.at_face r.is
  ]

  pub new_lists_within : All (λ list. list.0 < length net.routers) (new_lists net chosen)
  new_lists_within = All-from (λ (list : ℕ × NewList). list.0 < length net.routers) (new_lists net chosen) new_list_within

  -- no two new lists are the same
  pub new_lists_apart : AllPairs (λ x y. x.1 ≢ y.1) (new_lists net chosen)
  new_lists_apart =
      AllPairs-append (λ (x : ℕ × NewList) (y : ℕ × NewList). x.1 ≢ y.1) (filter_map (new_route_list net chosen) net.sessions) (filter_map (new_packet_list chosen) (placed net.faces))
      (pairs_picked (AreSessionsApart net) (λ (x : ℕ × NewList) (y : ℕ × NewList). x.1 ≢ y.1) (new_route_list net chosen) net.sessions routes valid.sessions_apart)
      (pairs_picked (λ (x : ℕ × FaceRow) (y : ℕ × FaceRow). x.0 ≢ y.0) (λ (x : ℕ × NewList) (y : ℕ × NewList). x.1 ≢ y.1) (new_packet_list chosen) (placed net.faces) packets (placed_apart net.faces))
      between
    where
      face_of_route : (session : SessionRow) (list : ℕ × NewList) → new_route_list net chosen session ≡ Some list → list.1 ≡ Route session.face
      face_of_route session list e = by (is_empty (new_prefixes chosen session.face.0)) (slice_get net.faces session.face.0) e
        where
          by : (b : Bool) (o : Option FaceRow) → (if b then None else option_map (λ (f : FaceRow). (f.router.0, Route session.face)) o) ≡ Some list → list.1 ≡ Route session.face
          by true o e = absurd (none-some list e)
          by false None e = absurd (none-some list e)
          by false (Some face) e = ap (λ (l : ℕ × NewList). l.1) (sym (same_Some (face.router.0, Route session.face) list e))

      face_of_packet : (face : ℕ × FaceRow) (list : ℕ × NewList) → new_packet_list chosen face ≡ Some list → list.1 ≡ Packet (record { 0 = face.0 })
      face_of_packet face list e = by (is_empty (new_classes chosen face.0)) e
        where
          by : (b : Bool) → (if b then None else Some (face.1.router.0, Packet (record { 0 = face.0 }))) ≡ Some list → list.1 ≡ Packet (record { 0 = face.0 })
          by true e = absurd (none-some list e)
          by false e = ap (λ (l : ℕ × NewList). l.1) (sym (same_Some (face.1.router.0, Packet (record { 0 = face.0 })) list e))

      same_routes : (f g : Face) → Route f ≡ Route g → f.0 ≡ g.0
      same_routes f g e = ap (λ (k : Face). k.0) (route_faces f g e)
        where
          route_faces : (f g : Face) → Route f ≡ Route g → f ≡ g
          route_faces f g e = cc

      same_packets : (f g : Face) → Packet f ≡ Packet g → f.0 ≡ g.0
      same_packets f g e = ap (λ (k : Face). k.0) (packet_faces f g e)
        where
          packet_faces : (f g : Face) → Packet f ≡ Packet g → f ≡ g
          packet_faces f g e = cc

      routes : (x z : SessionRow) (y w : ℕ × NewList) → AreSessionsApart net x z → new_route_list net chosen x ≡ Some y → new_route_list net chosen z ≡ Some w → y.1 ≢ w.1
      routes x z y w apart e f same = apart.0 (same_routes x.face z.face (sym (face_of_route x y e) ∙ same ∙ face_of_route z w f))

      packets : (x z : ℕ × FaceRow) (y w : ℕ × NewList) → x.0 ≢ z.0 → new_packet_list chosen x ≡ Some y → new_packet_list chosen z ≡ Some w → y.1 ≢ w.1
      packets x z y w apart e f same = apart (same_packets (record { 0 = x.0 }) (record { 0 = z.0 }) (sym (face_of_packet x y e) ∙ same ∙ face_of_packet z w f))

      other_kind : (f g : Face) → Route f ≡ Packet g → ⊥
      other_kind f g e = cc

      between : (x y : ℕ × NewList) → Contains (filter_map (new_route_list net chosen) net.sessions) x → Contains (filter_map (new_packet_list chosen) (placed net.faces)) y → x.1 ≢ y.1
      between x y in_x in_y same =
          let r = picked_from (new_route_list net chosen) net.sessions x in_x in
          let p = picked_from (new_packet_list chosen) (placed net.faces) y in_y in
          other_kind r.0.face (record { 0 = p.0.0 }) (sym (face_of_route r.0 x r.2) ∙ same ∙ face_of_packet p.0 y p.2)

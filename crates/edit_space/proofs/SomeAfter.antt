-- There is a network after any edits.
use Rattle.std.proofs.Common.{◌≡◌, ◌≢◌, ℕ, zero, suc, ◌<◌, ◌↔◌, inl, inr, Bool, true, false, not, ◌||◌, Option, Some, None, List, [], ◌∷◌, ◌++◌, length, IsTrue, refl, sym, subst, arith}
use Rattle.std.specs.Prelude.{AllPairs, Contains, IfSome, IsSomeAnd, MatchBool, slice_get}
use Rattle.std.specs.Cmp.Lexicographic.{slice_cmp, on_texts}
use Rattle.std.specs.Ordering.{nat_cmp}
use Rattle.std.specs.declared.cmp.Ordering.TheVariants.{Less}
use Rattle.std.proofs.lemmas.List.Elements.{Contains-append_left, Contains-append_right, Contains-append_cases, All-contains}
use Rattle.std.proofs.lemmas.Map.Lookups.{exact_bytes}
use Rattle.std.proofs.lemmas.Option.{same_Some}
use Rattle.arc_base.proofs.Items.{AllPairs-among}
use Rattle.arc_base.specs.declared.place.Face.{Face}
use Rattle.arc_base.specs.declared.place.ListId.{ListId}
use Rattle.net_model.specs.declared.lists.PacketList.{PacketList}
use Rattle.net_model.specs.declared.lists.RouteList.{RouteList}
use Rattle.net_model.specs.declared.rows.FaceRow.{FaceRow}
use Rattle.net_model.specs.declared.rows.RouterRow.{RouterRow}
use Rattle.net_model.specs.declared.rows.SessionRow.{SessionRow}
use Rattle.net_model.specs.declared.rows.Network.{Network}
use Rattle.net_model.specs.Validity.{IsValid, IsValidFace, IsValidSession}
use Rattle.net_model.proofs.Readings.{place_of_item, item_at_place}
use Rattle.edit_list.specs.declared.edit_kinds.Edit.{Edit}
use Rattle.edit_space.specs.declared.new_lists.Named.{Named}
use Rattle.edit_space.specs.declared.order.Keyed.{Keyed}
use Rattle.edit_list.specs.After.{turned_if, passive_after, StaysBound, IsRouterAfter, IsFaceAfter, IsSessionAfter, IsAfter}
use Rattle.edit_list.specs.Changes.{turns_session, new_classes, new_prefixes}
use Rattle.edit_list.specs.Determined.{IsCountable, AfterIsThere}
use Rattle.edit_list.specs.NewLists.{new_names_of, IsNewList}
use Rattle.arc_base.specs.Numbered.{is_empty, EachRow}
use Rattle.edit_list.specs.Ordered.{IsKeyBefore}
use Rattle.edit_space.specs.Working.{AreMade, key_of, compare_keys, list_at}
use Rattle.edit_space.proofs.Bound.{first_of, packet_name, route_name}
use Rattle.edit_space.proofs.Keys.{keys_total, before_from_less, same_from_equal}
use Rattle.edit_space.proofs.Naming.{no_rows}
use Rattle.edit_space.proofs.ListKinds.{ListsOfKind, IsListAfter, made_for, of_some, packets, routes}
use Rattle.edit_space.proofs.ListPlaces.{keys, key_from, keys_apart, lists_in_order, just_lists}
use Rattle.edit_list.proofs.RowFacts.{item_of}
use Rattle.edit_space.proofs.SomeNames.{names_made, named_made, after_is_valid}
use Rattle.edit_space.proofs.Sorting.{same_by, sort, sorted, from_sort, to_sort}

-- where a row can be found for each row, there is a list of them
pub choose_rows : {X Y : Type 0} (P : ℕ → X → Y → Type 0) (xs : List X) → ((k : ℕ) (x : X) → slice_get xs k ≡ Some x → (y : Y) × P k x y) → (ys : List Y) × EachRow P xs ys
choose_rows P [] pick = ([], no_rows P [] refl)
choose_rows {X} {Y} P (x ∷ xs) pick =
    let first = pick 0 x refl in
    let rest = choose_rows (λ k. P (suc k)) xs (λ k z at. pick (suc k) z at) in
    (first.0 ∷ rest.0, record { whole = omega (arith, rest.1.whole); each = each first.0 first.1 rest.0 rest.1 })
  where
    each : (y : Y) → P 0 x y → (ys : List Y) → EachRow (λ k. P (suc k)) xs ys → (k : ℕ) (a : X) (b : Y) → slice_get (x ∷ xs) k ≡ Some a → slice_get (y ∷ ys) k ≡ Some b → P k a b
    each y one ys rows zero a b at_a at_b = subst (λ (c : X). P 0 c b) (same_Some x a at_a) (subst (λ (c : Y). P 0 x c) (same_Some y b at_b) one)
    each y one ys rows (suc k) a b at_a at_b = rows.each k a b at_a at_b

-- keys in their order
sort_keys : (xs : List Keyed) → AllPairs (λ x y. key_of x ≢ key_of y) xs →
    AllPairs (λ x y. IsKeyBefore (key_of x) (key_of y)) (sort key_of compare_keys keys_total xs) × ((x : Keyed) → Contains (sort key_of compare_keys keys_total xs) x ↔ Contains xs x)
sort_keys xs apart = (
  AllPairs-among (λ (x : Keyed) (y : Keyed). compare_keys (key_of x) (key_of y) ≡ Less) (λ (x : Keyed) (y : Keyed). IsKeyBefore (key_of x) (key_of y))
      (sort key_of compare_keys keys_total xs) (λ x y in_x in_y less. before_from_less (key_of x) (key_of y) less) (sorted key_of compare_keys keys_total xs),
  λ x. (
    from_sort key_of compare_keys keys_total xs x,
    to_sort key_of compare_keys keys_total xs
        (λ a b in_a in_b equal. same_by key_of xs apart a b in_a in_b (same_from_equal (key_of a) (key_of b) equal)) x,
  ),
)

-- the lists of a kind after the edits
module _ {net : Network} {chosen : List Edit} (K : ListsOfKind net chosen) (valid : IsValid net) {names : List (List (List ℕ))} {named : List Named} (m : AreMade net chosen names named) where
  abbrev in_order : List Keyed
  in_order = sort key_of compare_keys keys_total (keys K named)

  order : AllPairs (λ x y. IsKeyBefore (key_of x) (key_of y)) in_order × ((x : Keyed) → Contains in_order x ↔ Contains (keys K named) x)
  order = sort_keys (keys K named) (keys_apart K valid m)

  row : (key : Keyed) → Contains (keys K named) key → (list : K.Row) × K.IsFor key list
  row key there = elim (key_from K valid m key there) [
    | inl old ↦ (K.edited old.id old.list, subst (λ (k : Keyed). K.IsFor k (K.edited old.id old.list)) (sym old.is) (K.old_for old.id old.list old.at))
    | inr new ↦ let one = made_for K key new.face new.site new.new in (one.0, one.2)
  ]

  rows : (lists : List K.Row) × EachRow (λ place. K.IsFor) in_order lists
  rows = choose_rows (λ place. K.IsFor) in_order (λ k key at. row key ((order.1 key).0 (item_at_place in_order k key at)))

  just : (list : K.Row) → Contains rows.0 list ↔ IsListAfter K list
  just = just_lists K valid m in_order order.0 order.1 rows.0 rows.1

  listed_in_order : AllPairs (λ l n. IsKeyBefore (K.router l, K.name l) (K.router n, K.name n)) rows.0
  listed_in_order = lists_in_order K valid m in_order order.0 order.1 rows.0 rows.1

  stays : (o : Option ListId) → IfSome o (λ id. id.0 < length K.lists) →
      (n : Option ListId) × StaysBound (λ was now. IsSomeAnd (slice_get K.lists was.0) (λ list. slice_get rows.0 now.0 ≡ Some (K.edited was.0 list))) o n
  stays None within = (None, refl)
  stays (Some id) within =
      let was = item_of K.lists id.0 within in
      let place = place_of_item rows.0 (K.edited id.0 was.0) ((just (K.edited id.0 was.0)).1 (inl (id.0, was.0, was.1, refl))) in
      (Some (list_at place.0), of_some (λ (l : K.Row). slice_get rows.0 place.0 ≡ Some (K.edited id.0 l)) (slice_get K.lists id.0) was.0 was.1 place.1)

  new_stands : (router : ℕ) (face : Face) (name : List ℕ) → IsNewList net chosen router (K.new face) name → (n : Option ListId) × IsSomeAnd n (λ id. IsSomeAnd (slice_get rows.0 id.0) (K.IsNew face))
  new_stands router face name new =
      let one = K.made router face name new in
      let place = place_of_item rows.0 one.0 ((just one.0).1 (inr (face, one.1))) in
      (Some (list_at place.0), of_some (K.IsNew face) (slice_get rows.0 place.0) one.0 place.1 one.1)

  -- and what is bound: the new list, where there is one, or what was bound
  some_bound : (none : Bool) (face : Face) (o : Option ListId) → IfSome o (λ id. id.0 < length K.lists) →
      (none ≡ false → (router : ℕ) × (name : List ℕ) × IsNewList net chosen router (K.new face) name) →
      (n : Option ListId) × MatchBool none (StaysBound (λ was now. IsSomeAnd (slice_get K.lists was.0) (λ list. slice_get rows.0 now.0 ≡ Some (K.edited was.0 list))) o n)
      (IsSomeAnd n (λ id. IsSomeAnd (slice_get rows.0 id.0) (K.IsNew face)))
  some_bound true face o within new = stays o within
  some_bound false face o within new = let made = new refl in new_stands made.0 face made.1 made.2

module _ (net : Network) (valid : IsValid net) (countable : IsCountable net) (chosen : List Edit) (named : List Named) (m : AreMade net chosen (names_made net valid countable chosen) named) where
  abbrev packet_rows : List PacketList
  packet_rows = (rows (packets net chosen valid) valid m).0

  abbrev route_rows : List RouteList
  route_rows = (rows (routes net chosen valid) valid m).0

  -- the network with these lists, whose other rows are left open
  abbrev listed : List RouterRow → List FaceRow → List SessionRow → Network
  listed routers faces sessions = record { protocol = net.protocol; routers = routers; faces = faces; sessions = sessions; links = net.links; packet_lists = packet_rows; route_lists = route_rows }

  face_row : (place : ℕ) (was : FaceRow) → slice_get net.faces place ≡ Some was → (now : FaceRow) × IsFaceAfter net chosen (listed [] [] []) place was now
  face_row place was at =
      let v : IsValidFace net place was = valid.faces place was at in
      let list_in = some_bound (packets net chosen valid) valid m (is_empty (new_classes chosen place)) (record { 0 = place }) was.list_in
      (first_of (λ (id : ListId). id.0 < length net.packet_lists) (λ id. IsTrue was.bound_in) was.list_in v.list_in)
      (λ e. let name = packet_name net valid chosen (names_made net valid countable chosen) named m.new_names m.are_named place was at e in (was.router.0, name.0, name.1)) in
      let list_out = stays (packets net chosen valid) valid m was.list_out v.list_out in (
        record was { passive = passive_after net.protocol chosen place was.passive; bound_in = was.bound_in || not (is_empty (new_classes chosen place)); list_in = list_in.0; list_out = list_out.0 },
        record { same = refl; passive = refl; bound_in = refl; list_in = list_in.1; list_out = list_out.1 },
      )

  session_row : (place : ℕ) (was : SessionRow) → slice_get net.sessions place ≡ Some was → (now : SessionRow) × IsSessionAfter net chosen (listed [] [] []) place was now
  session_row place was at =
      let there : Contains net.sessions was = item_at_place net.sessions place was at in
      let v : IsValidSession net was = All-contains (IsValidSession net) net.sessions was valid.sessions there in
      let face = item_of net.faces was.face.0 v.face in
      let filter = some_bound (routes net chosen valid) valid m (is_empty (new_prefixes chosen was.face.0)) was.face was.filter
      (first_of (λ (id : ListId). id.0 < length net.route_lists) (λ id. IsTrue was.bound) was.filter v.filter)
      (λ e. let name = route_name net valid chosen (names_made net valid countable chosen) named m.new_names m.are_named was face.0 there face.1 e in (face.0.router.0, name.0, name.1)) in (
        record was { down = turned_if (turns_session chosen was.face.0) was.down; bound = was.bound || not (is_empty (new_prefixes chosen was.face.0)); filter = filter.0 },
        record { same = refl; down = refl; bound = refl; filter = filter.1 },
      )

  router_row : (place : ℕ) (was : RouterRow) → slice_get net.routers place ≡ Some was → (now : RouterRow) × IsRouterAfter net chosen place was now
  router_row place was at =
      let all : List (List ℕ) = was.names ++ new_names_of net chosen place in (
        record { name = was.name; asn = was.asn; names = sort (λ n. n) (slice_cmp nat_cmp) (on_texts (λ n. n)) all },
        record {
          name = refl;
          asn = refl;
          order = sorted (λ n. n) (slice_cmp nat_cmp) (on_texts (λ n. n)) all;
          names = λ name. (
            λ there. Contains-append_cases was.names (new_names_of net chosen place) name (from_sort (λ n. n) (slice_cmp nat_cmp) (on_texts (λ n. n)) all name there),
            λ one. to_sort (λ n. n) (slice_cmp nat_cmp) (on_texts (λ n. n)) all (λ x y in_x in_y equal. exact_bytes x y equal) name
                (elim one [ inl old ↦ Contains-append_left was.names (new_names_of net chosen place) name old | inr new ↦ Contains-append_right was.names (new_names_of net chosen place) name new ]),
          );
        },
      )

  pub some_network : (after : Network) × IsAfter net chosen after
  some_network =
      let routers = choose_rows (IsRouterAfter net chosen) net.routers router_row in
      let faces = choose_rows (IsFaceAfter net chosen (listed [] [] [])) net.faces face_row in
      let sessions = choose_rows (IsSessionAfter net chosen (listed [] [] [])) net.sessions session_row in (
        listed routers.0 faces.0 sessions.0,
        record {
          protocol = refl;
          links = refl;
          routers = routers.1;
          faces = record { whole = faces.1.whole; each = λ k x y at_x at_y. face_in routers.0 faces.0 sessions.0 k x y (faces.1.each k x y at_x at_y) };
          sessions = record { whole = sessions.1.whole; each = λ k x y at_x at_y. session_in routers.0 faces.0 sessions.0 k x y (sessions.1.each k x y at_x at_y) };
          packet_order = listed_in_order (packets net chosen valid) valid m;
          packet_lists = just (packets net chosen valid) valid m;
          route_order = listed_in_order (routes net chosen valid) valid m;
          route_lists = just (routes net chosen valid) valid m;
        },
      )
    where
      -- what is said of a row speaks of the lists alone
      face_in : (routers : List RouterRow) (faces : List FaceRow) (sessions : List SessionRow) (k : ℕ) (x y : FaceRow) →
          IsFaceAfter net chosen (listed [] [] []) k x y → IsFaceAfter net chosen (listed routers faces sessions) k x y
      face_in routers faces sessions k x y f = record { same = f.same; passive = f.passive; bound_in = f.bound_in; list_in = f.list_in; list_out = f.list_out }

      session_in : (routers : List RouterRow) (faces : List FaceRow) (sessions : List SessionRow) (k : ℕ) (x y : SessionRow) →
          IsSessionAfter net chosen (listed [] [] []) k x y → IsSessionAfter net chosen (listed routers faces sessions) k x y
      session_in routers faces sessions k x y f = record { same = f.same; down = f.down; bound = f.bound; filter = f.filter }

pub after_is_there : AfterIsThere
after_is_there net valid countable chosen =
    let made = named_made net valid countable chosen in
    let some = some_network net valid countable chosen made.0 made.1 in
    (some.0, record { is_after = some.1; valid = after_is_valid net valid countable chosen some.0 some.1 })

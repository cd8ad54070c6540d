-- The lists of a kind after edits: which keys they have, that these differ, and where each list stands.
use Rattle.std.proofs.Common.{◌≡◌, ◌≢◌, ℕ, ◌<◌, ◌⊎◌, ◌↔◌, inl, inr, Bool, true, false, not, Option, Some, None, List, ◌++◌, length, get_or, map, refl, sym, ◌∙◌, ap, subst, arith}
use Rattle.std.specs.Prelude.{All, AllPairs, Contains, slice_get, option_map, IfSome, IsSomeAnd, MatchBool}
use Rattle.std.specs.List.{filter_map}
use Rattle.std.proofs.lemmas.List.{get_or_default}
use Rattle.std.proofs.lemmas.List.Elements.{All-contains, Contains-append_left, Contains-append_right, Contains-append_cases}
use Rattle.std.proofs.lemmas.Option.{none-some, same_Some, slice_get_within, slice_get-get_or, get_or_from_slice_get}
use Rattle.arc_base.proofs.Items.{Contains-map, from_map, All-from, AllPairs-append, AllPairs-among, AllPairs-map}
use Rattle.arc_base.specs.declared.place.Face.{Face}
use Rattle.arc_base.specs.declared.place.ListId.{ListId}
use Rattle.net_model.specs.declared.rows.Network.{Network}
use Rattle.net_model.specs.Validity.{IsValid}
use Rattle.net_model.proofs.Readings.{place_of_item, item_at_place}
use Rattle.net_model.proofs.Arcs.{one_item}
use Rattle.edit_list.specs.declared.edit_kinds.Edit.{Edit}
use Rattle.edit_list.specs.declared.list_kinds.NewList.{NewList}
use Rattle.edit_space.specs.declared.new_lists.Named.{Named}
use Rattle.edit_space.specs.declared.order.Keyed.{Keyed}
use Rattle.edit_space.specs.declared.order.Places.{Places}
use Rattle.edit_list.specs.declared.sites.Site.TheVariants.{Bound, New}
use Rattle.edit_list.specs.After.{StaysBound}
use Rattle.edit_list.specs.NewLists.{names_of, IsNewList}
use Rattle.arc_base.specs.Numbered.{placed, EachRow}
use Rattle.edit_list.specs.Ordered.{Key, IsKeyBefore}
use Rattle.edit_space.specs.Working.{key_of, old_key, new_key, new_key_by, IsWithin, ArePlaces, AreMade, list_at, moved, bound_at}
use Rattle.edit_space.proofs.ListKinds.{ListsOfKind, IsListAfter, one_router, made_for, of_some}
use Rattle.edit_list.proofs.NewListFacts.{picks, picked_from, pairs_picked, placed_is, placed_there, placed_pairs}
use Rattle.edit_list.proofs.RowFacts.{item_of, row_was, row_now}
use Rattle.edit_space.proofs.NamedFacts.{one_name, named_is_new, new_is_named, name_is_new, one_list, named_apart}

module _ {net : Network} {chosen : List Edit} (K : ListsOfKind net chosen) where
  abbrev pub old_key_of : ℕ × K.Row → Keyed
  old_key_of list = old_key list.0 (K.router list.1) (K.name list.1)

  abbrev pub keys : List Named → List Keyed
  keys named = map old_key_of (placed K.lists) ++ filter_map (new_key_by K.face) named

  -- the key is that of a list that there was
  pub record IsOldKey (key : Keyed) : Type 0 where
    pub id : ℕ
    pub list : K.Row
    pub at : slice_get K.lists id ≡ Some list
    pub is : key ≡ old_key_of (id, list)

  -- the key is that of a new list
  pub record IsNewKey (key : Keyed) : Type 0 where
    pub face : Face
    pub site : key.site ≡ New face
    pub new : IsNewList net chosen key.router (K.new face) key.name

  new_key_is : (one : Named) (key : Keyed) (o : Option Face) → option_map (new_key one) o ≡ Some key → (f : Face) × (o ≡ Some f) × (key ≡ new_key one f)
  new_key_is one key None e = absurd (none-some key e)
  new_key_is one key (Some f) e = (f, refl, sym (same_Some (new_key one f) key e))

  new_key_from : (one : Named) (key : Keyed) → IsNewList net chosen one.router one.list one.name → new_key_by K.face one ≡ Some key → IsNewKey key
  new_key_from one key new e =
      let r = new_key_is one key (K.face one.list) e in
      subst IsNewKey (sym r.2) (record { face = r.0; site = refl; new = subst (λ (l : NewList). IsNewList net chosen one.router l one.name) (K.new_is one.list r.0 r.1) new })

same_keys : (x y : Keyed) → key_of x ≡ key_of y → (x.router ≡ y.router) × (x.name ≡ y.name)
same_keys x y e = (ap (λ (k : Key). k.0) e, ap (λ (k : Key). k.1) e)

bound_ids : (i j : ListId) → Bound i ≡ Bound j → i ≡ j
bound_ids i j e = cc

new_faces : (f g : Face) → New f ≡ New g → f ≡ g
new_faces f g e = cc

other_site : (i : ListId) (f : Face) → Bound i ≡ New f → ⊥
other_site i f e = cc

module _ {net : Network} {chosen : List Edit} (K : ListsOfKind net chosen) (valid : IsValid net) {names : List (List (List ℕ))} {named : List Named} (m : AreMade net chosen names named) where
  is_new : (one : Named) → Contains named one → IsNewList net chosen one.router one.list one.name
  is_new one there = let p : (k : ℕ) × (slice_get named k ≡ Some one) = place_of_item named one there in named_is_new net valid chosen names named m.new_names m.are_named p.0 one p.1

  pub key_from : (key : Keyed) → Contains (keys K named) key → IsOldKey K key ⊎ IsNewKey K key
  key_from key there = elim (Contains-append_cases (map (old_key_of K) (placed K.lists)) (filter_map (new_key_by K.face) named) key there) [
    | inl old ↦ let r = from_map (old_key_of K) (placed K.lists) key old in inl (record { id = r.0.0; list = r.0.1; at = placed_is K.lists r.0 r.1; is = sym r.2 })
    | inr new ↦ let r = picked_from (new_key_by K.face) named key new in inr (new_key_from K r.0 key (is_new r.0 r.1) r.2)
  ]

  old_there : (id : ℕ) (list : K.Row) → slice_get K.lists id ≡ Some list → Contains (keys K named) (old_key_of K (id, list))
  old_there id list at =
      Contains-append_left (map (old_key_of K) (placed K.lists)) (filter_map (new_key_by K.face) named) (old_key_of K (id, list)) (Contains-map (old_key_of K)
      (placed K.lists) (id, list) (placed_there K.lists id list at))

  new_there : (router : ℕ) (face : Face) (name : List ℕ) → IsNewList net chosen router (K.new face) name → Contains (keys K named) (record { router = router; name = name; site = New face })
  new_there router face name new =
      let one : Named = record { router = router; list = K.new face; name = name } in
      Contains-append_right (map (old_key_of K) (placed K.lists)) (filter_map (new_key_by K.face) named) (new_key one face)
      (picks (new_key_by K.face) named one (new_key one face) (new_is_named net valid chosen names named m.new_names m.are_named router (K.new face) name new)
      (ap (option_map (new_key one)) (K.face_is face)))

  abbrev BothNew : Named → Named → Type 0
  BothNew x y = (x.list ≢ y.list) × IsNewList net chosen x.router x.list x.name × IsNewList net chosen y.router y.list y.name

  -- no two lists have one key
  pub keys_apart : AllPairs (λ x y. key_of x ≢ key_of y) (keys K named)
  keys_apart =
      AllPairs-append (λ (x : Keyed) (y : Keyed). key_of x ≢ key_of y) (map (old_key_of K) (placed K.lists)) (filter_map (new_key_by K.face) named)
      (AllPairs-map (λ (x : Keyed) (y : Keyed). key_of x ≢ key_of y) (old_key_of K) (placed K.lists)
      (AllPairs-among (λ (x : ℕ × K.Row) (y : ℕ × K.Row). K.router x.1 ≡ K.router y.1 → K.name x.1 ≢ K.name y.1)
      (λ (x : ℕ × K.Row) (y : ℕ × K.Row). key_of (old_key_of K x) ≢ key_of (old_key_of K y)) (placed K.lists) olds
      (placed_pairs (λ (l : K.Row) (n : K.Row). K.router l ≡ K.router n → K.name l ≢ K.name n) K.lists K.apart)))
      (pairs_picked BothNew (λ (x : Keyed) (y : Keyed). key_of x ≢ key_of y) (new_key_by K.face) named news
      (AllPairs-among (λ (x : Named) (y : Named). x.list ≢ y.list) BothNew named (λ x y in_x in_y differ. (differ, is_new x in_x, is_new y in_y))
      (named_apart net valid chosen names named m.new_names m.are_named)))
      between
    where
      olds : (x y : ℕ × K.Row) → Contains (placed K.lists) x → Contains (placed K.lists) y → (K.router x.1 ≡ K.router y.1 → K.name x.1 ≢ K.name y.1) → key_of (old_key_of K x) ≢ key_of (old_key_of K y)
      olds x y in_x in_y differ e = let s = same_keys (old_key_of K x) (old_key_of K y) e in differ s.0 s.1

      news : (x z : Named) (y w : Keyed) → BothNew x z → new_key_by K.face x ≡ Some y → new_key_by K.face z ≡ Some w → key_of y ≢ key_of w
      news x z y w new e f same =
          let s = same_keys y w same in
          let k = (new_key_is K x y (K.face x.list) e).2 in
          let l = (new_key_is K z w (K.face z.list) f).2 in
          let router : x.router ≡ z.router = sym (ap (λ (k : Keyed). k.router) k) ∙ s.0 ∙ ap (λ (k : Keyed). k.router) l in
          let name : x.name ≡ z.name = sym (ap (λ (k : Keyed). k.name) k) ∙ s.1 ∙ ap (λ (k : Keyed). k.name) l in
          let at_router : IsNewList net chosen z.router x.list x.name = subst (λ (r : ℕ). IsNewList net chosen r x.list x.name) router new.1 in
          new.0 (one_list net valid chosen names named m.new_names m.are_named z.router x.list z.list z.name m.few
          (subst (λ (n : List ℕ). IsNewList net chosen z.router x.list n) name at_router) new.2)

      -- a new list has a name that its router does not list
      between : (x y : Keyed) → Contains (map (old_key_of K) (placed K.lists)) x → Contains (filter_map (new_key_by K.face) named) y → key_of x ≢ key_of y
      between x y in_x in_y same =
          let r = from_map (old_key_of K) (placed K.lists) x in_x in
          let p = picked_from (new_key_by K.face) named y in_y in
          let new : IsNewKey K y = new_key_from K p.0 y (is_new p.0 p.1) p.2 in
          let s = same_keys x y same in
          (name_is_new net valid chosen names named m.new_names m.are_named y.router (K.new new.face) y.name m.few new.new).0
          (subst (λ (n : List ℕ). Contains (names_of net y.router) n) (ap (λ (k : Keyed). k.name) r.2 ∙ s.1)
          (subst (λ (o : ℕ). Contains (names_of net o) (K.name r.0.1)) (ap (λ (k : Keyed). k.router) r.2 ∙ s.0) (K.listed r.0.0 r.0.1 (placed_is K.lists r.0 r.1))))

  -- the sites tell the lists apart
  one_site : (x y : Keyed) → Contains (keys K named) x → Contains (keys K named) y → x.site ≡ y.site → x ≡ y
  one_site x y in_x in_y same = elim (key_from x in_x) [
    | inl old_x ↦ elim (key_from y in_y) [
      | inl old_y ↦
          let ids : old_x.id ≡ old_y.id =
          ap (λ (k : ListId). k.0) (bound_ids (record { 0 = old_x.id }) (record { 0 = old_y.id }) (sym (ap (λ (k : Keyed). k.site) old_x.is) ∙ same ∙ ap (λ (k : Keyed). k.site) old_y.is)) in
          let lists : old_x.list ≡ old_y.list = one_item K.lists old_y.id old_x.list old_y.list (subst (λ (k : ℕ). slice_get K.lists k ≡ Some old_x.list) ids old_x.at) old_y.at in
          old_x.is ∙ (λ j. old_key_of K (ids j, lists j)) ∙ sym old_y.is
      | inr new_y ↦ absurd (other_site (record { 0 = old_x.id }) new_y.face (sym (ap (λ (k : Keyed). k.site) old_x.is) ∙ same ∙ new_y.site))
    ]
    | inr new_x ↦ elim (key_from y in_y) [
      | inl old_y ↦ absurd (other_site (record { 0 = old_y.id }) new_x.face (sym (ap (λ (k : Keyed). k.site) old_y.is) ∙ sym same ∙ new_x.site))
      | inr new_y ↦
          let faces : new_x.face ≡ new_y.face = new_faces new_x.face new_y.face (sym new_x.site ∙ same ∙ new_y.site) in
          let at_face : IsNewList net chosen x.router (K.new new_y.face) x.name = subst (λ (f : Face). IsNewList net chosen x.router (K.new f) x.name) faces new_x.new in
          let routers : x.router ≡ y.router = one_router K x.router y.router new_y.face x.name y.name at_face new_y.new in
          let at_router : IsNewList net chosen y.router (K.new new_y.face) x.name = subst (λ (r : ℕ). IsNewList net chosen r (K.new new_y.face) x.name) routers at_face in
          let names_same : x.name ≡ y.name = one_name net valid chosen names named m.new_names m.are_named y.router (K.new new_y.face) x.name y.name at_router new_y.new in
          λ j. record { router = routers j; name = names_same j; site = same j }
    ]
  ]

  -- each site is one of a list that there was, or of an interface
  sites_within : All (λ key. IsWithin (length K.lists) (length net.faces) key.site) (keys K named)
  sites_within = All-from (λ (key : Keyed). IsWithin (length K.lists) (length net.faces) key.site) (keys K named) inside
    where
      inside : (key : Keyed) → Contains (keys K named) key → IsWithin (length K.lists) (length net.faces) key.site
      inside key there = elim (key_from key there) [
        | inl old ↦ subst (λ (k : Keyed). IsWithin (length K.lists) (length net.faces) k.site) (sym old.is) (slice_get_within K.lists old.id old.list old.at)
        | inr new ↦ let o = K.of_face key.router new.face key.name new.new in subst (IsWithin (length K.lists) (length net.faces)) (sym new.site) (slice_get_within net.faces new.face.0 o.0 o.1)
      ]

  sites_apart : AllPairs (λ x y. x.site ≢ y.site) (keys K named)
  sites_apart i j d l n same =
      keys_apart i j d l n (ap key_of
      (one_site (get_or (keys K named) i d) (get_or (keys K named) j d) (i, omega (arith, l, n), get_or_default (keys K named) i (get_or (keys K named) i d) d (omega (arith, l, n)))
      (j, n, get_or_default (keys K named) j (get_or (keys K named) j d) d n) same))

  -- so they can be put in order
  pub can_be_placed : (lists : List Keyed) (bound faces : ℕ) → lists ≡ keys K named → bound ≡ length K.lists → faces ≡ length net.faces →
      AllPairs (λ x y. key_of x ≢ key_of y) lists × All (λ key. IsWithin bound faces key.site) lists × AllPairs (λ x y. x.site ≢ y.site) lists
  can_be_placed lists bound faces is b f = rw (is, b, f) (keys_apart, sites_within, sites_apart)

  module _ (sorted : List Keyed) (order : AllPairs (λ x y. IsKeyBefore (key_of x) (key_of y)) sorted) (same : (x : Keyed) → Contains sorted x ↔ Contains (keys K named) x) where
    pub all_within : All (λ key. IsWithin (length K.lists) (length net.faces) key.site) sorted
    all_within = All-from (λ (key : Keyed). IsWithin (length K.lists) (length net.faces) key.site) sorted
        (λ key there. All-contains (λ (k : Keyed). IsWithin (length K.lists) (length net.faces) k.site) (keys K named) key sites_within ((same key).0 there))

    module _ (lists : List K.Row) (rows : EachRow (λ place. K.IsFor) sorted lists) where
      -- the list that stands where an old one is to stand is that one, edited
      old_is : (key : Keyed) (id : ℕ) (was list : K.Row) → key ≡ old_key_of K (id, was) → slice_get K.lists id ≡ Some was → K.IsFor key list → list ≡ K.edited id was
      old_is key id was list is at row = K.one_for (old_key_of K (id, was)) list (K.edited id was) (subst (λ (k : Keyed). K.IsFor k list) is row) (K.old_for id was at)

      -- the list that stands where a new one is to stand is that one
      new_is : (key : Keyed) (face : Face) (list : K.Row) → key.site ≡ New face → IsNewList net chosen key.router (K.new face) key.name → K.IsFor key list → K.IsNew face list
      new_is key face list site new row =
          let one = made_for K key face site new in
          subst (K.IsNew face) (K.one_for key one.0 list one.2 row) one.1

      key_at : (k : ℕ) (list : K.Row) → slice_get lists k ≡ Some list → (key : Keyed) × (slice_get sorted k ≡ Some key) × K.IsFor key list
      key_at = row_was (λ place. K.IsFor) sorted lists rows

      row_at : (k : ℕ) (key : Keyed) → slice_get sorted k ≡ Some key → (list : K.Row) × (slice_get lists k ≡ Some list) × K.IsFor key list
      row_at = row_now (λ place. K.IsFor) sorted lists rows

      pub lists_in_order : AllPairs (λ l n. IsKeyBefore (K.router l, K.name l) (K.router n, K.name n)) lists
      lists_in_order i j d l n =
          let in_i : i < length lists = omega (arith, l, n) in
          let x = key_at i (get_or lists i d) (slice_get-get_or lists i d in_i) in
          let y = key_at j (get_or lists j d) (slice_get-get_or lists j d n) in
          let before : IsKeyBefore (key_of (get_or sorted i x.0)) (key_of (get_or sorted j x.0)) = order i j x.0 l (omega (arith, n, rows.whole)) in
          let first : key_of (get_or sorted i x.0) ≡ (K.router (get_or lists i d), K.name (get_or lists i d)) =
          ap key_of (get_or_from_slice_get sorted i x.0 x.0 x.1) ∙ (λ t. (sym (K.router_is x.0 (get_or lists i d) x.2) t, sym (K.name_is x.0 (get_or lists i d) x.2) t)) in
          let second : key_of (get_or sorted j x.0) ≡ (K.router (get_or lists j d), K.name (get_or lists j d)) =
          ap key_of (get_or_from_slice_get sorted j y.0 x.0 y.1) ∙ (λ t. (sym (K.router_is y.0 (get_or lists j d) y.2) t, sym (K.name_is y.0 (get_or lists j d) y.2) t)) in
          subst (λ (k : Key). IsKeyBefore (K.router (get_or lists i d), K.name (get_or lists i d)) k) second (subst (λ (k : Key). IsKeyBefore k (key_of (get_or sorted j x.0))) first before)

      -- an old list stands, edited, where its key stands
      old_stands : (id : ℕ) (was : K.Row) → slice_get K.lists id ≡ Some was → (k : ℕ) × (slice_get sorted k ≡ Some (old_key_of K (id, was))) × (slice_get lists k ≡ Some (K.edited id was))
      old_stands id was at =
          let p : (k : ℕ) × (slice_get sorted k ≡ Some (old_key_of K (id, was))) = place_of_item sorted (old_key_of K (id, was)) ((same (old_key_of K (id, was))).1 (old_there id was at)) in
          let r = row_at p.0 (old_key_of K (id, was)) p.1 in
          (p.0, p.1, r.1 ∙ ap Some (old_is (old_key_of K (id, was)) id was r.0 refl at r.2))

      -- a new list stands where its key stands
      new_stands : (router : ℕ) (face : Face) (name : List ℕ) → IsNewList net chosen router (K.new face) name →
          (k : ℕ) × (slice_get sorted k ≡ Some (record { router = router; name = name; site = New face })) × ((list : K.Row) × (slice_get lists k ≡ Some list) × K.IsFor
          (record { router = router; name = name; site = New face }) list)
      new_stands router face name new =
          let key : Keyed = record { router = router; name = name; site = New face } in
          let p : (k : ℕ) × (slice_get sorted k ≡ Some key) = place_of_item sorted key ((same key).1 (new_there router face name new)) in
          (p.0, p.1, row_at p.0 key p.1)

      -- these are just the lists after the edits
      pub just_lists : (list : K.Row) → Contains lists list ↔ IsListAfter K list
      just_lists list = (to, from)
        where
          to : Contains lists list → IsListAfter K list
          to there =
              let p : (k : ℕ) × (slice_get lists k ≡ Some list) = place_of_item lists list there in
              let q = key_at p.0 list p.1 in
              elim (key_from q.0 ((same q.0).0 (item_at_place sorted p.0 q.0 q.1))) [
                | inl old ↦ inl (old.id, old.list, old.at, old_is q.0 old.id old.list list old.is old.at q.2)
                | inr new ↦ inr (new.face, new_is q.0 new.face list new.site new.new q.2)
              ]

          from : IsListAfter K list → Contains lists list
          from (inl (id, was, at, is)) =
              let s = old_stands id was at in
              subst (λ (l : K.Row). Contains lists l) (sym is) (item_at_place lists s.0 (K.edited id was) s.2)
          from (inr (face, new)) =
              let s = new_stands (K.router list) face (K.name list) (K.named face list new) in
              subst (λ (l : K.Row). Contains lists l) (K.one_for _ s.2.0 list s.2.2 (K.new_for face list new)) (item_at_place lists s.0 s.2.0 s.2.1)

      module _ (places : Places) (are : ArePlaces sorted places) where
        -- the tables tell where what was bound stands
        pub stays_bound : (o : Option ListId) → IfSome o (λ id. id.0 < length K.lists) →
            StaysBound (λ was now. IsSomeAnd (slice_get K.lists was.0) (λ list. slice_get lists now.0 ≡ Some (K.edited was.0 list))) o (moved places o)
        stays_bound None within = refl
        stays_bound (Some id) within =
            let was = item_of K.lists id.0 within in
            let s = old_stands id.0 was.0 was.1 in
            subst (λ (o : Option ℕ). IsSomeAnd (option_map list_at o) (λ now. IsSomeAnd (slice_get K.lists id.0) (λ list. slice_get lists now.0 ≡ Some (K.edited id.0 list))))
            (sym (are s.0 (old_key_of K (id.0, was.0)) s.1))
            (of_some (λ (list : K.Row). slice_get lists s.0 ≡ Some (K.edited id.0 list)) (slice_get K.lists id.0) was.0 was.1 s.2)

        -- and where a new list stands
        new_bound : (router : ℕ) (face : Face) (name : List ℕ) → IsNewList net chosen router (K.new face) name →
            IsSomeAnd (option_map list_at (slice_get places.new.items face.0)) (λ id. IsSomeAnd (slice_get lists id.0) (K.IsNew face))
        new_bound router face name new =
            let key : Keyed = record { router = router; name = name; site = New face } in
            let s = new_stands router face name new in
            subst (λ (o : Option ℕ). IsSomeAnd (option_map list_at o) (λ id. IsSomeAnd (slice_get lists id.0) (K.IsNew face))) (sym (are s.0 key s.1))
            (of_some (K.IsNew face) (slice_get lists s.0) s.2.0 s.2.1 (new_is key face s.2.0 refl new s.2.2))

        -- so they tell where that stands which is bound: the new list, where there is one, or what was bound
        pub is_bound : (none : Bool) (face : Face) (o : Option ListId) → IfSome o (λ id. id.0 < length K.lists) →
            (none ≡ false → (router : ℕ) × (name : List ℕ) × IsNewList net chosen router (K.new face) name) →
            MatchBool none (StaysBound (λ was now. IsSomeAnd (slice_get K.lists was.0) (λ list. slice_get lists now.0 ≡ Some (K.edited was.0 list))) o (bound_at places (not none) face.0 o))
            (IsSomeAnd (bound_at places (not none) face.0 o) (λ id. IsSomeAnd (slice_get lists id.0) (K.IsNew face)))
        is_bound true face o within new = stays_bound o within
        is_bound false face o within new = let made = new refl in new_bound made.0 face made.1 made.2

-- The network after edits is one.
use Rattle.std.proofs.Common.{◌≡◌, ◌≢◌, ℕ, suc, ◌⊎◌, ◌↔◌, inl, inr, Bool, true, false, Option, Some, None, List, [], ◌∷◌, refl, sym, ◌∙◌, ap, subst, arith}
use Rattle.std.specs.Prelude.{AllPairs, Contains, IsSomeAnd, MatchBool, slice_get}
use Rattle.std.specs.Cmp.Lexicographic.{on_texts}
use Rattle.std.specs.Ordering.{ordering_reverse}
use Rattle.std.specs.declared.cmp.Ordering.TheVariants.{Less, Greater}
use Rattle.arc_base.proofs.Items.{Contains-head, Contains-tail, Contains-cases, Contains-none, AllPairs-first, AllPairs-rest, AllPairs-among}
use Rattle.arc_base.specs.declared.place.Face.{Face}
use Rattle.arc_base.specs.declared.place.ListId.{ListId}
use Rattle.net_model.specs.declared.lists.PacketList.{PacketList}
use Rattle.net_model.specs.declared.lists.RouteList.{RouteList}
use Rattle.net_model.specs.declared.rows.FaceRow.{FaceRow}
use Rattle.net_model.specs.declared.rows.RouterRow.{RouterRow}
use Rattle.net_model.specs.declared.rows.SessionRow.{SessionRow}
use Rattle.net_model.specs.declared.rows.Network.{Network}
use Rattle.net_model.specs.Validity.{IsValid}
use Rattle.edit_list.specs.declared.edit_kinds.Edit.{Edit}
use Rattle.edit_list.specs.declared.sites.Site.TheVariants.{New}
use Rattle.edit_space.specs.declared.order.Keyed.{Keyed}
use Rattle.edit_list.specs.After.{edited_packet_list, edited_route_list, IsNewPacketList, IsNewRouteList, IsPacketListAfter}
use Rattle.edit_list.specs.After.{IsRouteListAfter, StaysBound, IsRouterAfter, IsFaceAfter, IsSessionAfter, IsAfter}
use Rattle.edit_list.specs.Changes.{new_classes, new_prefixes}
use Rattle.edit_list.specs.Determined.{IsCountable, AfterIsOne}
use Rattle.edit_list.specs.NewLists.{IsNewList}
use Rattle.arc_base.specs.Numbered.{is_empty, EachRow}
use Rattle.edit_list.specs.Ordered.{Key, IsKeyBefore}
use Rattle.arc_base.specs.NameForms.{IsNameBefore}
use Rattle.edit_space.proofs.Keys.{not_before_itself}
use Rattle.edit_list.proofs.RowFacts.{one_place}
use Rattle.edit_space.proofs.ListKinds.{ListsOfKind, one_router, packets, routes}
use Rattle.edit_space.proofs.NamedFacts.{one_name}
use Rattle.edit_space.proofs.SomeNames.{names_made, named_made}

-- lists in a strict order with the same items are the same
module _ {X : Type 0} (R : X → X → Type 0) (not_both : (x y : X) → R x y → R y x → ⊥) where
  rest_in : (x y : X) (xs ys : List X) → x ≡ y → AllPairs R (x ∷ xs) → ((p : X) → Contains (x ∷ xs) p → Contains (y ∷ ys) p) → (p : X) → Contains xs p → Contains ys p
  rest_in x y xs ys e order has p there = elim (Contains-cases y p ys (has p (Contains-tail x p xs there))) [
    | inl f ↦ let before : R x p = AllPairs-first R x p xs order there in
        let itself : R p p = subst (λ (z : X). R z p) (e ∙ f) before in
        absurd (not_both p p itself itself)
    | inr later ↦ later
  ]

  first_same : (x y : X) (xs ys : List X) → AllPairs R (x ∷ xs) → AllPairs R (y ∷ ys) → (x ≡ y) ⊎ Contains xs y → (y ≡ x) ⊎ Contains ys x → x ≡ y
  first_same x y xs ys one two (inl e) other = e
  first_same x y xs ys one two (inr there) (inl e) = sym e
  first_same x y xs ys one two (inr there) (inr back) = absurd (not_both x y (AllPairs-first R x y xs one there) (AllPairs-first R y x ys two back))

  pub same_ordered : (xs ys : List X) → AllPairs R xs → AllPairs R ys → ((p : X) → Contains xs p → Contains ys p) → ((p : X) → Contains ys p → Contains xs p) → xs ≡ ys
  same_ordered [] [] one two to from = refl
  same_ordered [] (y ∷ ys) one two to from = absurd (Contains-none y (from y (Contains-head y ys)))
  same_ordered (x ∷ xs) [] one two to from = absurd (Contains-none x (to x (Contains-head x xs)))
  same_ordered (x ∷ xs) (y ∷ ys) one two to from =
      let e : x ≡ y = first_same x y xs ys one two (Contains-cases x y xs (from y (Contains-head y ys))) (Contains-cases y x ys (to x (Contains-head x xs))) in
      let rest : xs ≡ ys = same_ordered xs ys (AllPairs-rest R x xs one) (AllPairs-rest R y ys two) (rest_in x y xs ys e one to) (rest_in y x ys xs (sym e) two from) in
      ap (λ (p : X). p ∷ xs) e ∙ ap (λ (l : List X). y ∷ l) rest

-- rows that are fixed one by one make one list
pub one_list_of_rows : {X Y : Type 0} (P Q : ℕ → X → Y → Type 0) (xs : List X) (ys zs : List Y) →
    ((k : ℕ) (x : X) (y z : Y) → slice_get xs k ≡ Some x → P k x y → Q k x z → y ≡ z) → EachRow P xs ys → EachRow Q xs zs → ys ≡ zs
one_list_of_rows P Q [] [] [] same one two = refl
one_list_of_rows P Q [] [] (z ∷ zs) same one two = absurd (omega (arith, two.whole))
one_list_of_rows P Q [] (y ∷ ys) zs same one two = absurd (omega (arith, one.whole))
one_list_of_rows P Q (x ∷ xs) [] zs same one two = absurd (omega (arith, one.whole))
one_list_of_rows P Q (x ∷ xs) (y ∷ ys) [] same one two = absurd (omega (arith, two.whole))
one_list_of_rows {X} {Y} P Q (x ∷ xs) (y ∷ ys) (z ∷ zs) same one two =
    ap (λ (p : Y). p ∷ ys) (same 0 x y z refl (one.each 0 x y refl refl) (two.each 0 x z refl refl)) ∙
    ap (λ (l : List Y). z ∷ l) (one_list_of_rows (λ k. P (suc k)) (λ k. Q (suc k)) xs ys zs (λ k. same (suc k))
    (record { whole = omega (arith, one.whole); each = λ k a b at_a at_b. one.each (suc k) a b at_a at_b })
    (record { whole = omega (arith, two.whole); each = λ k a b at_a at_b. two.each (suc k) a b at_a at_b }))

less_greater : Less ≡ Greater → ⊥
less_greater e = cc

names_not_both : (x y : List ℕ) → IsNameBefore x y → IsNameBefore y x → ⊥
names_not_both x y one two = less_greater (sym one ∙ (on_texts (λ (n : List ℕ). n)).antisymm x y ∙ ap ordering_reverse two)

keys_not_both : (x y : Key) → IsKeyBefore x y → IsKeyBefore y x → ⊥
keys_not_both x y (inl l) (inl m) = omega (arith, l, m)
keys_not_both x y (inl l) (inr m) = omega (arith, l, m.0)
keys_not_both x y (inr l) (inl m) = omega (arith, l.0, m)
keys_not_both x y (inr l) (inr m) = names_not_both x.1 y.1 l.1 m.1

-- lists in the order of their keys are one list where the same are among them, and no two are the same
module _ {L : Type 0} (key : L → Key) where
  abbrev Before : L → L → Type 0
  Before l m = IsKeyBefore (key l) (key m)

  same_lists : (P : L → Type 0) (xs ys : List L) → AllPairs Before xs → ((l : L) → Contains xs l ↔ P l) → AllPairs Before ys → ((l : L) → Contains ys l ↔ P l) → xs ≡ ys
  same_lists P xs ys up_x just_x up_y just_y = same_ordered Before (λ l m. keys_not_both (key l) (key m)) xs ys up_x up_y (λ l there. (just_y l).1 ((just_x l).0 there))
      (λ l there. (just_x l).1 ((just_y l).0 there))

  lists_apart : (xs : List L) → AllPairs Before xs → AllPairs (λ l m. l ≢ m) xs
  lists_apart xs up = AllPairs-among Before (λ (l : L) (m : L). l ≢ m) xs (λ l m in_l in_m before same. not_before_itself (key m) (subst (λ (k : L). Before k m) same before)) up

-- where lists stand, one after the other
module _ {L : Type 0} (before lists : List L) (edited : ℕ → L → L) (apart : AllPairs (λ l m. l ≢ m) lists) where
  abbrev Moves : ListId → ListId → Type 0
  Moves was now = IsSomeAnd (slice_get before was.0) (λ list. slice_get lists now.0 ≡ Some (edited was.0 list))

  one_move : (o : Option L) (was i j : ListId) → IsSomeAnd o (λ list. slice_get lists i.0 ≡ Some (edited was.0 list)) →
      IsSomeAnd o (λ list. slice_get lists j.0 ≡ Some (edited was.0 list)) → Some i ≡ Some j
  one_move None was i j at_i at_j = absurd at_i
  one_move (Some list) was i j at_i at_j = let same : i.0 ≡ j.0 = one_place lists i.0 j.0 (edited was.0 list) apart at_i at_j in λ t. Some (record { 0 = same t })

  pub one_stays : (o n m : Option ListId) → StaysBound Moves o n → StaysBound Moves o m → n ≡ m
  one_stays None n m is_n is_m = is_n ∙ sym is_m
  one_stays (Some was) None m is_n is_m = absurd is_n
  one_stays (Some was) (Some i) None is_n is_m = absurd is_m
  one_stays (Some was) (Some i) (Some j) is_n is_m = one_move (slice_get before was.0) was i j is_n is_m

  module _ (P : L → Type 0) (single : (l m : L) → P l → P m → l ≡ m) where
    new_at : (o p : Option L) (i j : ListId) → slice_get lists i.0 ≡ o → slice_get lists j.0 ≡ p → IsSomeAnd o P → IsSomeAnd p P → Some i ≡ Some j
    new_at None p i j at_i at_j is_o is_p = absurd is_o
    new_at (Some l) None i j at_i at_j is_o is_p = absurd is_p
    new_at (Some l) (Some m) i j at_i at_j is_o is_p =
        let same : i.0 ≡ j.0 = one_place lists i.0 j.0 m apart (at_i ∙ ap Some (single l m is_o is_p)) at_j in λ t. Some (record { 0 = same t })

    one_new : (n m : Option ListId) → IsSomeAnd n (λ id. IsSomeAnd (slice_get lists id.0) P) → IsSomeAnd m (λ id. IsSomeAnd (slice_get lists id.0) P) → n ≡ m
    one_new None m is_n is_m = absurd is_n
    one_new (Some i) None is_n is_m = absurd is_m
    one_new (Some i) (Some j) is_n is_m = new_at (slice_get lists i.0) (slice_get lists j.0) i j refl refl is_n is_m

    pub one_bound : (b : Bool) (o n m : Option ListId) → MatchBool b (StaysBound Moves o n) (IsSomeAnd n (λ id. IsSomeAnd (slice_get lists id.0) P)) →
        MatchBool b (StaysBound Moves o m) (IsSomeAnd m (λ id. IsSomeAnd (slice_get lists id.0) P)) → n ≡ m
    one_bound true o n m is_n is_m = one_stays o n m is_n is_m
    one_bound false o n m is_n is_m = one_new n m is_n is_m

module _ (net : Network) (valid : IsValid net) (countable : IsCountable net) (chosen : List Edit) where
  pub one_new_list : (K : ListsOfKind net chosen) (x : Face) (l m : K.Row) → K.IsNew x l → K.IsNew x m → l ≡ m
  one_new_list K x l m this that =
      let made = named_made net valid countable chosen in
      let router : K.router l ≡ K.router m = one_router K (K.router l) (K.router m) x (K.name l) (K.name m) (K.named x l this) (K.named x m that) in
      let name : K.name l ≡ K.name m = one_name net valid chosen (names_made net valid countable chosen) made.0 made.1.new_names made.1.are_named (K.router m) (K.new x) (K.name l) (K.name m)
      (subst (λ (k : ℕ). IsNewList net chosen k (K.new x) (K.name l)) router (K.named x l this)) (K.named x m that) in
      K.one_for (record { router = K.router m; name = K.name m; site = New x }) l m
      (subst (λ (k : Keyed). K.IsFor k l) (λ t. record { router = router t; name = name t; site = New x }) (K.new_for x l this)) (K.new_for x m that)

  module _ (after other : Network) (is : IsAfter net chosen after) (also : IsAfter net chosen other) where
    same_packet_lists : after.packet_lists ≡ other.packet_lists
    same_packet_lists = same_lists (λ l. (l.router.0, l.name)) (IsPacketListAfter net chosen) after.packet_lists other.packet_lists is.packet_order is.packet_lists also.packet_order also.packet_lists

    same_route_lists : after.route_lists ≡ other.route_lists
    same_route_lists = same_lists (λ l. (l.router.0, l.name)) (IsRouteListAfter net chosen) after.route_lists other.route_lists is.route_order is.route_lists also.route_order also.route_lists

    packets_apart : AllPairs (λ l m. l ≢ m) after.packet_lists
    packets_apart = lists_apart (λ l. (l.router.0, l.name)) after.packet_lists is.packet_order

    routes_apart : AllPairs (λ l m. l ≢ m) after.route_lists
    routes_apart = lists_apart (λ l. (l.router.0, l.name)) after.route_lists is.route_order

    same_router : (k : ℕ) (was x y : RouterRow) → slice_get net.routers k ≡ Some was → IsRouterAfter net chosen k was x → IsRouterAfter net chosen k was y → x ≡ y
    same_router k was x y at this that =
        let name : x.name ≡ y.name = this.name ∙ sym that.name in
        let asn : x.asn ≡ y.asn = this.asn ∙ sym that.asn in
        let names : x.names ≡ y.names = same_ordered IsNameBefore names_not_both x.names y.names this.order that.order (λ n there. (that.names n).1 ((this.names n).0 there))
        (λ n there. (this.names n).1 ((that.names n).0 there)) in
        λ t. record { name = name t; asn = asn t; names = names t }

    same_face : (k : ℕ) (was x y : FaceRow) → slice_get net.faces k ≡ Some was → IsFaceAfter net chosen after k was x → IsFaceAfter net chosen other k was y → x ≡ y
    same_face k was x y at this that =
        let passive : x.passive ≡ y.passive = this.passive ∙ sym that.passive in
        let bound_in : x.bound_in ≡ y.bound_in = this.bound_in ∙ sym that.bound_in in
        let list_in : x.list_in ≡ y.list_in =
        one_bound net.packet_lists after.packet_lists (edited_packet_list chosen) packets_apart (IsNewPacketList net chosen (record { 0 = k }))
        (one_new_list (packets net chosen valid) (record { 0 = k })) (is_empty (new_classes chosen k)) was.list_in x.list_in y.list_in this.list_in
        (subst (λ (lists : List PacketList). MatchBool (is_empty (new_classes chosen k))
        (StaysBound (λ w n. IsSomeAnd (slice_get net.packet_lists w.0) (λ list. slice_get lists n.0 ≡ Some (edited_packet_list chosen w.0 list))) was.list_in y.list_in)
        (IsSomeAnd y.list_in (λ id. IsSomeAnd (slice_get lists id.0) (IsNewPacketList net chosen (record { 0 = k }))))) (sym same_packet_lists) that.list_in) in
        let list_out : x.list_out ≡ y.list_out =
        one_stays net.packet_lists after.packet_lists (edited_packet_list chosen) packets_apart was.list_out x.list_out y.list_out this.list_out
        (subst (λ (lists : List PacketList). StaysBound (λ w n. IsSomeAnd (slice_get net.packet_lists w.0) (λ list. slice_get lists n.0 ≡ Some (edited_packet_list chosen w.0 list)))
        was.list_out y.list_out) (sym same_packet_lists) that.list_out) in
        this.same ∙ (λ t. record was { passive = passive t; bound_in = bound_in t; list_in = list_in t; list_out = list_out t }) ∙ sym that.same

    same_session : (k : ℕ) (was x y : SessionRow) → slice_get net.sessions k ≡ Some was → IsSessionAfter net chosen after k was x → IsSessionAfter net chosen other k was y → x ≡ y
    same_session k was x y at this that =
        let down : x.down ≡ y.down = this.down ∙ sym that.down in
        let bound : x.bound ≡ y.bound = this.bound ∙ sym that.bound in
        let filter : x.filter ≡ y.filter =
        one_bound net.route_lists after.route_lists (edited_route_list chosen) routes_apart (IsNewRouteList net chosen was.face) (one_new_list
        (routes net chosen valid) was.face) (is_empty (new_prefixes chosen was.face.0)) was.filter x.filter y.filter this.filter
        (subst (λ (lists : List RouteList). MatchBool (is_empty (new_prefixes chosen was.face.0))
        (StaysBound (λ w n. IsSomeAnd (slice_get net.route_lists w.0) (λ list. slice_get lists n.0 ≡ Some (edited_route_list chosen w.0 list))) was.filter y.filter)
        (IsSomeAnd y.filter (λ id. IsSomeAnd (slice_get lists id.0) (IsNewRouteList net chosen was.face)))) (sym same_route_lists) that.filter) in
        this.same ∙ (λ t. record was { down = down t; bound = bound t; filter = filter t }) ∙ sym that.same

    pub same_network : after ≡ other
    same_network =
        let protocol = is.protocol ∙ sym also.protocol in
        let routers = one_list_of_rows (IsRouterAfter net chosen) (IsRouterAfter net chosen) net.routers after.routers other.routers same_router is.routers also.routers in
        let faces = one_list_of_rows (IsFaceAfter net chosen after) (IsFaceAfter net chosen other) net.faces after.faces other.faces same_face is.faces also.faces in
        let sessions = one_list_of_rows (IsSessionAfter net chosen after) (IsSessionAfter net chosen other) net.sessions after.sessions other.sessions same_session is.sessions also.sessions in
        let links = is.links ∙ sym also.links in
        λ t. record { protocol = protocol t; routers = routers t; faces = faces t; sessions = sessions t; links = links t; packet_lists = same_packet_lists t; route_lists = same_route_lists t }

pub after_is_one : AfterIsOne
after_is_one net valid countable chosen after other is also = same_network net valid countable chosen after other is also

-- What packet lists and route lists have in common: a kind of lists, and the two of them.
use Rattle.std.proofs.Common.{◌≡◌, ◌≢◌, ℕ, ◌⊎◌, true, Option, Some, None, List, [], refl, sym, ◌∙◌, ap, subst}
use Rattle.std.specs.Prelude.{AllPairs, Contains, slice_get, IsSomeAnd}
use Rattle.std.specs.Option.{option_map_or}
use Rattle.std.proofs.lemmas.List.Elements.{All-contains}
use Rattle.std.proofs.lemmas.Option.{none-some}
use Rattle.arc_base.specs.declared.place.Face.{Face}
use Rattle.net_model.specs.declared.lists.PacketList.{PacketList}
use Rattle.net_model.specs.declared.lists.RouteList.{RouteList}
use Rattle.net_model.specs.declared.rows.FaceRow.{FaceRow}
use Rattle.net_model.specs.declared.rows.RouterRow.{RouterRow}
use Rattle.net_model.specs.declared.rows.Network.{Network}
use Rattle.net_model.specs.Validity.{IsValid, IsValidPacketList, IsValidRouteList}
use Rattle.net_model.proofs.Readings.{item_at_place}
use Rattle.net_model.proofs.Arcs.{one_item}
use Rattle.edit_list.specs.declared.edit_kinds.Edit.{Edit}
use Rattle.edit_list.specs.declared.list_kinds.NewList.{NewList}
use Rattle.edit_list.specs.declared.list_kinds.NewList.TheVariants.{Route, Packet}
use Rattle.edit_list.specs.declared.sites.Site.{Site}
use Rattle.edit_list.specs.declared.sites.Site.TheVariants.{Bound, New}
use Rattle.edit_list.specs.After.{edited_packet_list, edited_route_list, with_classes, with_prefixes, new_packet_entries, new_route_entries, IsNewPacketList, IsNewRouteList}
use Rattle.edit_list.specs.Changes.{list_classes, list_prefixes, new_classes, new_prefixes}
use Rattle.edit_list.specs.NewLists.{names_of, IsNewList}
use Rattle.edit_space.specs.declared.order.Keyed.{Keyed}
use Rattle.edit_space.specs.Working.{old_key, packet_face, route_face, HasPacketEntries, HasRouteEntries, IsPacketListFor, IsRouteListFor}
use Rattle.edit_space.proofs.NamedFacts.{of_packet_face, of_route_face}

-- a kind of lists of the network, and how the edits change them
pub record ListsOfKind (net : Network) (chosen : List Edit) : Type 1 where
  pub Row : Type 0
  pub router : Row → ℕ
  pub name : Row → List ℕ
  -- those that there were: their routers list their names, and no two have one key
  pub lists : List Row
  pub listed : (id : ℕ) (list : Row) → slice_get lists id ≡ Some list → Contains (names_of net (router list)) (name list)
  pub apart : AllPairs (λ l m. router l ≡ router m → name l ≢ name m) lists
  -- which new lists are of the kind, and their interfaces
  pub new : Face → NewList
  pub face : NewList → Option Face
  pub face_is : (f : Face) → face (new f) ≡ Some f
  pub new_is : (list : NewList) (f : Face) → face list ≡ Some f → list ≡ new f
  pub of_face : (owner : ℕ) (f : Face) (called : List ℕ) → IsNewList net chosen owner (new f) called → (row : FaceRow) × (slice_get net.faces f.0 ≡ Some row) × (owner ≡ row.router.0)
  -- the list that stands where a key is to stand, of which there is one: an old one, edited, or a new one
  pub IsFor : Keyed → Row → Type 0
  pub one_for : (key : Keyed) (l m : Row) → IsFor key l → IsFor key m → l ≡ m
  pub router_is : (key : Keyed) (list : Row) → IsFor key list → router list ≡ key.router
  pub name_is : (key : Keyed) (list : Row) → IsFor key list → name list ≡ key.name
  pub edited : ℕ → Row → Row
  pub old_for : (id : ℕ) (was : Row) → slice_get lists id ≡ Some was → IsFor (old_key id (router was) (name was)) (edited id was)
  pub IsNew : Face → Row → Type 0
  pub named : (f : Face) (list : Row) → IsNew f list → IsNewList net chosen (router list) (new f) (name list)
  pub new_for : (f : Face) (list : Row) → IsNew f list → IsFor (record { router = router list; name = name list; site = New f }) list
  pub made : (owner : ℕ) (f : Face) (called : List ℕ) → IsNewList net chosen owner (new f) called → (list : Row) × IsNew f list × (router list ≡ owner) × (name list ≡ called)

-- the list is one after the edits: one that there was, edited, or a new one
abbrev pub IsListAfter : {net : Network} {chosen : List Edit} (K : ListsOfKind net chosen) → K.Row → Type 0
IsListAfter K list = ((place : ℕ) × (was : K.Row) × (slice_get K.lists place ≡ Some was) × (list ≡ K.edited place was)) ⊎ ((face : Face) × K.IsNew face list)

-- the new lists of an interface are of one router
pub one_router : {net : Network} {chosen : List Edit} (K : ListsOfKind net chosen) (r s : ℕ) (f : Face) (m n : List ℕ) → IsNewList net chosen r (K.new f) m → IsNewList net chosen s (K.new f) n → r ≡ s
one_router {net} K r s f m n this that =
    let a = K.of_face r f m this in
    let b = K.of_face s f n that in
    a.2 ∙ ap (λ (row : FaceRow). row.router.0) (one_item net.faces f.0 a.0 b.0 a.1 b.1) ∙ sym b.2

-- a new list stands where its key is to stand
pub made_for : {net : Network} {chosen : List Edit} (K : ListsOfKind net chosen) (key : Keyed) (f : Face) → key.site ≡ New f →
    IsNewList net chosen key.router (K.new f) key.name → (list : K.Row) × K.IsNew f list × K.IsFor key list
made_for K key f site new =
    let one = K.made key.router f key.name new in
    (one.0, one.1, subst (λ (k : Keyed). K.IsFor k one.0) (λ j. record { router = one.2 j; name = one.3 j; site = sym site j }) (K.new_for f one.0 one.1))

-- what two facts about one thing say together
both : {X : Type 0} {P Q : X → Type 0} (R : Type 0) (o : Option X) → IsSomeAnd o P → IsSomeAnd o Q → ((x : X) → P x → Q x → R) → R
both R None p q join = absurd p
both R (Some x) p q join = join x p q

-- a fact about the thing that is there
pub of_some : {X : Type 0} (P : X → Type 0) (o : Option X) (x : X) → o ≡ Some x → P x → IsSomeAnd o P
of_some P o x e p = subst (λ k. IsSomeAnd k P) (sym e) p

listed_name : (net : Network) (router : ℕ) (owner : RouterRow) (name : List ℕ) → slice_get net.routers router ≡ Some owner → Contains owner.names name → Contains (names_of net router) name
listed_name net router owner name at listed =
    subst (λ (ns : List (List ℕ)). Contains ns name) (sym (ap (λ (o : Option RouterRow). option_map_or (λ (r : RouterRow). r.names) o []) at)) listed

module _ (net : Network) (chosen : List Edit) where
  pub packet_listed : IsValid net → (id : ℕ) (list : PacketList) → slice_get net.packet_lists id ≡ Some list → Contains (names_of net list.router.0) list.name
  packet_listed valid id list at =
      let v : IsValidPacketList net list = All-contains (IsValidPacketList net) net.packet_lists list valid.packet_lists (item_at_place net.packet_lists id list at) in
      listed_name net list.router.0 v.owner list.name v.owner_is v.listed

  pub packet_new : (list : NewList) (f : Face) → packet_face list ≡ Some f → list ≡ Packet f
  packet_new (Packet g) f e = cc
  packet_new (Route g) f e = absurd (none-some f e)

  pub one_packet_list : (key : Keyed) (l m : PacketList) → IsPacketListFor net chosen key l → IsPacketListFor net chosen key m → l ≡ m
  one_packet_list key l m this that =
      let router : l.router.0 ≡ m.router.0 = this.router ∙ sym that.router in
      let name : l.name ≡ m.name = this.name ∙ sym that.name in
      let rest : (l.extended ≡ m.extended) × (l.entries ≡ m.entries) = by key.site this.entries that.entries in
      λ j. record { router = record { 0 = router j }; name = name j; extended = rest.0 j; entries = rest.1 j }
    where
      by : (s : Site) → HasPacketEntries net chosen s l.extended l.entries → HasPacketEntries net chosen s m.extended m.entries → (l.extended ≡ m.extended) × (l.entries ≡ m.entries)
      by (Bound id) x y = both ((l.extended ≡ m.extended) × (l.entries ≡ m.entries)) (slice_get net.packet_lists id.0) x y (λ was a b. (a.0 ∙ sym b.0, a.1 ∙ sym b.1))
      by (New f) x y = (x.0 ∙ sym y.0, x.1 ∙ sym y.1)

  abbrev pub packets : IsValid net → ListsOfKind net chosen
  packets valid = record {
    Row = PacketList;
    router = λ l. l.router.0;
    name = λ l. l.name;
    lists = net.packet_lists;
    listed = packet_listed valid;
    apart = valid.packet_lists_named_apart;
    new = Packet;
    face = packet_face;
    face_is = λ f. refl;
    new_is = packet_new;
    of_face = λ owner f called new. let o = of_packet_face net valid chosen owner f called new in (o.row, o.at, o.router_is);
    IsFor = IsPacketListFor net chosen;
    one_for = one_packet_list;
    router_is = λ key list row. row.router;
    name_is = λ key list row. row.name;
    edited = edited_packet_list chosen;
    old_for = λ id was at. record {
      router = refl;
      name = refl;
      entries = of_some (λ (l : PacketList). (was.extended ≡ l.extended) × (with_classes was.entries (list_classes chosen id) ≡ with_classes l.entries (list_classes chosen id)))
          (slice_get net.packet_lists id) was at (refl, refl);
    };
    IsNew = IsNewPacketList net chosen;
    named = λ f list new. new.named;
    new_for = λ f list new. record { router = refl; name = refl; entries = (new.extended, new.entries) };
    made = λ owner f called new. (
      record { router = record { 0 = owner }; name = called; extended = true; entries = new_packet_entries (new_classes chosen f.0) },
      record { named = new; extended = refl; entries = refl },
      refl,
      refl,
    );
  }

  pub route_listed : IsValid net → (id : ℕ) (list : RouteList) → slice_get net.route_lists id ≡ Some list → Contains (names_of net list.router.0) list.name
  route_listed valid id list at =
      let v : IsValidRouteList net list = All-contains (IsValidRouteList net) net.route_lists list valid.route_lists (item_at_place net.route_lists id list at) in
      listed_name net list.router.0 v.owner list.name v.owner_is v.listed

  pub route_new : (list : NewList) (f : Face) → route_face list ≡ Some f → list ≡ Route f
  route_new (Packet g) f e = absurd (none-some f e)
  route_new (Route g) f e = cc

  pub one_route_list : (key : Keyed) (l m : RouteList) → IsRouteListFor net chosen key l → IsRouteListFor net chosen key m → l ≡ m
  one_route_list key l m this that =
      let router : l.router.0 ≡ m.router.0 = this.router ∙ sym that.router in
      let name : l.name ≡ m.name = this.name ∙ sym that.name in
      let entries : l.entries ≡ m.entries = by key.site this.entries that.entries in
      λ j. record { router = record { 0 = router j }; name = name j; entries = entries j }
    where
      by : (s : Site) → HasRouteEntries net chosen s l.entries → HasRouteEntries net chosen s m.entries → l.entries ≡ m.entries
      by (Bound id) x y = both (l.entries ≡ m.entries) (slice_get net.route_lists id.0) x y (λ was a b. a ∙ sym b)
      by (New f) x y = x ∙ sym y

  abbrev pub routes : IsValid net → ListsOfKind net chosen
  routes valid = record {
    Row = RouteList;
    router = λ l. l.router.0;
    name = λ l. l.name;
    lists = net.route_lists;
    listed = route_listed valid;
    apart = valid.route_lists_named_apart;
    new = Route;
    face = route_face;
    face_is = λ f. refl;
    new_is = route_new;
    of_face = λ owner f called new. let o = of_route_face net valid chosen owner f called new in (o.row, o.at, o.router_is);
    IsFor = IsRouteListFor net chosen;
    one_for = one_route_list;
    router_is = λ key list row. row.router;
    name_is = λ key list row. row.name;
    edited = edited_route_list chosen;
    old_for = λ id was at. record {
      router = refl;
      name = refl;
      entries = of_some (λ (l : RouteList). with_prefixes was.entries (list_prefixes chosen id) ≡ with_prefixes l.entries (list_prefixes chosen id)) (slice_get net.route_lists id) was at refl;
    };
    IsNew = IsNewRouteList net chosen;
    named = λ f list new. new.named;
    new_for = λ f list new. record { router = refl; name = refl; entries = new.entries };
    made = λ owner f called new. (
      record { router = record { 0 = owner }; name = called; entries = new_route_entries (new_prefixes chosen f.0) },
      record { named = new; entries = refl },
      refl,
      refl,
    );
  }

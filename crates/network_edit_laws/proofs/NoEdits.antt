-- No edits change nothing, and cost nothing.
use Rattle.std.proofs.Common.{◌≡◌, ℕ, ◌<◌, ◌⊎◌, ◌↔◌, inl, inr, Bool, true, false, ◌||◌, Option, Some, None, List, [], ◌∷◌, ◌++◌, length, IsTrue, refl, sym, ◌∙◌, ap, subst}
use Rattle.std.specs.Prelude.{All, AllPairs, Contains, IfSome, IsSomeAnd, slice_get}
use Rattle.std.specs.List.{filter_map, cons_option}
use Rattle.std.proofs.lemmas.List.Elements.{All-contains}
use Rattle.std.proofs.lemmas.Option.{none-some}
use Rattle.arc_base.specs.declared.place.Face.{Face}
use Rattle.arc_base.specs.declared.place.ListId.{ListId}
use Rattle.arc_base.proofs.Items.{Contains-none}
use Rattle.net_model.specs.declared.rows.Protocol.{Protocol}
use Rattle.net_model.specs.declared.rows.Protocol.TheVariants.{Ospf, Bgp}
use Rattle.net_model.specs.declared.rows.FaceRow.{FaceRow}
use Rattle.net_model.specs.declared.rows.RouterRow.{RouterRow}
use Rattle.net_model.specs.declared.rows.SessionRow.{SessionRow}
use Rattle.net_model.specs.declared.rows.Network.{Network}
use Rattle.net_model.specs.Validity.{IsValid, IsValidSession}
use Rattle.net_model.proofs.Readings.{place_of_item, item_at_place}
use Rattle.net_model.proofs.Arcs.{one_item}
use Rattle.edit_list.specs.declared.list_kinds.NewList.{NewList}
use Rattle.edit_list.specs.After.{StaysBound, passive_after, IsNewPacketList, IsNewRouteList, IsRouterAfter, IsFaceAfter, IsSessionAfter}
use Rattle.network_edit_laws.specs.Laws.{NoEditsChangeNothing, NoEditsCostNothing}
use Rattle.edit_list.specs.NewLists.{new_route_list, new_packet_list, new_lists, new_lists_of, new_names_of, free_names, names_of, IsNewList}
use Rattle.arc_base.specs.Numbered.{placed, of_number}
use Rattle.arc_base.specs.NameForms.{IsNameBefore}
use Rattle.edit_list.proofs.RowFacts.{item_of}

pub none_cost : NoEditsCostNothing
none_cost weights = refl

none_picked : {X Y : Type 0} (h : X → Option Y) (xs : List X) → ((x : X) → h x ≡ None) → filter_map h xs ≡ []
none_picked h [] none = refl
none_picked h (x ∷ xs) none = ap (λ o. cons_option o (filter_map h xs)) (none x) ∙ none_picked h xs none

no_flag : (b : Bool) → b ≡ (b || false)
no_flag true = refl
no_flag false = refl

-- lists stay where they are
stays : {L : Type 0} (lists : List L) (o : Option ListId) → IfSome o (λ id. id.0 < length lists) →
    StaysBound (λ was now. IsSomeAnd (slice_get lists was.0) (λ l. slice_get lists now.0 ≡ Some l)) o o
stays lists None h = refl
stays {L} lists (Some id) h = let one = item_of lists id.0 h in subst (λ (o : Option L). IsSomeAnd o (λ l. slice_get lists id.0 ≡ Some l)) (sym one.1) one.1

-- and none is new
just_listed : {L : Type 0} (lists : List L) (IsNew : Face → L → Type 0) → ((face : Face) (list : L) → IsNew face list → ⊥) → (list : L) →
    Contains lists list ↔ (((place : ℕ) × (was : L) × (slice_get lists place ≡ Some was) × (list ≡ was)) ⊎ ((face : Face) × IsNew face list))
just_listed {L} lists IsNew none list = (
  λ there. let p = place_of_item lists list there in inl (p.0, list, p.1, refl),
  λ h. elim h [
    | inl old ↦ subst (λ (l : L). Contains lists l) (sym old.3) (item_at_place lists old.0 old.1 old.2)
    | inr new ↦ absurd (none new.0 list new.1)
  ],
)

module _ (net : Network) (valid : IsValid net) where
  no_lists : new_lists net [] ≡ []
  no_lists = ap (λ l. l ++ filter_map (new_packet_list []) (placed net.faces)) (none_picked (new_route_list net []) net.sessions (λ s. refl))
      ∙ none_picked (new_packet_list []) (placed net.faces) (λ f. refl)

  no_lists_of : (router : ℕ) → new_lists_of net [] router ≡ []
  no_lists_of router = ap (of_number router) no_lists

  none_new : (router : ℕ) (list : NewList) (name : List ℕ) → IsNewList net [] router list name → ⊥
  none_new router list name new = none-some list (sym (ap (λ (l : List NewList). slice_get l new.place) (no_lists_of router)) ∙ new.list_is)

  within : (P : ListId → Type 0) (count : ℕ) (o : Option ListId) → IfSome o (λ id. (id.0 < count) × P id) → IfSome o (λ id. id.0 < count)
  within P count None h = tt
  within P count (Some id) h = h.0

  same_passive : (protocol : Protocol) (place : ℕ) (was : Bool) → was ≡ passive_after protocol [] place was
  same_passive Ospf place was = refl
  same_passive Bgp place was = refl

  face_stays : (place : ℕ) (x y : FaceRow) → slice_get net.faces place ≡ Some x → slice_get net.faces place ≡ Some y → IsFaceAfter net [] net place x y
  face_stays place x y at_x at_y =
      let v = valid.faces place x at_x in
      subst (IsFaceAfter net [] net place x) (one_item net.faces place x y at_x at_y)
      (record {
        same = refl;
        passive = same_passive net.protocol place x.passive;
        bound_in = no_flag x.bound_in;
        list_in = stays net.packet_lists x.list_in (within (λ id. IsTrue x.bound_in) (length net.packet_lists) x.list_in v.list_in);
        list_out = stays net.packet_lists x.list_out v.list_out;
      })

  session_stays : (place : ℕ) (x y : SessionRow) → slice_get net.sessions place ≡ Some x → slice_get net.sessions place ≡ Some y → IsSessionAfter net [] net place x y
  session_stays place x y at_x at_y =
      let v : IsValidSession net x = All-contains (IsValidSession net) net.sessions x valid.sessions (item_at_place net.sessions place x at_x) in
      subst (IsSessionAfter net [] net place x) (one_item net.sessions place x y at_x at_y)
      (record { same = refl; down = refl; bound = no_flag x.bound; filter = stays net.route_lists x.filter (within (λ id. IsTrue x.bound) (length net.route_lists) x.filter v.filter) })

  module _ (names : All (λ router. AllPairs IsNameBefore router.names) net.routers) where
    router_stays : (place : ℕ) (x y : RouterRow) → slice_get net.routers place ≡ Some x → slice_get net.routers place ≡ Some y → IsRouterAfter net [] place x y
    router_stays place x y at_x at_y =
        subst (IsRouterAfter net [] place x) (one_item net.routers place x y at_x at_y)
        (record {
          name = refl;
          asn = refl;
          order = All-contains (λ (r : RouterRow). AllPairs IsNameBefore r.names) net.routers x names (item_at_place net.routers place x at_x);
          names = λ name. (λ there. inl there, only name);
        })
      where
        no_name : (name : List ℕ) → Contains (new_names_of net [] place) name → ⊥
        no_name name there = Contains-none name (subst (λ (l : List (List ℕ)). Contains l name) none there)
          where
            none : new_names_of net [] place ≡ []
            none = ap (λ (l : List NewList). free_names (names_of net place) (length l)) (no_lists_of place) ∙ refl

        only : (name : List ℕ) → Contains x.names name ⊎ Contains (new_names_of net [] place) name → Contains x.names name
        only name (inl old) = old
        only name (inr new) = absurd (no_name name new)

pub none_change : NoEditsChangeNothing
none_change net valid names packet_order route_order = record {
  protocol = refl;
  links = refl;
  routers = record { whole = refl; each = router_stays net valid names };
  faces = record { whole = refl; each = face_stays net valid };
  sessions = record { whole = refl; each = session_stays net valid };
  packet_order = packet_order;
  packet_lists = just_listed net.packet_lists (IsNewPacketList net []) (λ face list new. none_new net valid list.router.0 _ list.name new.named);
  route_order = route_order;
  route_lists = just_listed net.route_lists (IsNewRouteList net []) (λ face list new. none_new net valid list.router.0 _ list.name new.named);
}

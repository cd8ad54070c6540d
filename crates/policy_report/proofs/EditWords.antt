-- No word of an edit's text has a space or a control byte in it.
use Rattle.std.proofs.Common.{◌≡◌, ℕ, ◌^◌, ◌<◌, ◌==◌, inl, inr, Bool, true, false, cond, List, [], ◌∷◌, refl, sym, subst, arith, codes, All, Option, Some, None, IsTrue, find}
use Rattle.std.specs.Prelude.{Contains, slice_get}
use Rattle.std.specs.Char.{is_ascii_digit}
use Rattle.std.specs.Option.{option_map_or}
use Rattle.std.proofs.lemmas.Bool.Decides.{nat_tests}
use Rattle.std.proofs.lemmas.List.Elements.{All-nil, All-cons}
use Rattle.std.proofs.lemmas.Option.{same_Some, none-some, slice_get_within, get_or_from_slice_get}
use Rattle.arc_base.proofs.Items.{Contains-head, Contains-tail, Contains-cases, Contains-none}
use Rattle.arc_base.specs.declared.place.Face.{Face}
use Rattle.arc_base.specs.declared.place.ListId.{ListId}
use Rattle.arc_base.specs.declared.place.Router.{Router}
use Rattle.arc_base.specs.PrefixText.{address_text}
use Rattle.net_model.specs.declared.lists.PacketList.{PacketList}
use Rattle.net_model.specs.declared.lists.RouteList.{RouteList}
use Rattle.net_model.specs.declared.rows.FaceRow.{FaceRow}
use Rattle.net_model.specs.declared.rows.RouterRow.{RouterRow}
use Rattle.net_model.specs.declared.rows.SessionRow.{SessionRow}
use Rattle.net_model.specs.declared.rows.Network.{Network}
use Rattle.net_model.specs.Routing.{session_at}
use Rattle.net_model.specs.Validity.{IsValid, IsValidPacketList, IsValidRouteList}
use Rattle.arc_base.specs.NameForms.{IsName, IsFaceName, IsUnit, face_kinds}
use Rattle.edit_list.specs.declared.edit_kinds.Edit.{Edit}
use Rattle.edit_list.specs.declared.edit_kinds.Edit.TheVariants as edits
use Rattle.policy_report.specs.Edits.{router_name, owner_name, face_name, neighbor_text, route_list_words, packet_list_words, edit_words, HasAddresses}
use Rattle.policy_report.specs.Reports.{class_words}
use Rattle.policy_report.proofs.ServiceParts.{are_class_words}
use Rattle.policy_report.proofs.Spaced.{IsWord, AreWords, words_append}
use Rattle.policy_report.proofs.WordBytes.{word, joined_words, name_word, address_word, prefix_word}

-- what holds of all rows holds of the one at a place
pub at_place : {X : Type 0} (P : X → Type 0) (xs : List X) (k : ℕ) (x : X) → slice_get xs k ≡ Some x → All P xs → P x
at_place P xs k x there all = subst P (get_or_from_slice_get xs k x x there) (all k x (slice_get_within xs k x there))

-- what is found passes, and is there
pub found_passes : {X : Type 0} (test : X → Bool) (xs : List X) (x : X) → find test xs ≡ Some x → (test x ≡ true) × Contains xs x
found_passes test [] x e = absurd (none-some x e)
found_passes {X} test (y ∷ xs) x e = by (test y) refl (found_passes test xs x) e
  where
    by : (b : Bool) → test y ≡ b → (find test xs ≡ Some x → (test x ≡ true) × Contains xs x) → cond b (Some y) (find test xs) ≡ Some x → (test x ≡ true) × Contains (y ∷ xs) x
    by true passes rest e =
        let same : y ≡ x = same_Some y x e in
        (subst (λ (z : X). test z ≡ true) same passes, subst (λ (z : X). Contains (y ∷ xs) z) same (Contains-head y xs))
    by false fails rest e = let later = rest e in (later.0, Contains-tail y x xs later.1)

-- the name of an interface
digit_byte : (b : ℕ) → IsTrue (is_ascii_digit b) → 32 < b
digit_byte b h = grind (arith, nat_tests)

unit_word : (unit : List ℕ) → IsUnit unit → IsWord unit
unfolding IsWord
unit_word [] h = absurd h
unit_word (b ∷ []) h = All-cons (λ b. 32 < b) b [] (digit_byte b h) (All-nil (λ b. 32 < b))
unit_word (b ∷ c ∷ bytes) h =
    All-cons (λ b. 32 < b) b (c ∷ bytes) (digit_byte b h.0)
    (elim h.1 [
      | inl more ↦ unit_word (c ∷ bytes) more
      | inr slash ↦ All-cons (λ b. 32 < b) c bytes (omega (arith, slash.0)) (unit_word bytes slash.1)
    ])

pub are_words_contains : (ws : List (List ℕ)) (w : List ℕ) → AreWords ws → Contains ws w → IsWord w
are_words_contains [] w h k = absurd (Contains-none w k)
are_words_contains (v ∷ ws) w h k =
    elim (Contains-cases v w ws k) [
      | inl same ↦ subst IsWord same h.0
      | inr later ↦ are_words_contains ws w h.1 later
    ]

face_word : (name : List ℕ) → IsFaceName name → IsWord name
face_word name h =
    let kind : IsWord h.kind = are_words_contains face_kinds h.kind (word _ refl, (word _ refl, (word _ refl, (word _ refl, (word _ refl, (word _ refl, tt)))))) h.known in
    subst IsWord (sym h.joined) (joined_words h.kind h.unit kind (unit_word h.unit h.numbers))

no_word : IsWord []
no_word = word [] refl

module _ (net : Network) (valid : IsValid net) where
  router_word : (router : Router) → IsWord (router_name net router)
  router_word router = by (slice_get net.routers router.0) refl
    where
      by : (o : Option RouterRow) → slice_get net.routers router.0 ≡ o → IsWord (option_map_or (λ (r : RouterRow). r.name) o [])
      by None e = no_word
      by (Some r) e = name_word r.name (at_place (λ (r : RouterRow). IsName r.name) net.routers router.0 r e valid.router_names)

  pub owner_word : (face : Face) → IsWord (owner_name net face)
  owner_word face = by (slice_get net.faces face.0)
    where
      by : (o : Option FaceRow) → IsWord (option_map_or (λ (f : FaceRow). router_name net f.router) o [])
      by None = no_word
      by (Some f) = router_word f.router

  pub face_name_word : (face : Face) → IsWord (face_name net face)
  face_name_word face = by (slice_get net.faces face.0) refl
    where
      by : (o : Option FaceRow) → slice_get net.faces face.0 ≡ o → IsWord (option_map_or (λ (f : FaceRow). f.name) o [])
      by None e = no_word
      by (Some f) e = face_word f.name (valid.faces face.0 f e).name

  pub neighbor_word : HasAddresses net → (face : Face) → IsWord (neighbor_text net face)
  neighbor_word small face = by (session_at net face) refl
    where
      by : (o : Option SessionRow) → session_at net face ≡ o → IsWord (option_map_or (λ (s : SessionRow). address_text s.peer) o [])
      by None e = no_word
      by (Some s) e =
          let there = (found_passes (λ (s : SessionRow). s.face.0 == face.0) net.sessions s e).1 in
          let fits : s.peer < 2 ^ 32 = subst (λ (s : SessionRow). s.peer < 2 ^ 32) there.2 (small there.0 s there.1) in
          address_word s.peer fits

  route_words : (list : ListId) → AreWords (route_list_words net list)
  route_words list = by (slice_get net.route_lists list.0) refl
    where
      by : (o : Option RouteList) → slice_get net.route_lists list.0 ≡ o → AreWords (option_map_or (λ (l : RouteList). router_name net l.router ∷ codes "list" ∷ l.name ∷ []) o [])
      by None e = tt
      by (Some l) e = (router_word l.router, (word _ refl, (name_word l.name (at_place (IsValidRouteList net) net.route_lists list.0 l e valid.route_lists).name, tt)))

  packet_words : (list : ListId) → AreWords (packet_list_words net list)
  packet_words list = by (slice_get net.packet_lists list.0) refl
    where
      by : (o : Option PacketList) → slice_get net.packet_lists list.0 ≡ o → AreWords (option_map_or (λ (l : PacketList). router_name net l.router ∷ codes "list" ∷ l.name ∷ []) o [])
      by None e = tt
      by (Some l) e = (router_word l.router, (word _ refl, (name_word l.name (at_place (IsValidPacketList net) net.packet_lists list.0 l e valid.packet_lists).name, tt)))

  -- the words of an edit
  pub are_edit_words : HasAddresses net → (edit : Edit) → AreWords (codes "edit" ∷ edit_words net edit)
  are_edit_words small (edits.Session face) = (word _ refl, (word _ refl, (owner_word face, (face_name_word face, tt))))
  are_edit_words small (edits.RouteList list prefix) =
      (word _ refl, (word _ refl, words_append (route_list_words net list) _ (route_words list) (prefix_word prefix, tt)))
  are_edit_words small (edits.RouteNew face prefix) =
      (word _ refl, (word _ refl, (owner_word face, (word _ refl, (neighbor_word small face, (prefix_word prefix, tt))))))
  are_edit_words small (edits.PacketList list class) =
      (word _ refl, (word _ refl, words_append (packet_list_words net list) (class_words class) (packet_words list) (are_class_words class)))
  are_edit_words small (edits.PacketNew face class) =
      (word _ refl, (word _ refl, (owner_word face, (word _ refl, (face_name_word face, are_class_words class)))))

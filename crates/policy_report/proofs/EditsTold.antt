-- No two edits of a network have one text.
use Rattle.std.proofs.Common.{◌≡◌, ◌≢◌, ℕ, ◌^◌, ◌<◌, ◌==◌, ◌⊎◌, ⊎_elim, inl, inr, Bool, true, false, cond, List, [], ◌∷◌, ◌++◌, length, get_or}
use Rattle.std.proofs.Common.{find, refl, sym, subst, ap, ◌∙◌, arith, codes, Option, Some}
use Rattle.std.specs.Prelude.{AllPairs, Contains, bytes_eq, slice_get}
use Rattle.std.specs.Option.{option_map_or}
use Rattle.std.proofs.lemmas.Bool.{cases_lt, eq-eqb, eqb-true, false≢true}
use Rattle.std.proofs.lemmas.Option.{same_Some, slice_get_within, slice_get-get_or, get_or_from_slice_get}
use Rattle.arc_base.proofs.Items.{Contains-cases, Contains-none, AllPairs-among}
use Rattle.arc_base.proofs.AddressTexts.{address_of-address_text}
use Rattle.arc_base.proofs.PrefixTexts.{exact}
use Rattle.arc_base.specs.declared.place.Face.{Face}
use Rattle.arc_base.specs.declared.place.ListId.{ListId}
use Rattle.arc_base.specs.declared.place.Router.{Router}
use Rattle.arc_base.specs.declared.prefix.Prefix.{Prefix}
use Rattle.arc_base.specs.PrefixText.{address_of, address_text, prefix_of, prefix_text}
use Rattle.net_model.specs.declared.lists.PacketList.{PacketList}
use Rattle.net_model.specs.declared.lists.RouteList.{RouteList}
use Rattle.net_model.specs.declared.policies.Class.{Class}
use Rattle.net_model.specs.declared.rows.FaceRow.{FaceRow}
use Rattle.net_model.specs.declared.rows.LinkRow.{LinkRow}
use Rattle.net_model.specs.declared.rows.RouterRow.{RouterRow}
use Rattle.net_model.specs.declared.rows.SessionRow.{SessionRow}
use Rattle.net_model.specs.declared.rows.Network.{Network}
use Rattle.net_model.specs.Routing.{session_at}
use Rattle.net_model.specs.Validity.{IsValid, AreSessionsApart, IsValidPacketList, IsValidRouteList}
use Rattle.net_model.proofs.Readings.{place_of_item}
use Rattle.edit_list.specs.declared.edit_kinds.Edit.{Edit}
use Rattle.edit_list.specs.declared.edit_kinds.Edit.TheVariants as edits
use Rattle.policy_report.specs.Edits.{router_name, owner_name, face_name, neighbor_text, route_list_words, packet_list_words, edit_words, edit_text, HasAddresses, EditsAreToldApart}
use Rattle.policy_report.specs.Readings.{line_words, class_at}
use Rattle.policy_report.specs.Reports.{class_words}
use Rattle.edit_list.proofs.EditsApart.{all_different}
use Rattle.edit_list.proofs.EditsFrom.{IsFrom, edits_from}
use Rattle.policy_report.proofs.EditWords.{at_place, found_passes, are_edit_words}
use Rattle.policy_report.proofs.ServiceParts.{lone_class_read}
use Rattle.policy_report.proofs.Spaced.{words_read, heads}

-- two rows that are not apart stand at one place
same_place : {X : Type 0} (R : X → X → Type 0) (xs : List X) (i j : ℕ) (x y : X) → AllPairs R xs → slice_get xs i ≡ Some x → slice_get xs j ≡ Some y → ¬ R x y → ¬ R y x → i ≡ j
same_place {X} R xs i j x y apart at_i at_j one two =
    let is_x = λ (d : X). get_or_from_slice_get xs i x d at_i in
    let is_y = λ (d : X). get_or_from_slice_get xs j y d at_j in
    ⊎_elim
    (λ before. absurd (one (subst (λ (z : X). R z y) (is_x x) (subst (λ (z : X). R (get_or xs i x) z) (is_y x) (apart i j x before (slice_get_within xs j y at_j))))))
    (λ not_before. ⊎_elim
    (λ after. absurd (two (subst (λ (z : X). R z x) (is_y y) (subst (λ (z : X). R (get_or xs j y) z) (is_x y) (apart j i y after (slice_get_within xs i x at_i))))))
    (λ not_after. omega arith)
    (cases_lt j i))
    (cases_lt i j)

-- other words are no words of the same text
other_word : (v w : List ℕ) → bytes_eq v w ≡ false → v ≡ w → bytes_eq w w ≡ true → ⊥
other_word v w differ same itself = false≢true (sym differ ∙ ap (λ u. bytes_eq u w) same ∙ itself)

-- one prefix has one text
one_prefix : (p q : Prefix) → prefix_text p ≡ prefix_text q → p ≡ q
one_prefix p q e = same_Some p q (sym ((exact (prefix_text p) p).1 refl) ∙ ap prefix_of e ∙ (exact (prefix_text q) q).1 refl)

one_address : (a b : ℕ) → a < 2 ^ 32 → b < 2 ^ 32 → address_text a ≡ address_text b → a ≡ b
one_address a b small low e = same_Some a b (sym (address_of-address_text a small) ∙ ap address_of e ∙ address_of-address_text b low)

one_class : (c d : Class) → class_words c ≡ class_words d → c ≡ d
one_class c d e = ap (λ (found : Class × List (List ℕ)). found.0) (same_Some _ _ (sym (lone_class_read c) ∙ ap class_at e ∙ lone_class_read d))

-- a row at a place
record Row {X : Type 0} (xs : List X) (place : ℕ) : Type 0 where
  pub row : X
  pub at : slice_get xs place ≡ Some row

row_at : {X : Type 0} (xs : List X) (place : ℕ) → place < length xs → Row xs place
row_at [] place within = absurd (omega (arith, within))
row_at (x ∷ xs) place within = record { row = get_or (x ∷ xs) place x; at = slice_get-get_or (x ∷ xs) place x within }

-- the row of the interface, of the list or of the session is there
record HasSession (net : Network) (face : Face) : Type 0 where
  pub session : SessionRow
  pub found : session_at net face ≡ Some session

abbrev IsThere : Network → Edit → Type 0
IsThere net (edits.Session face) = face.0 < length net.faces
IsThere net (edits.RouteList list prefix) = list.0 < length net.route_lists
IsThere net (edits.RouteNew face prefix) = (face.0 < length net.faces) × HasSession net face
IsThere net (edits.PacketList list class) = list.0 < length net.packet_lists
IsThere net (edits.PacketNew face class) = face.0 < length net.faces

-- where an item passes, one is found
finds : {X : Type 0} (test : X → Bool) (xs : List X) (x : X) → Contains xs x → test x ≡ true → (t : X) × (find test xs ≡ Some t)
finds test [] x there passes = absurd (Contains-none x there)
finds {X} test (y ∷ xs) x there passes = by (test y) refl (λ later. finds test xs x later passes)
  where
    by : (b : Bool) → test y ≡ b → (Contains xs x → (t : X) × (find test xs ≡ Some t)) → (t : X) × (cond b (Some y) (find test xs) ≡ Some t)
    by true e rest = (y, refl)
    by false e rest =
        elim (Contains-cases y x xs there) [
          | inl same ↦ absurd (false≢true (sym e ∙ subst (λ (z : X). test z ≡ true) (sym same) passes))
          | inr later ↦ rest later
        ]

module _ (net : Network) (valid : IsValid net) where
  -- one name, one router
  one_router : (r s : Router) → r.0 < length net.routers → s.0 < length net.routers → router_name net r ≡ router_name net s → r.0 ≡ s.0
  one_router r s within also e =
      let one = row_at net.routers r.0 within in
      let two = row_at net.routers s.0 also in
      let name = λ (o : Option RouterRow). option_map_or (λ (row : RouterRow). row.name) o [] in
      let same : one.row.name ≡ two.row.name = sym (ap name one.at) ∙ e ∙ ap name two.at in
      same_place (λ (x : RouterRow) (y : RouterRow). x.name ≢ y.name) net.routers r.0 s.0 one.row two.row valid.routers_named_apart one.at two.at (λ h. h same) (λ h. h (sym same))

  owner_is : (face : Face) (row : FaceRow) → slice_get net.faces face.0 ≡ Some row → owner_name net face ≡ router_name net row.router
  owner_is face row at = ap (λ (o : Option FaceRow). option_map_or (λ (f : FaceRow). router_name net f.router) o []) at

  name_is : (face : Face) (row : FaceRow) → slice_get net.faces face.0 ≡ Some row → face_name net face ≡ row.name
  name_is face row at = ap (λ (o : Option FaceRow). option_map_or (λ (f : FaceRow). f.name) o []) at

  -- the same owner
  same_owner : (f g : Face) (x y : FaceRow) → slice_get net.faces f.0 ≡ Some x → slice_get net.faces g.0 ≡ Some y → owner_name net f ≡ owner_name net g → x.router.0 ≡ y.router.0
  same_owner f g x y at_f at_g e =
      one_router x.router y.router (valid.faces f.0 x at_f).router (valid.faces g.0 y at_g).router (sym (owner_is f x at_f) ∙ e ∙ owner_is g y at_g)

  -- one router and one name, one interface
  one_face : (f g : Face) → f.0 < length net.faces → g.0 < length net.faces → owner_name net f ≡ owner_name net g → face_name net f ≡ face_name net g → f.0 ≡ g.0
  one_face f g within also owners names =
      let one = row_at net.faces f.0 within in
      let two = row_at net.faces g.0 also in
      let routers = same_owner f g one.row two.row one.at two.at owners in
      let same : one.row.name ≡ two.row.name = sym (name_is f one.row one.at) ∙ names ∙ name_is g two.row two.at in
      same_place (λ (x : FaceRow) (y : FaceRow). x.router.0 ≡ y.router.0 → x.name ≢ y.name) net.faces f.0 g.0 one.row two.row valid.faces_named_apart one.at two.at
      (λ h. h routers same) (λ h. h (sym routers) (sym same))

  -- one router and one neighbour, one interface
  neighbor_is : (face : Face) (s : SessionRow) → session_at net face ≡ Some s → neighbor_text net face ≡ address_text s.peer
  neighbor_is face s found = ap (λ (o : Option SessionRow). option_map_or (λ (t : SessionRow). address_text t.peer) o []) found

  record Session (face : Face) (s : SessionRow) : Type 0 where
    pub place : ℕ
    pub at : slice_get net.sessions place ≡ Some s
    pub face_is : s.face.0 ≡ face.0
    pub small : s.peer < 2 ^ 32

  session_is : HasAddresses net → (face : Face) (s : SessionRow) → session_at net face ≡ Some s → Session face s
  session_is addresses face s found =
      let passes = found_passes (λ (t : SessionRow). t.face.0 == face.0) net.sessions s found in
      let there = passes.1 in
      let at : slice_get net.sessions there.0 ≡ Some s = slice_get-get_or net.sessions there.0 s there.1 ∙ ap Some there.2 in
      record {
        place = there.0;
        at = at;
        face_is = eqb-true _ _ passes.0;
        small = at_place (λ (t : SessionRow). t.peer < 2 ^ 32) net.sessions there.0 s at addresses;
      }

  one_neighbor : HasAddresses net → (f g : Face) → f.0 < length net.faces → g.0 < length net.faces → HasSession net f → HasSession net g →
      owner_name net f ≡ owner_name net g → neighbor_text net f ≡ neighbor_text net g → f.0 ≡ g.0
  one_neighbor addresses f g within also has_f has_g owners texts =
      let one = row_at net.faces f.0 within in
      let two = row_at net.faces g.0 also in
      let routers = same_owner f g one.row two.row one.at two.at owners in
      let s = session_is addresses f has_f.session has_f.found in
      let t = session_is addresses g has_g.session has_g.found in
      let peers : has_f.session.peer ≡ has_g.session.peer =
      one_address _ _ s.small t.small (sym (neighbor_is f has_f.session has_f.found) ∙ texts ∙ neighbor_is g has_g.session has_g.found) in
      let row_s : slice_get net.faces has_f.session.face.0 ≡ Some one.row = ap (slice_get net.faces) s.face_is ∙ one.at in
      let row_t : slice_get net.faces has_g.session.face.0 ≡ Some two.row = ap (slice_get net.faces) t.face_is ∙ two.at in
      let places : s.place ≡ t.place =
      same_place (AreSessionsApart net) net.sessions s.place t.place has_f.session has_g.session valid.sessions_apart s.at t.at
      (λ h. h.1 one.row two.row row_s row_t routers peers) (λ h. h.1 two.row one.row row_t row_s (sym routers) (sym peers)) in
      let rows : has_f.session ≡ has_g.session = same_Some _ _ (sym s.at ∙ ap (slice_get net.sessions) places ∙ t.at) in
      sym s.face_is ∙ ap (λ (r : SessionRow). r.face.0) rows ∙ t.face_is

  -- the words of lists
  route_list_is : (list : ListId) (l : RouteList) → slice_get net.route_lists list.0 ≡ Some l → route_list_words net list ≡ router_name net l.router ∷ codes "list" ∷ l.name ∷ []
  route_list_is list l at = ap (λ (o : Option RouteList). option_map_or (λ (l : RouteList). router_name net l.router ∷ codes "list" ∷ l.name ∷ []) o []) at

  packet_list_is : (list : ListId) (l : PacketList) → slice_get net.packet_lists list.0 ≡ Some l → packet_list_words net list ≡ router_name net l.router ∷ codes "list" ∷ l.name ∷ []
  packet_list_is list l at = ap (λ (o : Option PacketList). option_map_or (λ (l : PacketList). router_name net l.router ∷ codes "list" ∷ l.name ∷ []) o []) at

  one_route_list : (i j : ListId) (l m : RouteList) → slice_get net.route_lists i.0 ≡ Some l → slice_get net.route_lists j.0 ≡ Some m →
      router_name net l.router ≡ router_name net m.router → l.name ≡ m.name → i.0 ≡ j.0
  one_route_list i j l m at_l at_m owners names =
      let one = at_place (IsValidRouteList net) net.route_lists i.0 l at_l valid.route_lists in
      let two = at_place (IsValidRouteList net) net.route_lists j.0 m at_m valid.route_lists in
      let routers = one_router l.router m.router (slice_get_within net.routers l.router.0 one.owner one.owner_is) (slice_get_within net.routers m.router.0 two.owner two.owner_is) owners in
      same_place (λ (x : RouteList) (y : RouteList). x.router.0 ≡ y.router.0 → x.name ≢ y.name) net.route_lists i.0 j.0 l m valid.route_lists_named_apart at_l at_m
      (λ h. h routers names) (λ h. h (sym routers) (sym names))

  one_packet_list : (i j : ListId) (l m : PacketList) → slice_get net.packet_lists i.0 ≡ Some l → slice_get net.packet_lists j.0 ≡ Some m →
      router_name net l.router ≡ router_name net m.router → l.name ≡ m.name → i.0 ≡ j.0
  one_packet_list i j l m at_l at_m owners names =
      let one = at_place (IsValidPacketList net) net.packet_lists i.0 l at_l valid.packet_lists in
      let two = at_place (IsValidPacketList net) net.packet_lists j.0 m at_m valid.packet_lists in
      let routers = one_router l.router m.router (slice_get_within net.routers l.router.0 one.owner one.owner_is) (slice_get_within net.routers m.router.0 two.owner two.owner_is) owners in
      same_place (λ (x : PacketList) (y : PacketList). x.router.0 ≡ y.router.0 → x.name ≢ y.name) net.packet_lists i.0 j.0 l m valid.packet_lists_named_apart at_l at_m
      (λ h. h routers names) (λ h. h (sym routers) (sym names))

  -- the first word tells what kind an edit is of
  abbrev first_word : Edit → List ℕ
  first_word (edits.Session face) = codes "session"
  first_word (edits.RouteList list prefix) = codes "route"
  first_word (edits.RouteNew face prefix) = codes "route"
  first_word (edits.PacketList list class) = codes "packet"
  first_word (edits.PacketNew face class) = codes "packet"

  abbrev first_of : List (List ℕ) → List ℕ
  first_of [] = []
  first_of (w ∷ ws) = w

  first_is : (edit : Edit) → first_of (edit_words net edit) ≡ first_word edit
  first_is (edits.Session face) = refl
  first_is (edits.RouteList list prefix) = refl
  first_is (edits.RouteNew face prefix) = refl
  first_is (edits.PacketList list class) = refl
  first_is (edits.PacketNew face class) = refl

  same_first : (x y : Edit) → edit_words net x ≡ edit_words net y → first_word x ≡ first_word y
  same_first x y e = sym (first_is x) ∙ ap first_of e ∙ first_is y

  -- the same words are those of the same edit
  same_session : (f g : Face) → f.0 < length net.faces → g.0 < length net.faces → edit_words net (edits.Session f) ≡ edit_words net (edits.Session g) → edits.Session f ≡ edits.Session g
  same_session f g within also e =
      let k : f.0 ≡ g.0 = one_face f g within also (cc) (cc) in
      ap (λ (k : ℕ). edits.Session (record { 0 = k })) k

  same_route_list : (i j : ListId) (p q : Prefix) → i.0 < length net.route_lists → j.0 < length net.route_lists →
      edit_words net (edits.RouteList i p) ≡ edit_words net (edits.RouteList j q) → edits.RouteList i p ≡ edits.RouteList j q
  same_route_list i j p q within also e =
      let one = row_at net.route_lists i.0 within in
      let two = row_at net.route_lists j.0 also in
      let ws : codes "route" ∷ router_name net one.row.router ∷ codes "list" ∷ one.row.name ∷ prefix_text p ∷ [] ≡
      codes "route" ∷ router_name net two.row.router ∷ codes "list" ∷ two.row.name ∷ prefix_text q ∷ [] =
      ap (λ l. codes "route" ∷ (l ++ prefix_text p ∷ [])) (sym (route_list_is i one.row one.at)) ∙ e ∙ ap (λ l. codes "route" ∷ (l ++ prefix_text q ∷ [])) (route_list_is j two.row two.at) in
      let k : i.0 ≡ j.0 = one_route_list i j one.row two.row one.at two.at (cc) (cc) in
      let r : p ≡ q = one_prefix p q (cc) in
      λ t. edits.RouteList (record { 0 = k t }) (r t)

  same_route_new : HasAddresses net → (f g : Face) (p q : Prefix) → f.0 < length net.faces → g.0 < length net.faces → HasSession net f → HasSession net g →
      edit_words net (edits.RouteNew f p) ≡ edit_words net (edits.RouteNew g q) → edits.RouteNew f p ≡ edits.RouteNew g q
  same_route_new addresses f g p q within also has_f has_g e =
      let k : f.0 ≡ g.0 = one_neighbor addresses f g within also has_f has_g (cc) (cc) in
      let r : p ≡ q = one_prefix p q (cc) in
      λ t. edits.RouteNew (record { 0 = k t }) (r t)

  same_packet_list : (i j : ListId) (c d : Class) → i.0 < length net.packet_lists → j.0 < length net.packet_lists →
      edit_words net (edits.PacketList i c) ≡ edit_words net (edits.PacketList j d) → edits.PacketList i c ≡ edits.PacketList j d
  same_packet_list i j c d within also e =
      let one = row_at net.packet_lists i.0 within in
      let two = row_at net.packet_lists j.0 also in
      let ws : codes "packet" ∷ router_name net one.row.router ∷ codes "list" ∷ one.row.name ∷ class_words c ≡
      codes "packet" ∷ router_name net two.row.router ∷ codes "list" ∷ two.row.name ∷ class_words d =
      ap (λ l. codes "packet" ∷ (l ++ class_words c)) (sym (packet_list_is i one.row one.at)) ∙ e ∙
      ap (λ l. codes "packet" ∷ (l ++ class_words d)) (packet_list_is j two.row two.at) in
      let k : i.0 ≡ j.0 = one_packet_list i j one.row two.row one.at two.at (cc) (cc) in
      let r : c ≡ d = one_class c d (cc) in
      λ t. edits.PacketList (record { 0 = k t }) (r t)

  same_packet_new : (f g : Face) (c d : Class) → f.0 < length net.faces → g.0 < length net.faces →
      edit_words net (edits.PacketNew f c) ≡ edit_words net (edits.PacketNew g d) → edits.PacketNew f c ≡ edits.PacketNew g d
  same_packet_new f g c d within also e =
      let k : f.0 ≡ g.0 = one_face f g within also (cc) (cc) in
      let r : c ≡ d = one_class c d (cc) in
      λ t. edits.PacketNew (record { 0 = k t }) (r t)

  -- a list and a new list have another third word
  abbrev third_of : List (List ℕ) → List ℕ
  third_of (a ∷ b ∷ c ∷ ws) = c
  third_of ws = []

  third_route_list : (i : ListId) (p : Prefix) → i.0 < length net.route_lists → third_of (edit_words net (edits.RouteList i p)) ≡ codes "list"
  third_route_list i p within =
      let one = row_at net.route_lists i.0 within in
      ap (λ l. third_of (codes "route" ∷ (l ++ prefix_text p ∷ []))) (route_list_is i one.row one.at)

  third_packet_list : (i : ListId) (c : Class) → i.0 < length net.packet_lists → third_of (edit_words net (edits.PacketList i c)) ≡ codes "list"
  third_packet_list i c within =
      let one = row_at net.packet_lists i.0 within in
      ap (λ l. third_of (codes "packet" ∷ (l ++ class_words c))) (packet_list_is i one.row one.at)

  same_edit : HasAddresses net → (x y : Edit) → IsThere net x → IsThere net y → edit_words net x ≡ edit_words net y → x ≡ y
  same_edit addresses (edits.Session f) (edits.Session g) h k e = same_session f g h k e
  same_edit addresses (edits.RouteList i p) (edits.RouteList j q) h k e = same_route_list i j p q h k e
  same_edit addresses (edits.RouteNew f p) (edits.RouteNew g q) h k e = same_route_new addresses f g p q h.0 k.0 h.1 k.1 e
  same_edit addresses (edits.PacketList i c) (edits.PacketList j d) h k e = same_packet_list i j c d h k e
  same_edit addresses (edits.PacketNew f c) (edits.PacketNew g d) h k e = same_packet_new f g c d h k e
  same_edit addresses (edits.RouteList i p) (edits.RouteNew g q) h k e = absurd (other_word (codes "neighbor") (codes "list") refl (sym (ap third_of e) ∙ third_route_list i p h) refl)
  same_edit addresses (edits.RouteNew f p) (edits.RouteList j q) h k e = absurd (other_word (codes "neighbor") (codes "list") refl (ap third_of e ∙ third_route_list j q k) refl)
  same_edit addresses (edits.PacketList i c) (edits.PacketNew g d) h k e = absurd (other_word (codes "interface") (codes "list") refl (sym (ap third_of e) ∙ third_packet_list i c h) refl)
  same_edit addresses (edits.PacketNew f c) (edits.PacketList j d) h k e = absurd (other_word (codes "interface") (codes "list") refl (ap third_of e ∙ third_packet_list j d k) refl)
  same_edit addresses (edits.Session f) (edits.RouteList j q) h k e = absurd (other_word (codes "session") (codes "route") refl (same_first (edits.Session f) (edits.RouteList j q) e) refl)
  same_edit addresses (edits.Session f) (edits.RouteNew g q) h k e = absurd (other_word (codes "session") (codes "route") refl (same_first (edits.Session f) (edits.RouteNew g q) e) refl)
  same_edit addresses (edits.Session f) (edits.PacketList j d) h k e = absurd (other_word (codes "session") (codes "packet") refl (same_first (edits.Session f) (edits.PacketList j d) e) refl)
  same_edit addresses (edits.Session f) (edits.PacketNew g d) h k e = absurd (other_word (codes "session") (codes "packet") refl (same_first (edits.Session f) (edits.PacketNew g d) e) refl)
  same_edit addresses (edits.RouteList i p) (edits.Session g) h k e = absurd (other_word (codes "route") (codes "session") refl (same_first (edits.RouteList i p) (edits.Session g) e) refl)
  same_edit addresses (edits.RouteList i p) (edits.PacketList j d) h k e = absurd (other_word (codes "route") (codes "packet") refl (same_first (edits.RouteList i p) (edits.PacketList j d) e) refl)
  same_edit addresses (edits.RouteList i p) (edits.PacketNew g d) h k e = absurd (other_word (codes "route") (codes "packet") refl (same_first (edits.RouteList i p) (edits.PacketNew g d) e) refl)
  same_edit addresses (edits.RouteNew f p) (edits.Session g) h k e = absurd (other_word (codes "route") (codes "session") refl (same_first (edits.RouteNew f p) (edits.Session g) e) refl)
  same_edit addresses (edits.RouteNew f p) (edits.PacketList j d) h k e = absurd (other_word (codes "route") (codes "packet") refl (same_first (edits.RouteNew f p) (edits.PacketList j d) e) refl)
  same_edit addresses (edits.RouteNew f p) (edits.PacketNew g d) h k e = absurd (other_word (codes "route") (codes "packet") refl (same_first (edits.RouteNew f p) (edits.PacketNew g d) e) refl)
  same_edit addresses (edits.PacketList i c) (edits.Session g) h k e = absurd (other_word (codes "packet") (codes "session") refl (same_first (edits.PacketList i c) (edits.Session g) e) refl)
  same_edit addresses (edits.PacketList i c) (edits.RouteList j q) h k e = absurd (other_word (codes "packet") (codes "route") refl (same_first (edits.PacketList i c) (edits.RouteList j q) e) refl)
  same_edit addresses (edits.PacketList i c) (edits.RouteNew g q) h k e = absurd (other_word (codes "packet") (codes "route") refl (same_first (edits.PacketList i c) (edits.RouteNew g q) e) refl)
  same_edit addresses (edits.PacketNew f c) (edits.Session g) h k e = absurd (other_word (codes "packet") (codes "session") refl (same_first (edits.PacketNew f c) (edits.Session g) e) refl)
  same_edit addresses (edits.PacketNew f c) (edits.RouteList j q) h k e = absurd (other_word (codes "packet") (codes "route") refl (same_first (edits.PacketNew f c) (edits.RouteList j q) e) refl)
  same_edit addresses (edits.PacketNew f c) (edits.RouteNew g q) h k e = absurd (other_word (codes "packet") (codes "route") refl (same_first (edits.PacketNew f c) (edits.RouteNew g q) e) refl)

  -- what an edit of the network is about is there
  end_there : (face : Face) (link : LinkRow) → Contains net.links link → (face ≡ link.a) ⊎ (face ≡ link.b) → face.0 < length net.faces
  end_there face link one ends =
      let at = place_of_item net.links link one in
      let is = valid.links at.0 link at.1 in
      elim ends [
        | inl a ↦ subst (λ (f : Face). f.0 < length net.faces) (sym a) (slice_get_within net.faces link.a.0 is.a is.a_is)
        | inr b ↦ subst (λ (f : Face). f.0 < length net.faces) (sym b) (slice_get_within net.faces link.b.0 is.b is.b_is)
      ]

  there : (destinations : List Prefix) (all : List Class) (x : Edit) → IsFrom net destinations all x → IsThere net x
  there destinations all (edits.Session face) h = end_there face h.0 h.1 h.2
  there destinations all (edits.RouteList list prefix) h = h.0
  there destinations all (edits.RouteNew face prefix) h =
      let found = finds (λ (s : SessionRow). s.face.0 == face.0) net.sessions h.0.session h.0.one (eq-eqb h.0.session.face.0 face.0 (ap (λ (f : Face). f.0) h.0.at)) in
      (h.0.within, record { session = found.0; found = found.1 })
  there destinations all (edits.PacketList list class) h = slice_get_within net.packet_lists list.0 h.0.row h.0.at
  there destinations all (edits.PacketNew face class) h = slice_get_within net.faces face.0 h.0.row h.0.at

  -- one text, one edit
  one_edit : HasAddresses net → (x y : Edit) → IsThere net x → IsThere net y → edit_text net x ≡ edit_text net y → x ≡ y
  one_edit addresses x y h k e =
      let read = λ (z : Edit). words_read (codes "edit" ∷ edit_words net z) (omega arith) (are_edit_words net valid addresses z) in
      same_edit addresses x y h k (heads (codes "edit") (codes "edit") (edit_words net x) (edit_words net y) (sym (read x) ∙ ap line_words e ∙ read y)).1

pub edits_are_told_apart : EditsAreToldApart
edits_are_told_apart net doc list valid addresses are =
    AllPairs-among (λ (x : Edit) (y : Edit). x ≢ y) (λ (x : Edit) (y : Edit). ¬ (edit_text net x ≡ edit_text net y)) list
    (λ x y in_x in_y differ e.
    let there_is = λ (z : Edit) (in_z : Contains list z). there net valid are.destinations are.classes z (edits_from net doc list are z in_z) in
    differ (one_edit net valid addresses x y (there_is x in_x) (there_is y in_y) e))
    (all_different net doc list valid are)

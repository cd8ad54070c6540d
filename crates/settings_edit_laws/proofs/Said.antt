-- What the lines of a process say after edits: which interfaces are passive, which neighbours are shut down, and which lists are bound at them.
use Rattle.std.proofs.Common.{◌≡◌, ◌≢◌, ℕ, ◌==◌, ◌||◌, Bool, true, false, not, if◌then◌else◌, Option, Some, None, List, [], ◌∷◌, refl, sym, ◌∙◌, ap, subst, arith, unwrap_or}
use Rattle.std.specs.Prelude.{Contains, IsSome, slice_get, option_map, option_and_then, bytes_eq}
use Rattle.std.specs.List.{filter_map, last_or, cons_option, list_any}
use Rattle.std.proofs.lemmas.Bool.{eqb-true, false≢true, false_from_ne_true}
use Rattle.std.proofs.lemmas.Slice.Eq.{bytes_eq-Decides}
use Rattle.std.proofs.lemmas.Option.{none-some, same_Some}
use Rattle.arc_base.specs.declared.place.Face.{Face}
use Rattle.net_model.specs.declared.rows.Network.{Network}
use Rattle.net_model.specs.declared.rows.FaceRow.{FaceRow}
use Rattle.net_model.specs.declared.rows.SessionRow.{SessionRow}
use Rattle.net_model.specs.declared.rows.Protocol.{Protocol}
use Rattle.net_model.specs.declared.rows.Protocol.TheVariants.{Ospf, Bgp}
use Rattle.net_model.specs.Routing.{session_at}
use Rattle.net_model.specs.Validity.{IsValid}
use Rattle.ios_words.specs.declared.commands.Command.{Command}
use Rattle.ios_words.specs.declared.commands.Command.TheVariants as commands
use Rattle.ios_config.specs.declared.settings.Config.{Config}
use Rattle.net_rules.specs.Settings.{process_of, lines_of, last_said, says_passive, is_passive}
use Rattle.net_rules.specs.Neighbors.{says_down, says_filter, is_down, filter_of}
use Rattle.edit_list.specs.Determined.{IsCountable}
use Rattle.edit_list.specs.declared.edit_kinds.Edit.{Edit}
use Rattle.edit_list.specs.declared.edit_kinds.Edit.TheVariants as edits
use Rattle.edit_list.specs.declared.list_kinds.NewList.{NewList}
use Rattle.edit_list.specs.declared.list_kinds.NewList.TheVariants as lists
use Rattle.edit_list.specs.Changes.{session_change, turns_session, new_prefixes}
use Rattle.edit_list.specs.NewLists.{IsNewList, named_lists}
use Rattle.arc_base.specs.Numbered.{is_empty}
use Rattle.edit_list.specs.After.{turned_if, passive_after}
use Rattle.edit_space.proofs.NamedFacts.{of_route_face}
use Rattle.edit_list.proofs.NewListFacts.{picked_from, picks}
use Rattle.line_patcher.specs.NewListLines.{filter_command}
use Rattle.settings_edit_laws.proofs.Turned.{own_face, session_line, turning_line}
use Rattle.settings_edit_laws.specs.SettingsAfter.{AreSettingsAfter}
use Rattle.settings_edit_laws.proofs.Pairs.{picks_nothing, last_is_one, nothing_in}
use Rattle.settings_edit_laws.proofs.Lines.{turning_lines, filter_lines, said_after}
use Rattle.settings_edit_laws.proofs.SessionFacts.{one_session_peer, session_found, session_there, one_face}
use Rattle.settings_edit_laws.proofs.NewNames.{one_name, new_of_named, named_of_new, route_list_there}

pub picked_cons : {X Y : Type 0} (h : X → Option Y) (o : Option X) (xs : List X) → filter_map h (cons_option o xs) ≡ cons_option (option_and_then h o) (filter_map h xs)
picked_cons h None xs = refl
picked_cons h (Some x) xs = refl

-- what the last line says that turns the session of one interface
module _ {X : Type 0} (says : Command → Option X) (x : X) (k : ℕ) (line : Edit → Option Command)
    (here : (f : Face) → f.0 ≡ k → option_and_then says (line (edits.Session f)) ≡ Some x)
    (elsewhere : (f : Face) → f.0 ≢ k → option_and_then says (line (edits.Session f)) ≡ None)
    (other : (e : Edit) → session_change e ≡ None → line e ≡ None) where
  abbrev Said : List Edit → Option X → Option X
  Said es o = if list_any (λ (place : ℕ). place == k) (filter_map session_change es) then Some x else o

  always : (b : Bool) → (if b then Some x else Some x) ≡ Some x
  always true = refl
  always false = refl

  pub turned : (o : Option X) (es : List Edit) → last_or o (filter_map says (filter_map line es)) ≡ Said es o
  turned o [] = refl
  turned o (edits.Session f ∷ es) = ap (last_or o) (picked_cons says (line (edits.Session f)) (filter_map line es)) ∙ by (f.0 == k) refl (λ p. turned p es)
    where
      by : (b : Bool) → (f.0 == k) ≡ b → ((p : Option X) → last_or p (filter_map says (filter_map line es)) ≡ Said es p) →
          last_or o (cons_option (option_and_then says (line (edits.Session f))) (filter_map says (filter_map line es))) ≡ (if
          ((f.0 == k) || list_any (λ (place : ℕ). place == k) (filter_map session_change es)) then Some x else o)
      by true e later =
          ap (λ p. last_or o (cons_option p (filter_map says (filter_map line es)))) (here f (eqb-true f.0 k e)) ∙ later (Some x) ∙
          always (list_any (λ (place : ℕ). place == k) (filter_map session_change es)) ∙
          sym (ap (λ c. if (c || list_any (λ (place : ℕ). place == k) (filter_map session_change es)) then Some x else o) e)
      by false e later =
          ap (λ p. last_or o (cons_option p (filter_map says (filter_map line es)))) (elsewhere f (λ same. differs same e)) ∙ later o ∙
          sym (ap (λ c. if (c || list_any (λ (place : ℕ). place == k) (filter_map session_change es)) then Some x else o) e)
        where
          differs : f.0 ≡ k → (f.0 == k) ≡ false → ⊥
          differs same off = false≢true (sym off ∙ grind arith)
  turned o (edits.RouteList list prefix ∷ es) = ap (λ p. last_or o (filter_map says (cons_option p (filter_map line es)))) (other (edits.RouteList list prefix) refl) ∙ turned o es
  turned o (edits.RouteNew face prefix ∷ es) = ap (λ p. last_or o (filter_map says (cons_option p (filter_map line es)))) (other (edits.RouteNew face prefix) refl) ∙ turned o es
  turned o (edits.PacketList list class ∷ es) = ap (λ p. last_or o (filter_map says (cons_option p (filter_map line es)))) (other (edits.PacketList list class) refl) ∙ turned o es
  turned o (edits.PacketNew face class ∷ es) = ap (λ p. last_or o (filter_map says (cons_option p (filter_map line es)))) (other (edits.PacketNew face class) refl) ∙ turned o es

-- a line that is added binds a list where it is not one that turns a session
pub record Binds (net : Network) (name : List ℕ) (list : NewList) (c : Command) : Type 0 where
  pub face : Face
  pub is_route : list ≡ lists.Route face
  pub session : SessionRow
  pub at : session_at net face ≡ Some session
  pub is : c ≡ commands.NeighborList session.peer name

pub filter_line_is : (net : Network) (name : List ℕ) (list : NewList) (c : Command) → filter_command net list name ≡ Some c → Binds net name list c
filter_line_is net name (lists.Packet face) c e = absurd (none-some c e)
filter_line_is net name (lists.Route face) c e = by (session_at net face) refl e
  where
    by : (o : Option SessionRow) → session_at net face ≡ o → option_map (λ (s : SessionRow). commands.NeighborList s.peer name) o ≡ Some c → Binds net name (lists.Route face) c
    by None at e = absurd (none-some c e)
    by (Some s) at e = record { face = face; is_route = refl; session = s; at = at; is = sym (same_Some (commands.NeighborList s.peer name) c e) }

module _ (net : Network) (valid : IsValid net) (small : IsCountable net) (chosen : List Edit) (router : ℕ) where
  turning_other : (e : Edit) → session_change e ≡ None → turning_line net router e ≡ None
  turning_other (edits.Session f) is = absurd (none-some f.0 (sym is))
  turning_other other is = refl

  own_face_there : (k : ℕ) (row : FaceRow) → slice_get net.faces k ≡ Some row → row.router.0 ≡ router → own_face net router k ≡ Some row
  own_face_there k row at own =
      let test : (row.router.0 == router) ≡ true = grind arith in
      ap (option_and_then (λ (f : FaceRow). if f.router.0 == router then Some f else None)) at ∙ ap (λ b. if b then Some row else None) test

  pub own_face_found : (k : ℕ) (row : FaceRow) → own_face net router k ≡ Some row → (slice_get net.faces k ≡ Some row) × (row.router.0 ≡ router)
  own_face_found k row e = by (slice_get net.faces k) refl e
    where
      by : (o : Option FaceRow) → slice_get net.faces k ≡ o → option_and_then (λ (f : FaceRow). if f.router.0 == router then Some f else None) o ≡ Some row →
          (slice_get net.faces k ≡ Some row) × (row.router.0 ≡ router)
      by None at e = absurd (none-some row e)
      by (Some f) at e = inner (f.router.0 == router) refl e
        where
          inner : (b : Bool) → (f.router.0 == router) ≡ b → (if b then Some f else None) ≡ Some row → (slice_get net.faces k ≡ Some row) × (row.router.0 ≡ router)
          inner true t e = let same : f ≡ row = same_Some f row e in (at ∙ ap Some same, sym (ap (λ (g : FaceRow). g.router.0) same) ∙ eqb-true f.router.0 router t)
          inner false t e = absurd (none-some row e)

  module _ (k : ℕ) (row : FaceRow) (at_row : slice_get net.faces k ≡ Some row) (own : row.router.0 ≡ router) where
    -- under OSPF
    module _ (ospf : net.protocol ≡ Ospf) where
      line_of : (f : Face) → turning_line net router (edits.Session f) ≡ option_and_then (session_line Ospf net f.0) (own_face net router f.0)
      line_of f = ap (λ (p : Protocol). option_and_then (session_line p net f.0) (own_face net router f.0)) ospf

      passive_here : (f : Face) → f.0 ≡ k → option_and_then (says_passive row.name) (turning_line net router (edits.Session f)) ≡ Some (not row.passive)
      passive_here f same =
          ap (option_and_then (says_passive row.name)) (line_of f ∙ ap (option_and_then (session_line Ospf net f.0)) (own_face_there f.0 row (ap (slice_get net.faces) same ∙ at_row) own)) ∙
          ap (λ b. if b then Some (not row.passive) else None) ((bytes_eq-Decides row.name row.name).1 refl)

      passive_elsewhere : (f : Face) → f.0 ≢ k → option_and_then (says_passive row.name) (turning_line net router (edits.Session f)) ≡ None
      passive_elsewhere f differ = ap (option_and_then (says_passive row.name)) (line_of f) ∙ by (own_face net router f.0) refl
        where
          by : (o : Option FaceRow) → own_face net router f.0 ≡ o → option_and_then (says_passive row.name) (option_and_then (session_line Ospf net f.0) o) ≡ None
          by None e = refl
          by (Some g) e =
              let is = own_face_found f.0 g e in
              ap (λ b. if b then Some (not g.passive) else None)
              (false_from_ne_true (bytes_eq g.name row.name) (λ same. differ (one_face net valid f.0 k g row is.0 at_row (is.1 ∙ sym own) ((bytes_eq-Decides g.name row.name).0 same))))

      passive_lines : (o : Option Bool) → last_or o (filter_map (says_passive row.name) (filter_map (turning_line net router) chosen)) ≡ (if turns_session chosen k then Some (not row.passive) else o)
      passive_lines o = turned (says_passive row.name) (not row.passive) k (turning_line net router) passive_here passive_elsewhere turning_other o chosen

    -- under eBGP, at the interface of a session
    module _ (bgp : net.protocol ≡ Bgp) (s : SessionRow) (there : Contains net.sessions s) (at_face : s.face.0 ≡ k) where
      bgp_line_of : (f : Face) → turning_line net router (edits.Session f) ≡ option_and_then (session_line Bgp net f.0) (own_face net router f.0)
      bgp_line_of f = ap (λ (p : Protocol). option_and_then (session_line p net f.0) (own_face net router f.0)) bgp

      down_here : (f : Face) → f.0 ≡ k → option_and_then (says_down s.peer) (turning_line net router (edits.Session f)) ≡ Some (not s.down)
      down_here f same =
          let test : (s.peer == s.peer) ≡ true = grind arith in
          ap (option_and_then (says_down s.peer)) (bgp_line_of f ∙ ap (option_and_then (session_line Bgp net f.0)) (own_face_there f.0 row (ap (slice_get net.faces) same ∙ at_row) own) ∙
          ap (option_map (λ (t : SessionRow). commands.NeighborDown t.peer (not t.down))) (session_there net valid (record { 0 = f.0 }) s there (at_face ∙ sym same))) ∙
          ap (λ b. if b then Some (not s.down) else None) test

      down_elsewhere : (f : Face) → f.0 ≢ k → option_and_then (says_down s.peer) (turning_line net router (edits.Session f)) ≡ None
      down_elsewhere f differ = ap (option_and_then (says_down s.peer)) (bgp_line_of f) ∙ by (own_face net router f.0) refl
        where
          inner : (g : FaceRow) → slice_get net.faces f.0 ≡ Some g → g.router.0 ≡ router → (o : Option SessionRow) → session_at net (record { 0 = f.0 }) ≡ o →
              option_and_then (says_down s.peer) (option_map (λ (t : SessionRow). commands.NeighborDown t.peer (not t.down)) o) ≡ None
          inner g at_g own_g None e = refl
          inner g at_g own_g (Some t) e =
              let found = session_found net valid (record { 0 = f.0 }) t e in
              ap (λ b. if b then Some (not t.down) else None)
              (false_from_ne_true (t.peer == s.peer)
              (λ same.
              let one : t ≡ s = one_session_peer net valid t s g row found.0 there (ap (slice_get net.faces) found.1 ∙ at_g) (ap (slice_get net.faces) at_face ∙ at_row)
              (own_g ∙ sym own) (eqb-true t.peer s.peer same) in
              differ (sym found.1 ∙ ap (λ (u : SessionRow). u.face.0) one ∙ at_face)))

          by : (o : Option FaceRow) → own_face net router f.0 ≡ o → option_and_then (says_down s.peer) (option_and_then (session_line Bgp net f.0) o) ≡ None
          by None e = refl
          by (Some g) e = let is = own_face_found f.0 g e in inner g is.0 is.1 (session_at net (record { 0 = f.0 })) refl

      down_lines : (o : Option Bool) → last_or o (filter_map (says_down s.peer) (filter_map (turning_line net router) chosen)) ≡ (if turns_session chosen k then Some (not s.down) else o)
      down_lines o = turned (says_down s.peer) (not s.down) k (turning_line net router) down_here down_elsewhere turning_other o chosen

  -- a line that turns a session binds no list
  turning_binds_none : (peer : ℕ) (c : Command) → Contains (turning_lines net chosen router) c → says_filter peer c ≡ None
  turning_binds_none peer c there = let r = picked_from (turning_line net router) chosen c there in edit_binds_none r.0 c r.2
    where
      session_binds_none : (p : Protocol) (place : ℕ) (row : FaceRow) (c : Command) → session_line p net place row ≡ Some c → says_filter peer c ≡ None
      session_binds_none Ospf place row c e = ap (says_filter peer) (sym (same_Some (commands.Passive (not row.passive) (Some row.name)) c e))
      session_binds_none Bgp place row c e = by (session_at net (record { 0 = place })) e
        where
          by : (o : Option SessionRow) → option_map (λ (s : SessionRow). commands.NeighborDown s.peer (not s.down)) o ≡ Some c → says_filter peer c ≡ None
          by None e = absurd (none-some c e)
          by (Some s) e = ap (says_filter peer) (sym (same_Some (commands.NeighborDown s.peer (not s.down)) c e))

      edit_binds_none : (edit : Edit) (c : Command) → turning_line net router edit ≡ Some c → says_filter peer c ≡ None
      edit_binds_none (edits.Session face) c e = by (own_face net router face.0) e
        where
          by : (o : Option FaceRow) → option_and_then (session_line net.protocol net face.0) o ≡ Some c → says_filter peer c ≡ None
          by None e = absurd (none-some c e)
          by (Some row) e = session_binds_none net.protocol face.0 row c e
      edit_binds_none other c e = absurd (none-some c e)

  -- a line that binds a list says nothing else
  binding_only : {X : Type 0} (says : Command → Option X) → ((peer : ℕ) (name : List ℕ) → says (commands.NeighborList peer name) ≡ None) → filter_map says (filter_lines net chosen router) ≡ []
  binding_only says silent = picks_nothing says (filter_lines net chosen router) (λ c there.
      let r = picked_from (λ (l : NewList × List ℕ). filter_command net l.0 l.1) (named_lists net chosen router) c there in
      let b = filter_line_is net r.0.1 r.0.0 c r.2 in
      ap says b.is ∙ silent b.session.peer r.0.1)

  -- the names that the new lines bind at a neighbour
  abbrev pub names_bound : ℕ → List (List ℕ)
  names_bound peer = filter_map (says_filter peer) (filter_lines net chosen router)

  pub record IsBoundNew (peer : ℕ) (name : List ℕ) : Type 0 where
    pub face : Face
    pub new : IsNewList net chosen router (lists.Route face) name
    pub session : SessionRow
    pub at : session_at net face ≡ Some session
    pub peer_is : session.peer ≡ peer

  pub bound_new : (peer : ℕ) (name : List ℕ) → Contains (names_bound peer) name → IsBoundNew peer name
  bound_new peer name there =
      let c = picked_from (says_filter peer) (filter_lines net chosen router) name there in
      let r = picked_from (λ (l : NewList × List ℕ). filter_command net l.0 l.1) (named_lists net chosen router) c.0 c.1 in
      let b = filter_line_is net r.0.1 r.0.0 c.0 r.2 in
      let said : says_filter peer (commands.NeighborList b.session.peer r.0.1) ≡ Some name = ap (says_filter peer) (sym b.is) ∙ c.2 in
      let new : IsNewList net chosen router (lists.Route b.face) r.0.1 = subst (λ (l : NewList). IsNewList net chosen router l r.0.1) b.is_route (new_of_named net valid small chosen router r.0 r.1) in
      by b.face b.session b.at r.0.1 new (b.session.peer == peer) refl said
    where
      by : (face : Face) (s : SessionRow) → session_at net face ≡ Some s → (n : List ℕ) → IsNewList net chosen router (lists.Route face) n → (t : Bool) →
          (s.peer == peer) ≡ t → (if t then Some n else None) ≡ Some name → IsBoundNew peer name
      by face s at n new true t e =
          record { face = face; new = subst (λ (m : List ℕ). IsNewList net chosen router (lists.Route face) m) (same_Some n name e) new; session = s; at = at; peer_is = eqb-true s.peer peer t }
      by face s at n new false t e = absurd (none-some name e)

  pub bound_there : (face : Face) (s : SessionRow) (name : List ℕ) → IsNewList net chosen router (lists.Route face) name → session_at net face ≡ Some s → Contains (names_bound s.peer) name
  bound_there face s name new at =
      let line : filter_command net (lists.Route face) name ≡ Some (commands.NeighborList s.peer name) = ap (option_map (λ (t : SessionRow). commands.NeighborList t.peer name)) at in
      let there : Contains (filter_lines net chosen router) (commands.NeighborList s.peer name) =
      picks (λ (l : NewList × List ℕ). filter_command net l.0 l.1) (named_lists net chosen router) (lists.Route face, name) (commands.NeighborList s.peer name)
      (named_of_new net valid small chosen router (lists.Route face) name new) line in
      let test : (s.peer == s.peer) ≡ true = grind arith in
      picks (says_filter s.peer) (filter_lines net chosen router) (commands.NeighborList s.peer name) name there (ap (λ b. if b then Some name else None) test)

  module _ (old new : Config) (after : AreSettingsAfter net chosen router old new) (has : IsSome (process_of old)) where
    pub filter_after : (peer : ℕ) → filter_of (lines_of new) peer ≡ last_or (filter_of (lines_of old) peer) (names_bound peer)
    filter_after peer =
        said_after net chosen router old new after has (says_filter peer) ∙
        ap (λ l. last_or (last_or (filter_of (lines_of old) peer) l) (names_bound peer)) (picks_nothing (says_filter peer) (turning_lines net chosen router) (turning_binds_none peer))

    turned_flag : (turns flag : Bool) (o : Option Bool) → unwrap_or o false ≡ flag → unwrap_or (if turns then Some (not flag) else o) false ≡ turned_if turns flag
    turned_flag true flag o e = refl
    turned_flag false flag o e = e

    pub passive_now : (k : ℕ) (row : FaceRow) → slice_get net.faces k ≡ Some row → row.router.0 ≡ router → (p : Protocol) → net.protocol ≡ p → row.passive ≡ is_passive p (lines_of old) row.name →
        is_passive p (lines_of new) row.name ≡ passive_after p chosen k row.passive
    passive_now k row at own Bgp is was = sym was
    passive_now k row at own Ospf is was =
        ap (λ o. unwrap_or o false)
        (said_after net chosen router old new after has (says_passive row.name) ∙
        ap (λ l. last_or (last_or (last_said (says_passive row.name) (lines_of old)) (filter_map (says_passive row.name) (turning_lines net chosen router))) l)
        (binding_only (says_passive row.name) (λ peer name. refl)) ∙
        passive_lines k row at own is (last_said (says_passive row.name) (lines_of old))) ∙
        turned_flag (turns_session chosen k) row.passive (last_said (says_passive row.name) (lines_of old)) (sym was)

    pub down_now : (s : SessionRow) (row : FaceRow) → net.protocol ≡ Bgp → Contains net.sessions s → slice_get net.faces s.face.0 ≡ Some row →
        row.router.0 ≡ router → s.down ≡ is_down (lines_of old) s.peer →
        is_down (lines_of new) s.peer ≡ turned_if (turns_session chosen s.face.0) s.down
    down_now s row bgp there at own was =
        ap (λ o. unwrap_or o false)
        (said_after net chosen router old new after has (says_down s.peer) ∙
        ap (λ l. last_or (last_or (last_said (says_down s.peer) (lines_of old)) (filter_map (says_down s.peer) (turning_lines net chosen router))) l)
        (binding_only (says_down s.peer) (λ peer name. refl)) ∙
        down_lines s.face.0 row at own bgp s there refl (last_said (says_down s.peer) (lines_of old))) ∙
        turned_flag (turns_session chosen s.face.0) s.down (last_said (says_down s.peer) (lines_of old)) (sym was)

    -- the lists of a session's neighbour: the one that was bound, or a new one
    module _ (s : SessionRow) (row : FaceRow) (there : Contains net.sessions s) (at : slice_get net.faces s.face.0 ≡ Some row) (own : row.router.0 ≡ router) where
      same_session : (face : Face) (name : List ℕ) (t : SessionRow) → IsNewList net chosen router (lists.Route face) name → session_at net face ≡ Some t → t.peer ≡ s.peer → t ≡ s
      same_session face name t new found peer =
          let of_face = of_route_face net valid chosen router face name new in
          let is = session_found net valid face t found in
          one_session_peer net valid t s of_face.row row is.0 there (ap (slice_get net.faces) is.1 ∙ of_face.at) at (sym of_face.router_is ∙ sym own) peer

      same_list : (name : List ℕ) (b : IsBoundNew s.peer name) → b.face.0 ≡ s.face.0
      same_list name b =
          let one : b.session ≡ s = same_session b.face name b.session b.new b.at b.peer_is in
          sym (session_found net valid b.face b.session b.at).1 ∙ ap (λ (u : SessionRow). u.face.0) one

      pub filter_stays : is_empty (new_prefixes chosen s.face.0) ≡ true → filter_of (lines_of new) s.peer ≡ filter_of (lines_of old) s.peer
      filter_stays empty = filter_after s.peer ∙ ap (last_or (filter_of (lines_of old) s.peer)) (nothing_in (names_bound s.peer) (λ name in_names. no_new name (bound_new s.peer name in_names)))
        where
          no_new : (name : List ℕ) → IsBoundNew s.peer name → ⊥
          no_new name b =
              let filled = (of_route_face net valid chosen router b.face name b.new).filled in
              false≢true (sym filled ∙ ap (λ k. is_empty (new_prefixes chosen k)) (same_list name b) ∙ empty)

      pub filter_is_new : is_empty (new_prefixes chosen s.face.0) ≡ false → (name : List ℕ) × IsNewList net chosen router (lists.Route s.face) name × (filter_of (lines_of new) s.peer ≡ Some name)
      filter_is_new filled =
          let made = route_list_there net valid small chosen s row there at filled in
          let name : List ℕ = made.0 in
          let list : IsNewList net chosen router (lists.Route s.face) name = subst (λ (r : ℕ). IsNewList net chosen r (lists.Route s.face) name) own made.1 in
          let in_names : Contains (names_bound s.peer) name = bound_there s.face s name list (session_there net valid s.face s there refl) in (
            name,
            list,
            filter_after s.peer ∙ last_is_one (filter_of (lines_of old) s.peer) (names_bound s.peer) name in_names
                (λ other in_other. same_name name list other (bound_new s.peer other in_other)),
          )
        where
          same_name : (name : List ℕ) → IsNewList net chosen router (lists.Route s.face) name → (other : List ℕ) → IsBoundNew s.peer other → other ≡ name
          same_name name list other b =
              let place : b.face.0 ≡ s.face.0 = same_list other b in
              let face : b.face ≡ s.face = λ i. record { 0 = place i } in
              one_name net valid small chosen router (lists.Route s.face) other name (subst (λ (f : Face). IsNewList net chosen router (lists.Route f) other) face b.new) list

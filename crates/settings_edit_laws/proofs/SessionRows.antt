-- The sessions after the edits are those of the files after them.
use Rattle.std.proofs.Common.{◌≡◌, ℕ, suc, ◌<◌, ◌==◌, ◌⊎◌, inl, inr, Bool, true, false, Option, Some, None, List, [], ◌∷◌, get_or, map, refl, sym, ◌∙◌, ap, subst, arith}
use Rattle.std.specs.Prelude.{AllPairs, Contains, IsSome, is_some, slice_get, option_map, bytes_eq}
use Rattle.std.proofs.lemmas.Bool.{false≢true, eqb-true}
use Rattle.std.proofs.lemmas.Option.{same_Some, slice_get-get_or}
use Rattle.std.proofs.lemmas.Slice.Eq.{bytes_eq-Decides}
use Rattle.arc_base.specs.declared.place.Face.{Face}
use Rattle.arc_base.specs.declared.place.ListId.{ListId}
use Rattle.arc_base.proofs.Items.{Contains-cases, Contains-none}
use Rattle.net_model.specs.declared.policies.Document.{Document}
use Rattle.net_model.specs.declared.rows.FaceRow.{FaceRow}
use Rattle.net_model.specs.declared.rows.LinkRow.{LinkRow}
use Rattle.net_model.specs.declared.rows.SessionRow.{SessionRow}
use Rattle.net_model.specs.declared.rows.Network.{Network}
use Rattle.net_model.specs.declared.rows.Protocol.{Protocol}
use Rattle.net_model.specs.declared.rows.Protocol.TheVariants.{Bgp}
use Rattle.net_model.specs.Routing.{tail_end, head_end}
use Rattle.net_model.proofs.Readings.{item_at_place, place_of_item}
use Rattle.ios_words.specs.declared.commands.Command.{Command}
use Rattle.ios_words.specs.declared.commands.Command.TheVariants as commands
use Rattle.ios_config.specs.declared.settings.Config.{Config}
use Rattle.net_rules.specs.Lists.{IsPlaceAmong, route_list_key, AreRouteLists}
use Rattle.net_rules.specs.Neighbors.{says_remote, remote_of, is_down, filter_of}
use Rattle.net_rules.specs.Ordered.{AreInOrder, IsPairBefore}
use Rattle.net_rules.specs.Rows.{IsConfigured, IsSessionOf, IsSession, IsSessionBefore, AreSessions}
use Rattle.net_rules.specs.Settings.{process_of, lines_of, address_of}
use Rattle.net_rules.specs.Sites.{Site, sites}
use Rattle.net_rules.proofs.ListKeys.{route_keys_differ}
use Rattle.net_rules.proofs.SameRows.{one_list_place}
use Rattle.net_rules.proofs.SiteFacts.{IsSiteOf, site_of}
use Rattle.edit_list.specs.declared.edit_kinds.Edit.{Edit}
use Rattle.edit_list.specs.declared.list_kinds.NewList.TheVariants as lists
use Rattle.edit_list.specs.Changes.{new_prefixes}
use Rattle.edit_list.specs.NewLists.{IsNewList}
use Rattle.arc_base.specs.Numbered.{is_empty}
use Rattle.edit_list.specs.After.{IsAfter, IsSessionAfter}
use Rattle.edit_space.proofs.ListKinds.{routes}
use Rattle.edit_list.proofs.RowFacts.{row_was, row_now}
use Rattle.settings_edit_laws.proofs.Bound.{flag_after, bound_after}
use Rattle.settings_edit_laws.proofs.Edited.{AreEdited, face_row, IsRowOf, session_is}
use Rattle.settings_edit_laws.proofs.Lines.{IsAdded, same_said}
use Rattle.settings_edit_laws.proofs.Said.{down_now, filter_stays, filter_is_new}
use Rattle.settings_edit_laws.proofs.SessionFacts.{pair_at}
use Rattle.settings_edit_laws.proofs.Sites.{IsSiteAfter, address_stays, site_now, site_was}

pub no_remote : (peer : ℕ) (c : Command) → IsAdded c → says_remote peer c ≡ None
no_remote peer (commands.RemoteAs other asn) h = absurd h
no_remote peer other h = refl

-- a list with a key stands at a place, or there is none
find_place : (keys : List (ℕ × List ℕ)) (router : ℕ) (name : List ℕ) → ((k : ℕ) × (slice_get keys k ≡ Some (router, name))) ⊎ (Contains keys (router, name) → ⊥)
find_place [] router name = inr (Contains-none (router, name))
find_place (x ∷ keys) router name = by (x.0 == router) refl (bytes_eq x.1 name) refl (find_place keys router name)
  where
    by : (a : Bool) → (x.0 == router) ≡ a → (b : Bool) → bytes_eq x.1 name ≡ b → ((k : ℕ) × (slice_get keys k ≡ Some (router, name))) ⊎ (Contains keys (router, name) → ⊥) →
        ((k : ℕ) × (slice_get (x ∷ keys) k ≡ Some (router, name))) ⊎ (Contains (x ∷ keys) (router, name) → ⊥)
    by true e true f rest =
        let router_is : x.0 ≡ router = eqb-true x.0 router e in
        let name_is : x.1 ≡ name = (bytes_eq-Decides x.1 name).0 f in
        inl (0, λ i. Some (router_is i, name_is i))
    by a e b f (inl later) = inl (suc later.0, later.1)
    by false e b f (inr none) = inr (λ there. elim (Contains-cases x (router, name) keys there) [
      | inl same ↦ let first : x.0 ≡ router = ap (λ (p : ℕ × List ℕ). p.0) same in false≢true (sym e ∙ grind arith)
      | inr later ↦ none later
    ])
    by true e false f (inr none) = inr (λ there. elim (Contains-cases x (router, name) keys there) [
      | inl same ↦ false≢true (sym f ∙ (bytes_eq-Decides x.1 name).1 (ap (λ (p : ℕ × List ℕ). p.1) same))
      | inr later ↦ none later
    ])

-- where the list of a name stands among keys
placed_among : (keys : List (ℕ × List ℕ)) (router : ℕ) (bound : Option (List ℕ)) → (o : Option ListId) × IsPlaceAmong keys router bound o
placed_among keys router None = (None, tt)
placed_among keys router (Some name) = elim (find_place keys router name) [
  | inl at ↦ (Some (record { 0 = at.0 }), at.1)
  | inr none ↦ (None, none)
]

module _ (doc : Document) (net : Network) (old new : List Config) (chosen : List Edit) (g : AreEdited doc net old new chosen) (after : Network) (is : IsAfter net chosen after)
    (lists_are : AreRouteLists new after.route_lists) (bgp : net.protocol ≡ Bgp) where
  abbrev was_keys : List (ℕ × List ℕ)
  was_keys = map route_list_key net.route_lists

  abbrev keys : List (ℕ × List ℕ)
  keys = map route_list_key after.route_lists

  module _ (k : ℕ) (s now : SessionRow) (in_net : Contains net.sessions s) (sa : IsSessionAfter net chosen after k s now) (near near_now : Site) (at_near : slice_get (sites old) s.face.0 ≡ Some near)
      (na : IsSiteAfter net chosen near near_now) (cs : IsConfigured was_keys near.router near.config s) where
    file : IsSiteOf old near
    file = site_of old s.face.0 near at_near

    has : IsSome (process_of near.config)
    has = g.processes near.router near.config file.file_at

    row : (row : FaceRow) × (slice_get net.faces s.face.0 ≡ Some row) × IsRowOf doc net old new chosen g near row
    row = face_row doc net old new chosen g s.face.0 near at_near

    own : row.0.router.0 ≡ near.router
    own = row.2.router

    peer_same : now.peer ≡ s.peer
    peer_same = ap (λ (x : SessionRow). x.peer) sa.same

    remote_same : now.remote ≡ s.remote
    remote_same = ap (λ (x : SessionRow). x.remote) sa.same

    face_same : now.face ≡ s.face
    face_same = ap (λ (x : SessionRow). x.face) sa.same

    remote_is : remote_of (lines_of near_now.config) now.peer ≡ Some now.remote
    remote_is = ap (remote_of (lines_of near_now.config)) peer_same
        ∙ same_said net chosen near.router near.config near_now.config na.settings has (says_remote s.peer) (no_remote s.peer) ∙ cs.remote ∙ ap Some (sym remote_same)

    down_is : now.down ≡ is_down (lines_of near_now.config) now.peer
    down_is = sa.down ∙ sym (down_now net g.valid g.small chosen near.router near.config near_now.config na.settings has s row.0 bgp in_net row.1 own cs.down)
        ∙ ap (is_down (lines_of near_now.config)) (sym peer_same)

    filters_old : is_empty (new_prefixes chosen s.face.0) ≡ true → filter_of (lines_of near_now.config) s.peer ≡ filter_of (lines_of near.config) s.peer
    filters_old e = filter_stays net g.valid g.small chosen near.router near.config near_now.config na.settings has s row.0 in_net row.1 own e

    filters_new : is_empty (new_prefixes chosen s.face.0) ≡ false →
        (name : List ℕ) × IsNewList net chosen near.router (lists.Route s.face) name × (filter_of (lines_of near_now.config) s.peer ≡ Some name)
    filters_new e = filter_is_new net g.valid g.small chosen near.router near.config near_now.config na.settings has s row.0 in_net row.1 own e

    bound_is : now.bound ≡ is_some (filter_of (lines_of near_now.config) now.peer)
    bound_is =
        sa.bound ∙ flag_after (IsNewList net chosen near.router (lists.Route s.face)) (is_empty (new_prefixes chosen s.face.0)) s.bound (filter_of (lines_of near.config) s.peer)
        (filter_of (lines_of near_now.config) s.peer) cs.bound filters_old filters_new ∙ ap (λ p. is_some (filter_of (lines_of near_now.config) p)) (sym peer_same)

    filter_is : IsPlaceAmong keys near.router (filter_of (lines_of near_now.config) s.peer) now.filter
    filter_is =
        bound_after doc net old new chosen g (routes net chosen g.valid) after.route_lists is.route_lists near.router near.config file.file_at s.face (is_empty (new_prefixes chosen s.face.0))
        (filter_of (lines_of near.config) s.peer) (filter_of (lines_of near_now.config) s.peer) s.filter now.filter filters_old filters_new (λ name b. inr (inr (s.peer, b))) sa.filter cs.filter

    pub configured_now : IsConfigured keys near_now.router near_now.config now
    configured_now = record {
      remote = remote_is;
      down = down_is;
      bound = bound_is;
      filter =
          subst (λ (r : ℕ). IsPlaceAmong keys r (filter_of (lines_of near_now.config) now.peer) now.filter) (sym na.router)
          (subst (λ (p : ℕ). IsPlaceAmong keys near.router (filter_of (lines_of near_now.config) p) now.filter) (sym peer_same) filter_is);
    }

  -- the session of an end of a link before the edits is that of the same end after them
  session_of_now : (k : ℕ) (s now : SessionRow) → Contains net.sessions s → IsSessionAfter net chosen after k s now → (link : ℕ) (from_a : Bool) →
      IsSessionOf old net.links was_keys link from_a s → IsSessionOf new after.links keys link from_a now
  session_of_now k s now in_net sa link from_a o =
      let near = site_now net chosen old new g.settings s.face.0 o.near o.at_near in
      let far = site_now net chosen old new g.settings (head_end o.row from_a).0 o.far o.at_far in
      let face_same : now.face ≡ s.face = ap (λ (x : SessionRow). x.face) sa.same in
      record {
        row = o.row;
        at_link = ap (λ (ls : List LinkRow). slice_get ls link) is.links ∙ o.at_link;
        near = near.0;
        at_near = ap (λ (f : Face). slice_get (sites new) f.0) face_same ∙ near.1;
        near_end = o.near_end ∙ ap (λ (f : Face). f.0) (sym face_same);
        far = far.0;
        at_far = far.1;
        peer = ap (option_map (λ (a : ℕ × ℕ). a.0)) (address_stays o.far.face far.0.face far.2.stays) ∙ o.peer ∙ ap (λ (x : SessionRow). Some x.peer) (sym sa.same);
        configured = configured_now k s now in_net sa o.near near.0 o.at_near near.2 o.configured;
      }

  record SessionWas (link : ℕ) (from_a : Bool) (s : SessionRow) (x : SessionRow) (o : IsSessionOf new after.links keys link from_a x) : Type 0 where
    was : IsSessionOf old net.links was_keys link from_a s
    router : was.near.router ≡ o.near.router

  -- and the other way round, for a session that the network has
  session_of_was : (k : ℕ) (s now : SessionRow) → Contains net.sessions s → IsSessionAfter net chosen after k s now →
      (link : ℕ) (from_a : Bool) (o : IsSessionOf new after.links keys link from_a now) → SessionWas link from_a s now o
  session_of_was k s now in_net sa link from_a o =
      let face_same : now.face ≡ s.face = ap (λ (x : SessionRow). x.face) sa.same in
      let at_near : slice_get (sites new) s.face.0 ≡ Some o.near = ap (λ (f : Face). slice_get (sites new) f.0) (sym face_same) ∙ o.at_near in
      let near = site_was net chosen old new g.settings s.face.0 o.near at_near in
      let far = site_was net chosen old new g.settings (head_end o.row from_a).0 o.far o.at_far in
      let known = (session_is doc net old new chosen g s in_net).session_of in
      let same : known.near ≡ near.0 = same_Some known.near near.0 (sym known.at_near ∙ near.1) in
      record {
        was = record {
          row = o.row;
          at_link = ap (λ (ls : List LinkRow). slice_get ls link) (sym is.links) ∙ o.at_link;
          near = near.0;
          at_near = near.1;
          near_end = o.near_end ∙ ap (λ (f : Face). f.0) face_same;
          far = far.0;
          at_far = far.1;
          peer = ap (option_map (λ (a : ℕ × ℕ). a.0)) (sym (address_stays far.0.face o.far.face far.2.stays)) ∙ o.peer ∙ ap (λ (x : SessionRow). Some x.peer) sa.same;
          configured = subst (λ (n : Site). IsConfigured was_keys n.router n.config s) same known.configured;
        };
        router = sym near.2.router;
      }

  -- one end of a link has one session
  one_session : (link : ℕ) (from_a : Bool) (x y : SessionRow) → IsSessionOf new after.links keys link from_a x → IsSessionOf new after.links keys link from_a y → x ≡ y
  one_session link from_a x y o p =
      let row : o.row ≡ p.row = same_Some o.row p.row (sym o.at_link ∙ p.at_link) in
      let face : x.face.0 ≡ y.face.0 = sym o.near_end ∙ ap (λ (r : LinkRow). (tail_end r from_a).0) row ∙ p.near_end in
      let near : o.near ≡ p.near = same_Some o.near p.near (sym o.at_near ∙ ap (slice_get (sites new)) face ∙ p.at_near) in
      let far : o.far ≡ p.far = same_Some o.far p.far (sym o.at_far ∙ ap (λ (r : LinkRow). slice_get (sites new) (head_end r from_a).0) row ∙ p.at_far) in
      let peer : x.peer ≡ y.peer = same_Some x.peer y.peer (sym o.peer ∙ ap (λ (t : Site). option_map (λ (a : ℕ × ℕ). a.0) (address_of t.face)) far ∙ p.peer) in
      let cy : IsConfigured keys o.near.router o.near.config y = subst (λ (t : Site). IsConfigured keys t.router t.config y) (sym near) p.configured in
      let remote : x.remote ≡ y.remote = same_Some x.remote y.remote (sym o.configured.remote ∙ ap (remote_of (lines_of o.near.config)) peer ∙ cy.remote) in
      let down : x.down ≡ y.down = o.configured.down ∙ ap (is_down (lines_of o.near.config)) peer ∙ sym cy.down in
      let bound : x.bound ≡ y.bound = o.configured.bound ∙ ap (λ q. is_some (filter_of (lines_of o.near.config) q)) peer ∙ sym cy.bound in
      let filter : x.filter ≡ y.filter =
      one_list_place keys (route_keys_differ new after.route_lists lists_are) o.near.router (filter_of (lines_of o.near.config) y.peer) x.filter y.filter
      (subst (λ (q : ℕ). IsPlaceAmong keys o.near.router (filter_of (lines_of o.near.config) q) x.filter) peer o.configured.filter) cy.filter in
      λ i. record { face = record { 0 = face i }; peer = peer i; remote = remote i; down = down i; bound = bound i; filter = filter i }

  -- a session of the files after the edits was one before them
  session_before : (x : SessionRow) (link : ℕ) (from_a : Bool) → IsSessionOf new after.links keys link from_a x → (s : SessionRow) × IsSessionOf old net.links was_keys link from_a s
  session_before x link from_a o =
      let near = site_was net chosen old new g.settings x.face.0 o.near o.at_near in
      let far = site_was net chosen old new g.settings (head_end o.row from_a).0 o.far o.at_far in
      let file = site_of old x.face.0 near.0 near.1 in
      let filter = placed_among was_keys near.0.router (filter_of (lines_of near.0.config) x.peer) in
      let s : SessionRow = record {
        face = x.face;
        peer = x.peer;
        remote = x.remote;
        down = is_down (lines_of near.0.config) x.peer;
        bound =
            is_some (filter_of (lines_of near.0.config) x.peer);
        filter = filter.0;
      } in (
        s,
        record {
          row = o.row;
          at_link = ap (λ (ls : List LinkRow). slice_get ls link) (sym is.links) ∙ o.at_link;
          near = near.0;
          at_near = near.1;
          near_end = o.near_end;
          far = far.0;
          at_far = far.1;
          peer = ap (option_map (λ (a : ℕ × ℕ). a.0)) (sym (address_stays far.0.face o.far.face far.2.stays)) ∙ o.peer;
          configured = record {
            remote = sym (same_said net chosen near.0.router near.0.config o.near.config near.2.settings (g.processes near.0.router near.0.config file.file_at) (says_remote x.peer)
                (no_remote x.peer)) ∙ o.configured.remote;
            down = refl;
            bound = refl;
            filter = filter.1;
          };
        },
      )

  was_sessions : AreInOrder (IsSessionBefore old net.links was_keys) (IsSession old net.links was_keys) net.sessions
  was_sessions = subst (λ (p : Protocol). AreSessions p old net.links was_keys net.sessions) bgp g.rows.sessions

  pub sessions_are_rows : AreInOrder (IsSessionBefore new after.links keys) (IsSession new after.links keys) after.sessions
  sessions_are_rows = record { order = order; just = λ x. (to x, from x) }
    where
      order : AllPairs (IsSessionBefore new after.links keys) after.sessions
      order i j d l m =
          let s = row_was (IsSessionAfter net chosen after) net.sessions after.sessions is.sessions i (get_or after.sessions i d) (slice_get-get_or after.sessions i d (omega (arith, l, m))) in
          let t = row_was (IsSessionAfter net chosen after) net.sessions after.sessions is.sessions j (get_or after.sessions j d) (slice_get-get_or after.sessions j d m) in
          λ a b from to one other.
          let in_s = item_at_place net.sessions i s.0 s.1 in
          let in_t = item_at_place net.sessions j t.0 t.1 in
          let ws = session_of_was i s.0 (get_or after.sessions i d) in_s s.2 a from one in
          let wt = session_of_was j t.0 (get_or after.sessions j d) in_t t.2 b to other in
          let before : IsSessionBefore old net.links was_keys s.0 t.0 = pair_at (IsSessionBefore old net.links was_keys) net.sessions i j s.0 t.0 was_sessions.order l s.1 t.1 in
          subst (λ (r : ℕ). IsPairBefore ◌<◌ (one.near.router, a) (r, b)) wt.router (subst (λ (r : ℕ). IsPairBefore ◌<◌ (r, a) (wt.was.near.router, b)) ws.router (before a b from to ws.was wt.was))

      to : (x : SessionRow) → Contains after.sessions x → IsSession new after.links keys x
      to x there =
          let p = place_of_item after.sessions x there in
          let s = row_was (IsSessionAfter net chosen after) net.sessions after.sessions is.sessions p.0 x p.1 in
          let in_s = item_at_place net.sessions p.0 s.0 s.1 in
          let o = session_is doc net old new chosen g s.0 in_s in
          record { link = o.link; from_a = o.from_a; session_of = session_of_now p.0 s.0 x in_s s.2 o.link o.from_a o.session_of }

      from : (x : SessionRow) → IsSession new after.links keys x → Contains after.sessions x
      from x o =
          let s = session_before x o.link o.from_a o.session_of in
          let in_s : Contains net.sessions s.0 = (was_sessions.just s.0).1 (record { link = o.link; from_a = o.from_a; session_of = s.1 }) in
          let p = place_of_item net.sessions s.0 in_s in
          let now = row_now (IsSessionAfter net chosen after) net.sessions after.sessions is.sessions p.0 s.0 p.1 in
          let same : now.0 ≡ x = one_session o.link o.from_a now.0 x (session_of_now p.0 s.0 now.0 in_s now.2 o.link o.from_a s.1) o.session_of in
          subst (λ (y : SessionRow). Contains after.sessions y) same (item_at_place after.sessions p.0 now.0 now.1)

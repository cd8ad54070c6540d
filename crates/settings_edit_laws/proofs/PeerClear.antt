-- The lines of BGP that name neighbours and networks name known ones after the edits too.
use Rattle.std.proofs.Common.{◌≡◌, ℕ, ◌⊎◌, inl, inr, Bool, true, false, not, Option, Some, None, List, ◌++◌, refl, sym, ◌∙◌, ap, subst}
use Rattle.std.specs.Prelude.{Any, Contains, is_some, slice_get, option_map, option_and_then}
use Rattle.std.proofs.lemmas.Option.{none-some, same_Some}
use Rattle.std.proofs.lemmas.List.Elements.{Contains-append_cases}
use Rattle.arc_base.specs.declared.prefix.Prefix.{Prefix}
use Rattle.arc_base.specs.declared.refusal.Kind.TheVariants as kinds
use Rattle.arc_base.proofs.Items.{Contains-map, from_map}
use Rattle.net_model.specs.declared.policies.Document.{Document}
use Rattle.net_model.specs.declared.policies.LinkText.{LinkText}
use Rattle.net_model.specs.declared.rows.FaceRow.{FaceRow}
use Rattle.net_model.specs.declared.rows.LinkRow.{LinkRow}
use Rattle.net_model.specs.declared.rows.SessionRow.{SessionRow}
use Rattle.net_model.specs.declared.rows.Network.{Network}
use Rattle.net_model.specs.declared.rows.Protocol.{Protocol}
use Rattle.net_model.specs.declared.rows.Protocol.TheVariants.{Ospf, Bgp}
use Rattle.net_model.specs.Routing.{session_at, tail_end, head_end}
use Rattle.net_model.proofs.Readings.{item_at_place, place_of_item}
use Rattle.ios_words.specs.declared.commands.Command.{Command}
use Rattle.ios_words.specs.declared.commands.Command.TheVariants as commands
use Rattle.ios_config.specs.declared.settings.Config.{Config}
use Rattle.ios_config.specs.declared.settings.FaceText.{FaceText}
use Rattle.ios_config.specs.declared.settings.Given.{Given}
use Rattle.net_rules.specs.Neighbors.{names_peer, says_remote}
use Rattle.net_rules.specs.Peers.{IsKnown, NamesOther, RefusesNeighbor, IsConnectedAt, IsConnected, TellsUnconnected, RefusesNetwork}
use Rattle.net_rules.specs.Reasons.{NoRefusal}
use Rattle.net_rules.specs.Rows.{IsLinkRow, IsSubnet}
use Rattle.net_rules.specs.Settings.{lines_of}
use Rattle.net_rules.specs.Sites.{FullName, sites, full_names, full_name, host_name, a_end, b_end, AreJoined}
use Rattle.net_rules.proofs.SiteFacts.{site_of, name_at_site}
use Rattle.edit_list.specs.declared.edit_kinds.Edit.{Edit}
use Rattle.edit_list.specs.declared.edit_kinds.Edit.TheVariants as edits
use Rattle.edit_list.specs.declared.list_kinds.NewList.{NewList}
use Rattle.edit_list.specs.NewLists.{IsNewList, named_lists}
use Rattle.edit_space.proofs.NamedFacts.{of_route_face}
use Rattle.edit_list.proofs.NewListFacts.{picked_from}
use Rattle.line_patcher.specs.NewListLines.{filter_command}
use Rattle.settings_edit_laws.proofs.Turned.{own_face, session_line, turning_line}
use Rattle.settings_edit_laws.specs.SettingsAfter.{AreSettingsAfter}
use Rattle.settings_edit_laws.proofs.Edited.{AreEdited, FileWas, file_was, face_row, session_is, face_text_now}
use Rattle.settings_edit_laws.proofs.FaceRows.{any_was}
use Rattle.settings_edit_laws.proofs.FileClear.{offends_not}
use Rattle.settings_edit_laws.proofs.Lines.{IsAdded, commands_of, commands_after, turning_lines, filter_lines, host_stays, same_said}
use Rattle.settings_edit_laws.proofs.NewNames.{new_of_named}
use Rattle.settings_edit_laws.proofs.Pairs.{any_of, of_any}
use Rattle.arc_base.proofs.Zips.{AllZip-left}
use Rattle.settings_edit_laws.proofs.Said.{filter_line_is, own_face_found}
use Rattle.settings_edit_laws.proofs.SessionFacts.{session_found}
use Rattle.settings_edit_laws.proofs.SessionRows.{no_remote}
use Rattle.settings_edit_laws.proofs.Sites.{address_stays, site_now, full_name_stays}

not_tells : (c : Command) → IsAdded c → ((p : Prefix) × (c ≡ commands.Tells p)) → ⊥
not_tells c h (p, e) = subst IsAdded e h

module _ (doc : Document) (net : Network) (old new : List Config) (chosen : List Edit) (g : AreEdited doc net old new chosen) where
  -- a known neighbour stays known
  known_now : (router : ℕ) (c d : Config) → slice_get old router ≡ Some c → AreSettingsAfter net chosen router c d → (peer : ℕ) → IsKnown doc old c peer → IsKnown doc new d peer
  known_now router c d at after peer k =
      let near = face_text_now doc net old new chosen g router c d after k.far_end.near k.far_end.is_near in
      let place = place_of_item (sites old) k.far_end.far k.far_end.is_far in
      let far = site_now net chosen old new g.settings place.0 k.far_end.far place.1 in
      let host : host_name d ≡ host_name c = host_stays net chosen router c d after in
      let name : near.0.name ≡ k.far_end.near.name = near.2.stays.name in
      let near_name : (host_name c, k.far_end.near.name) ≡ (host_name d, near.0.name) = λ i. (sym host i, sym name i) in
      let far_name : full_name k.far_end.far ≡ full_name far.0 = sym (full_name_stays net chosen old new g.settings k.far_end.far far.0 far.2) in
      record {
        far_end = record {
          near = near.0;
          is_near = near.1;
          far = far.0;
          is_far = item_at_place (sites new) place.0 far.0 far.1;
          joined = subst (λ (n : FullName). AreJoined doc.links n (full_name far.0)) near_name
              (subst (λ (n : FullName). AreJoined doc.links (host_name c, k.far_end.near.name) n) far_name k.far_end.joined);
          address = ap (option_map (λ (a : ℕ × ℕ). a.0)) (address_stays k.far_end.far.face far.0.face far.2.stays) ∙ k.far_end.address;
        };
        remote = ap is_some (same_said net chosen router c d after (g.processes router c at) (says_remote peer) (no_remote peer)) ∙ k.remote;
      }

  -- the neighbour of a session is known in the file of its interface
  session_known : (router : ℕ) (c : Config) → slice_get old router ≡ Some c → (s : SessionRow) (row : FaceRow) → Contains net.sessions s →
      slice_get net.faces s.face.0 ≡ Some row → row.router.0 ≡ router → IsKnown doc old c s.peer
  session_known router c at s row there at_row own =
      let o = (session_is doc net old new chosen g s there) in
      let so = o.session_of in
      let text = AllZip-left (IsLinkRow (full_names old)) doc.links net.links g.rows.base.links o.link so.row so.at_link in
      let r = face_row doc net old new chosen g s.face.0 so.near so.at_near in
      let router_is : so.near.router ≡ router = sym r.2.router ∙ ap (λ (f : FaceRow). f.router.0) (same_Some r.0 row (sym r.1 ∙ at_row)) ∙ own in
      let file = site_of old s.face.0 so.near so.at_near in
      let config_is : so.near.config ≡ c = same_Some so.near.config c (sym file.file_at ∙ ap (slice_get old) router_is ∙ at) in
      let near_name : slice_get (full_names old) (tail_end so.row o.from_a).0 ≡ Some (full_name so.near) = ap (slice_get (full_names old)) so.near_end ∙ name_at_site old s.face.0 so.near so.at_near in
      let far_name : slice_get (full_names old) (head_end so.row o.from_a).0 ≡ Some (full_name so.far) = name_at_site old (head_end so.row o.from_a).0 so.far so.at_far in
      let known : IsKnown doc old so.near.config s.peer = record {
        far_end = record {
          near = so.near.face;
          is_near = file.listed;
          far = so.far;
          is_far = item_at_place (sites old) (head_end so.row o.from_a).0 so.far so.at_far;
          joined = record { link = text.0; place = o.link; at_place = text.1; ends = ends text.0 so.row o.from_a text.2 (full_name so.near) (full_name so.far) near_name far_name };
          address = so.peer;
        };
        remote = ap is_some so.configured.remote;
      } in
      subst (λ (k : Config). IsKnown doc old k s.peer) config_is known
    where
      ends : (text : LinkText) (row : LinkRow) (from_a : Bool) → IsLinkRow (full_names old) text row → (near far : FullName) →
          slice_get (full_names old) (tail_end row from_a).0 ≡ Some near → slice_get (full_names old) (head_end row from_a).0 ≡ Some far →
          ((a_end text ≡ near) × (b_end text ≡ far)) ⊎ ((b_end text ≡ near) × (a_end text ≡ far))
      ends text row true l near far at_near at_far = inl (same_Some (a_end text) near (sym l.a ∙ at_near), same_Some (b_end text) far (sym l.b ∙ at_far))
      ends text row false l near far at_near at_far = inr (same_Some (b_end text) near (sym l.b ∙ at_near), same_Some (a_end text) far (sym l.a ∙ at_far))

  -- each neighbour that an added line names is known
  module _ (router : ℕ) (c : Config) (at : slice_get old router ≡ Some c) (peer : ℕ) where
    of_session_line : (p : Protocol) (place : ℕ) (row : FaceRow) (x : Command) → slice_get net.faces place ≡ Some row → row.router.0 ≡ router →
        session_line p net place row ≡ Some x → names_peer x ≡ Some peer → IsKnown doc old c peer
    of_session_line Ospf place row x at_row own is named = absurd (none-some peer (ap names_peer (same_Some (commands.Passive (not row.passive) (Some row.name)) x is) ∙ named))
    of_session_line Bgp place row x at_row own is named = by (session_at net (record { 0 = place })) refl is
      where
        by : (o : Option SessionRow) → session_at net (record { 0 = place }) ≡ o → option_map (λ (s : SessionRow). commands.NeighborDown s.peer (not s.down)) o ≡ Some x → IsKnown doc old c peer
        by None e f = absurd (none-some x f)
        by (Some s) e f =
            let found = session_found net g.valid (record { 0 = place }) s e in
            let same : s.peer ≡ peer = same_Some s.peer peer (ap names_peer (same_Some (commands.NeighborDown s.peer (not s.down)) x f) ∙ named) in
            subst (λ (q : ℕ). IsKnown doc old c q) same (session_known router c at s row found.0 (ap (slice_get net.faces) found.1 ∙ at_row) own)

    of_edit : (edit : Edit) (x : Command) → turning_line net router edit ≡ Some x → names_peer x ≡ Some peer → IsKnown doc old c peer
    of_edit (edits.Session face) x is named = by (own_face net router face.0) refl is
      where
        by : (o : Option FaceRow) → own_face net router face.0 ≡ o → option_and_then (session_line net.protocol net face.0) o ≡ Some x → IsKnown doc old c peer
        by None e f = absurd (none-some x f)
        by (Some row) e f = let own = own_face_found net g.valid g.small chosen router face.0 row e in of_session_line net.protocol face.0 row x own.0 own.1 f named
    of_edit other x is named = absurd (none-some x is)

    of_filter : (x : Command) → Contains (filter_lines net chosen router) x → names_peer x ≡ Some peer → IsKnown doc old c peer
    of_filter x there named =
        let r = picked_from (λ (l : NewList × List ℕ). filter_command net l.0 l.1) (named_lists net chosen router) x there in
        let b = filter_line_is net r.0.1 r.0.0 x r.2 in
        let made = subst (λ (l : NewList). IsNewList net chosen router l r.0.1) b.is_route (new_of_named net g.valid g.small chosen router r.0 r.1) in
        let of = of_route_face net g.valid chosen router b.face r.0.1 made in
        let found = session_found net g.valid b.face b.session b.at in
        let same : b.session.peer ≡ peer = same_Some b.session.peer peer (ap names_peer (sym b.is) ∙ named) in
        subst (λ (q : ℕ). IsKnown doc old c q) same (session_known router c at b.session of.row found.0 (ap (slice_get net.faces) found.1 ∙ of.at) (sym of.router_is))

    added_known : (x : Command) → Contains (turning_lines net chosen router ++ filter_lines net chosen router) x → names_peer x ≡ Some peer → IsKnown doc old c peer
    added_known x there named = elim (Contains-append_cases (turning_lines net chosen router) (filter_lines net chosen router) x there) [
      | inl turning ↦ let r = picked_from (turning_line net router) chosen x turning in of_edit r.0 x r.2 named
      | inr filter ↦ of_filter x filter named
    ]

  pub clear_neighbors : NoRefusal (RefusesNeighbor doc old) → NoRefusal (RefusesNeighbor doc new)
  clear_neighbors clear r bad = by (Contains-append_cases (commands_of (lines_of was.config)) (turning_lines net chosen bad.place ++ filter_lines net chosen bad.place) line.0.value there)
    where
      was : FileWas net chosen old bad.place bad.item
      was = file_was doc net old new chosen g bad.place bad.item bad.at_place

      line : (x : Given Command) × Contains (lines_of bad.item) x × NamesOther (IsKnown doc new bad.item) bad.number x
      line = of_any (NamesOther (IsKnown doc new bad.item) bad.number) (lines_of bad.item) bad.offends

      there : Contains (commands_of (lines_of was.config) ++ (turning_lines net chosen bad.place ++ filter_lines net chosen bad.place)) line.0.value
      there =
          subst (λ (l : List Command). Contains l line.0.value) (commands_after net chosen bad.place was.config bad.item was.after (g.processes bad.place was.config was.at))
          (Contains-map (λ (x : Given Command). x.value) (lines_of bad.item) line.0 line.1)

      peer : ℕ
      peer = line.2.1.0

      unknown : IsKnown doc old was.config peer → ⊥
      unknown k = line.2.1.2 (known_now bad.place was.config bad.item was.at was.after peer k)

      by : Contains (commands_of (lines_of was.config)) line.0.value ⊎ Contains (turning_lines net chosen bad.place ++ filter_lines net chosen bad.place) line.0.value → ⊥
      by (inl before) =
          let first = from_map (λ (x : Given Command). x.value) (lines_of was.config) line.0.value before in
          offends_not kinds.NeighborUnknown (λ (place : ℕ) (config : Config) (number : ℕ). Any (NamesOther (IsKnown doc old config) number) (lines_of config)) old clear bad.place
          was.config first.0.line was.at
          (any_of (NamesOther (IsKnown doc old was.config) first.0.line) (lines_of was.config) first.0 first.1 (refl, (peer, ap names_peer first.2 ∙ line.2.1.1, unknown)))
      by (inr added) = unknown (added_known bad.place was.config was.at peer line.0.value added line.2.1.1)

  pub clear_networks : NoRefusal (RefusesNetwork old) → NoRefusal (RefusesNetwork new)
  clear_networks clear r bad =
      let first = of_any (λ (x : Given Command). x.value ≡ commands.Tells p) (lines_of was.config)
      (any_was net chosen bad.place was.config bad.item was.after (g.processes bad.place was.config was.at) (λ (c : Command). c ≡ commands.Tells p) (λ c added is. not_tells c added (p, is))
      (any_of (λ (x : Given Command). x.value ≡ commands.Tells p) (lines_of bad.item) line.0 line.1 line.2.1.1)) in
      offends_not kinds.NetworkNotConnected (λ (place : ℕ) (config : Config) (number : ℕ). Any (TellsUnconnected config number) (lines_of config)) old clear bad.place was.config first.0.line was.at
      (any_of (TellsUnconnected was.config first.0.line) (lines_of was.config) first.0 first.1 (refl, (p, first.2, λ k. line.2.1.2 (connected_now k))))
    where
      was : FileWas net chosen old bad.place bad.item
      was = file_was doc net old new chosen g bad.place bad.item bad.at_place

      line : (x : Given Command) × Contains (lines_of bad.item) x × TellsUnconnected bad.item bad.number x
      line = of_any (TellsUnconnected bad.item bad.number) (lines_of bad.item) bad.offends

      p : Prefix
      p = line.2.1.0

      connected_now : IsConnected was.config.faces p → IsConnected bad.item.faces p
      connected_now k =
          let f = of_any (λ (face : FaceText). IsConnectedAt face p) was.config.faces k in
          let h = face_text_now doc net old new chosen g bad.place was.config bad.item was.after f.0 f.1 in
          any_of (λ (face : FaceText). IsConnectedAt face p) bad.item.faces h.0 h.1 (subst (λ (a : Option (ℕ × ℕ)). IsSubnet a (Some p)) (sym (address_stays f.0 h.0 h.2.stays)) f.2)

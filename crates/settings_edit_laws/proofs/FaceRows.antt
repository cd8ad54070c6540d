-- The rows of interfaces after the edits are those of the files after them.
use Rattle.std.proofs.Common.{◌≡◌, ℕ, ◌*◌, inl, inr, Bool, true, false, not, Option, Some, None, List, length, map, refl, sym, ◌∙◌, ap, subst, unwrap_or, IsTrue, ◌↔◌, if◌then◌else◌}
use Rattle.std.specs.Prelude.{Any, Contains, IsSome, IsSomeAnd, is_some, slice_get, option_map}
use Rattle.std.specs.Option.{option_or}
use Rattle.std.specs.List.{AllZip}
use Rattle.std.proofs.lemmas.Option.{same_Some}
use Rattle.arc_base.specs.declared.prefix.Prefix.{Prefix}
use Rattle.arc_base.proofs.Items.{from_map, Contains-map}
use Rattle.net_model.specs.declared.policies.Document.{Document}
use Rattle.net_model.specs.declared.rows.FaceRow.{FaceRow}
use Rattle.net_model.specs.declared.rows.Network.{Network}
use Rattle.net_model.specs.declared.rows.Protocol.{Protocol}
use Rattle.net_model.specs.declared.rows.Protocol.TheVariants.{Ospf, Bgp}
use Rattle.ios_words.specs.declared.commands.Command.{Command}
use Rattle.ios_words.specs.declared.commands.Command.TheVariants as commands
use Rattle.ios_config.specs.declared.settings.Config.{Config}
use Rattle.ios_config.specs.declared.settings.Given.{Given}
use Rattle.net_rules.specs.Kinds.{face_kind, is_loopback, default_bandwidth}
use Rattle.net_rules.specs.declared.processes.TheConstants.{DEFAULT_REFERENCE}
use Rattle.net_rules.specs.Settings.{value, process_of, lines_of, address_of, last_said, says_reference, cost_at, face_cost, is_passive, CommandCovers, IsEnabled}
use Rattle.net_rules.specs.Sites.{Site, FullName, sites, full_name, ends_of}
use Rattle.net_rules.specs.Lists.{IsPlaceAmong, IsListName, BindsPacketList, packet_list_key}
use Rattle.net_rules.specs.Rows.{IsSubnet, TellsHost, IsFaceRow, host_address_of}
use Rattle.net_rules.proofs.SiteFacts.{IsSiteOf, site_of}
use Rattle.edit_list.specs.declared.edit_kinds.Edit.{Edit}
use Rattle.edit_list.specs.declared.list_kinds.NewList.TheVariants as lists
use Rattle.edit_list.specs.Changes.{new_classes}
use Rattle.edit_list.specs.NewLists.{IsNewList}
use Rattle.arc_base.specs.Numbered.{is_empty}
use Rattle.edit_list.specs.After.{IsAfter, IsFaceAfter}
use Rattle.edit_space.proofs.ListKinds.{packets}
use Rattle.edit_list.proofs.RowFacts.{row_was}
use Rattle.settings_edit_laws.specs.SettingsAfter.{AreSettingsAfter}
use Rattle.settings_edit_laws.proofs.Bound.{flag_after, stays_placed, bound_after}
use Rattle.settings_edit_laws.proofs.Edited.{AreEdited, face_row}
use Rattle.settings_edit_laws.proofs.Inbound.{inbound_none, inbound_new}
use Rattle.settings_edit_laws.proofs.Lines.{IsAdded, commands_of, same_said, command_was, command_stays}
use Rattle.settings_edit_laws.proofs.Pairs.{any_of, of_any}
use Rattle.settings_edit_laws.proofs.Pairs.{zip_from, zip_length}
use Rattle.settings_edit_laws.proofs.Said.{passive_now}
use Rattle.settings_edit_laws.proofs.Sites.{IsSiteAfter, address_stays, sites_after, site_was, full_name_stays, is_some_value}

-- added commands say nothing of what takes part, what is told, and what a reference is
not_covers : (a : ℕ) (c : Command) → IsAdded c → CommandCovers a c → ⊥
not_covers a (commands.Covers prefix area) h k = h
not_covers a other h k = k

not_tells : (p : Prefix) (c : Command) → IsAdded c → c ≡ commands.Tells p → ⊥
not_tells p c h e = subst IsAdded e h

no_reference : (c : Command) → IsAdded c → says_reference c ≡ None
no_reference (commands.Reference m) h = absurd h
no_reference other h = refl

-- whether OSPF advertises the own address alone of an interface of this name and type
abbrev host_route : List ℕ → Option Bool → Bool
host_route name point = if is_loopback (face_kind name) then not (unwrap_or point false) else false

-- what a command says that is not added stays
module _ (net : Network) (chosen : List Edit) (router : ℕ) (old new : Config) (after : AreSettingsAfter net chosen router old new) (has : IsSome (process_of old)) where
  any_command : (P : Command → Type 0) (lines : List (Given Command)) → Any (λ g. P g.value) lines → (c : Command) × Contains (commands_of lines) c × P c
  any_command P lines h = let r = of_any (λ (g : Given Command). P g.value) lines h in (r.0.value, Contains-map (λ (g : Given Command). g.value) lines r.0 r.1, r.2)

  command_any : (P : Command → Type 0) (lines : List (Given Command)) (c : Command) → Contains (commands_of lines) c → P c → Any (λ g. P g.value) lines
  command_any P lines c there p =
      let r = from_map (λ (g : Given Command). g.value) lines c there in
      any_of (λ (g : Given Command). P g.value) lines r.0 r.1 (subst P (sym r.2) p)

  pub any_was : (P : Command → Type 0) → ((c : Command) → IsAdded c → P c → ⊥) → Any (λ g. P g.value) (lines_of new) → Any (λ g. P g.value) (lines_of old)
  any_was P silent h =
      let r = any_command P (lines_of new) h in
      elim (command_was net chosen router old new after has r.0 r.1) [ inl was ↦ command_any P (lines_of old) r.0 was r.2 | inr added ↦ absurd (silent r.0 added r.2) ]

  pub any_now : (P : Command → Type 0) → Any (λ g. P g.value) (lines_of old) → Any (λ g. P g.value) (lines_of new)
  any_now P h =
      let r = any_command P (lines_of old) h in
      command_any P (lines_of new) r.0 (command_stays net chosen router old new after has r.0 r.1) r.2

some_and : {X : Type 0} (P Q : X → Type 0) → ((x : X) → P x → Q x) → (o : Option X) → IsSomeAnd o P → IsSomeAnd o Q
some_and P Q f None h = h
some_and P Q f (Some x) h = f x h

module _ (doc : Document) (net : Network) (old new : List Config) (chosen : List Edit) (g : AreEdited doc net old new chosen) (after : Network) (is : IsAfter net chosen after) where
  abbrev keys : List (ℕ × List ℕ)
  keys = map packet_list_key after.packet_lists

  module _ (k : ℕ) (s t : Site) (was now : FaceRow) (at_s : slice_get (sites old) k ≡ Some s) (at_was : slice_get net.faces k ≡ Some was)
      (sa : IsSiteAfter net chosen s t) (fr : IsFaceRow net.protocol (ends_of doc.links) (map packet_list_key net.packet_lists) s was) (fa : IsFaceAfter net chosen after k was now) where
    file : IsSiteOf old s
    file = site_of old k s at_s

    has : IsSome (process_of s.config)
    has = g.processes s.router s.config file.file_at

    address : address_of t.face ≡ address_of s.face
    address = address_stays s.face t.face sa.stays

    name : full_name t ≡ full_name s
    name = full_name_stays net chosen old new g.settings s t sa

    own : was.router.0 ≡ s.router
    own = fr.router

    enabled_of : IsEnabled (lines_of t.config) t.face ↔ IsEnabled (lines_of s.config) s.face
    enabled_of = (to, from)
      where
        area : is_some t.face.area ≡ is_some s.face.area
        area = is_some_value t.face.area ∙ ap is_some sa.stays.area ∙ sym (is_some_value s.face.area)

        to : IsEnabled (lines_of t.config) t.face → IsEnabled (lines_of s.config) s.face
        to (inl given) = inl (sym area ∙ given)
        to (inr covered) = inr
            (some_and (λ (a : ℕ × ℕ). Any (λ (g : Given Command). CommandCovers a.0 g.value) (lines_of t.config))
            (λ (a : ℕ × ℕ). Any (λ (g : Given Command). CommandCovers a.0 g.value) (lines_of s.config))
            (λ a h. any_was net chosen s.router s.config t.config sa.settings has (CommandCovers a.0) (not_covers a.0) h) (address_of s.face)
            (subst (λ (o : Option (ℕ × ℕ)). IsSomeAnd o (λ (a : ℕ × ℕ). Any (λ (g : Given Command). CommandCovers a.0 g.value) (lines_of t.config))) address covered))

        from : IsEnabled (lines_of s.config) s.face → IsEnabled (lines_of t.config) t.face
        from (inl given) = inl (area ∙ given)
        from (inr covered) = inr (subst (λ (o : Option (ℕ × ℕ)). IsSomeAnd o (λ (a : ℕ × ℕ). Any (λ (g : Given Command). CommandCovers a.0 g.value) (lines_of t.config))) (sym address)
            (some_and (λ (a : ℕ × ℕ). Any (λ (g : Given Command). CommandCovers a.0 g.value) (lines_of s.config))
            (λ (a : ℕ × ℕ). Any (λ (g : Given Command). CommandCovers a.0 g.value) (lines_of t.config))
            (λ a h. any_now net chosen s.router s.config t.config sa.settings has (CommandCovers a.0) h) (address_of s.face) covered))

    told_of : (p : Protocol) → TellsHost p (lines_of t.config) was.host was.enabled ↔ TellsHost p (lines_of s.config) was.host was.enabled
    told_of Ospf = (λ h. h, λ h. h)
    told_of Bgp = (
      λ h. some_and (λ (p : Prefix). Any (λ (g : Given Command). g.value ≡ commands.Tells p) (lines_of t.config))
          (λ (p : Prefix). Any (λ (g : Given Command). g.value ≡ commands.Tells p) (lines_of s.config))
          (λ p k. any_was net chosen s.router s.config t.config sa.settings has (λ (c : Command). c ≡ commands.Tells p) (not_tells p) k) was.host h,
      λ h. some_and (λ (p : Prefix). Any (λ (g : Given Command). g.value ≡ commands.Tells p) (lines_of s.config))
          (λ (p : Prefix). Any (λ (g : Given Command). g.value ≡ commands.Tells p) (lines_of t.config))
          (λ p k. any_now net chosen s.router s.config t.config sa.settings has (λ (c : Command). c ≡ commands.Tells p) k) was.host h,
    )

    host_address : (p : Protocol) → host_address_of p t.face ≡ host_address_of p s.face
    host_address Bgp = ap (option_map (λ (a : ℕ × ℕ). (a.0, a.1))) address
    host_address Ospf =
        let named = sa.stays.name in
        let point = sa.stays.point in
        λ i. option_map (λ (a : ℕ × ℕ). (a.0, if host_route (named i) (point i) then 32 else a.1)) (address i)

    cost_stays : face_cost (lines_of t.config) t.face ≡ face_cost (lines_of s.config) s.face
    cost_stays =
        let reference : last_said says_reference (lines_of t.config) ≡ last_said says_reference (lines_of s.config) =
        same_said net chosen s.router s.config t.config sa.settings has says_reference no_reference in
        let costs = sa.stays.cost in
        let widths = sa.stays.bandwidth in
        let named = sa.stays.name in
        λ i. unwrap_or (costs i) (cost_at (unwrap_or (reference i) DEFAULT_REFERENCE * 1000) (unwrap_or (widths i) (default_bandwidth (face_kind (named i)))))

    in_stays : is_empty (new_classes chosen k) ≡ true → value t.face.list_in ≡ value s.face.list_in
    in_stays e = sa.list_in ∙ ap (λ o. option_or o (value s.face.list_in)) (inbound_none net g.valid g.small chosen s.router s.face.name k was at_was own fr.name e)

    in_made : is_empty (new_classes chosen k) ≡ false → (name : List ℕ) × IsNewList net chosen s.router (lists.Packet (record { 0 = k })) name × (value t.face.list_in ≡ Some name)
    in_made e =
        let n = inbound_new net g.valid g.small chosen s.router s.face.name k was at_was own fr.name e in
        (n.0, n.1, sa.list_in ∙ ap (λ o. option_or o (value s.face.list_in)) n.2)

    bound_flag : now.bound_in ≡ is_some t.face.list_in
    bound_flag =
        fa.bound_in ∙ flag_after (IsNewList net chosen s.router (lists.Packet (record { 0 = k }))) (is_empty (new_classes chosen k)) was.bound_in (value s.face.list_in) (value t.face.list_in)
        (fr.bound_in ∙ is_some_value s.face.list_in) in_stays in_made ∙ sym (is_some_value t.face.list_in)

    list_name : (name : List ℕ) → BindsPacketList name s.face → IsListName s.config name
    list_name name binds = inr (inl (any_of (BindsPacketList name) s.config.faces s.face file.listed binds))

    list_in_place : IsPlaceAmong keys t.router (value t.face.list_in) now.list_in
    list_in_place =
        subst (λ (r : ℕ). IsPlaceAmong keys r (value t.face.list_in) now.list_in) (sym sa.router)
        (bound_after doc net old new chosen g (packets net chosen g.valid) after.packet_lists is.packet_lists s.router s.config file.file_at (record { 0 = k }) (is_empty (new_classes chosen k))
        (value s.face.list_in) (value t.face.list_in) was.list_in now.list_in in_stays in_made (λ name b. list_name name (inl b)) fa.list_in fr.list_in)

    list_out_place : IsPlaceAmong keys t.router (value t.face.list_out) now.list_out
    list_out_place =
        subst (λ (r : ℕ). IsPlaceAmong keys r (value t.face.list_out) now.list_out) (sym sa.router)
        (subst (λ (o : Option (List ℕ)). IsPlaceAmong keys s.router o now.list_out) (sym sa.stays.list_out)
        (stays_placed doc net old new chosen g (packets net chosen g.valid) after.packet_lists is.packet_lists s.router s.config file.file_at (value s.face.list_out) was.list_out now.list_out
        (λ name b. list_name name (inr b)) fa.list_out fr.list_out))

    enabled_same : now.enabled ≡ was.enabled
    enabled_same = ap (λ (f : FaceRow). f.enabled) fa.same

    host_same : now.host ≡ was.host
    host_same = ap (λ (f : FaceRow). f.host) fa.same

    told_same : now.told ≡ was.told
    told_same = ap (λ (f : FaceRow). f.told) fa.same

    face_row_after : IsFaceRow net.protocol (ends_of doc.links) keys t now
    face_row_after = record {
      router = ap (λ (f : FaceRow). f.router.0) fa.same ∙ fr.router ∙ sym sa.router;
      name = ap (λ (f : FaceRow). f.name) fa.same ∙ fr.name ∙ sym sa.stays.name;
      addr = ap (λ (f : FaceRow). f.addr) fa.same ∙ fr.addr ∙ ap (option_map (λ (a : ℕ × ℕ). a.0)) (sym address);
      subnet = subst (λ (o : Option Prefix). IsSubnet (address_of t.face) o) (sym (ap (λ (f : FaceRow). f.subnet) fa.same))
          (subst (λ (a : Option (ℕ × ℕ)). IsSubnet a was.subnet) (sym address) fr.subnet);
      host = record {
        at_end = λ at_end. host_same ∙ fr.host.at_end (subst (λ (n : FullName). Contains (ends_of doc.links) n) name at_end);
        elsewhere = λ no_end. subst (λ (o : Option Prefix). IsSubnet (host_address_of net.protocol t.face) o) (sym host_same)
            (subst (λ (a : Option (ℕ × ℕ)). IsSubnet a was.host) (sym (host_address net.protocol))
            (fr.host.elsewhere (λ at_end. no_end (subst (λ (n : FullName). Contains (ends_of doc.links) n) (sym name) at_end))));
      };
      up = ap (λ (f : FaceRow). f.up) fa.same ∙ fr.up ∙ ap (λ (o : Option Bool). not (unwrap_or o false)) (sym sa.stays.shut);
      enabled = subst (λ (b : Bool). IsTrue b ↔ IsEnabled (lines_of t.config) t.face) (sym enabled_same) (λ h. enabled_of.1 (fr.enabled.0 h), λ h. fr.enabled.1 (enabled_of.0 h));
      told = subst (λ (b : Bool). IsTrue b ↔ TellsHost net.protocol (lines_of t.config) now.host now.enabled) (sym told_same)
          (subst (λ (b : Bool). IsTrue was.told ↔ TellsHost net.protocol (lines_of t.config) now.host b) (sym enabled_same)
          (subst (λ (o : Option Prefix). IsTrue was.told ↔ TellsHost net.protocol (lines_of t.config) o was.enabled) (sym host_same)
          (λ h. (told_of net.protocol).1 (fr.told.0 h), λ h. fr.told.1 ((told_of net.protocol).0 h))));
      passive = fa.passive ∙ sym (passive_now net g.valid g.small chosen s.router s.config t.config sa.settings has k was at_was own net.protocol refl
          (fr.passive ∙ ap (is_passive net.protocol (lines_of s.config)) (sym fr.name))) ∙ ap (is_passive net.protocol (lines_of t.config)) (fr.name ∙ sym sa.stays.name);
      cost = ap (λ (f : FaceRow). f.cost) fa.same ∙ fr.cost ∙ sym cost_stays;
      bound_in = bound_flag;
      list_in = list_in_place;
      list_out = list_out_place;
    }

  pub faces_are_rows : AllZip (IsFaceRow net.protocol (ends_of doc.links) keys) (sites new) after.faces
  faces_are_rows =
      zip_from (IsFaceRow net.protocol (ends_of doc.links) keys) (sites new) after.faces counts
      (λ k t now at_t at_now.
      let s = site_was net chosen old new g.settings k t at_t in
      let was = row_was (IsFaceAfter net chosen after) net.faces after.faces is.faces k now at_now in
      let row = face_row doc net old new chosen g k s.0 s.1 in
      let same : row.0 ≡ was.0 = same_Some row.0 was.0 (sym row.1 ∙ was.1) in
      face_row_after k s.0 t was.0 now s.1 was.1 s.2 (subst (λ (r : FaceRow). IsFaceRow net.protocol (ends_of doc.links) (map packet_list_key net.packet_lists) s.0 r) same row.2) was.2)
    where
      counts : length after.faces ≡ length (sites new)
      counts =
          is.faces.whole ∙ zip_length (IsFaceRow net.protocol (ends_of doc.links) (map packet_list_key net.packet_lists)) (sites old) net.faces g.rows.base.faces ∙
          sym (zip_length (IsSiteAfter net chosen) (sites old) (sites new) (sites_after net chosen old new g.settings))

-- The settings after the edits have a network, which is the network after the edits.
use Rattle.std.proofs.Common.{◌≡◌, ℕ, inl, inr, Option, Some, None, List, [], ◌∷◌, length, map, refl, sym, ◌∙◌, ap, subst, arith}
use Rattle.std.specs.Prelude.{All, IsSome, MatchOption, is_some, slice_get}
use Rattle.std.specs.List.{AllZip}
use Rattle.arc_base.specs.declared.refusal.Kind.TheVariants as kinds
use Rattle.net_model.specs.declared.policies.Document.{Document}
use Rattle.net_model.specs.declared.rows.LinkRow.{LinkRow}
use Rattle.net_model.specs.declared.rows.Network.{Network}
use Rattle.net_model.specs.declared.rows.Protocol.{Protocol}
use Rattle.net_model.specs.declared.rows.Protocol.TheVariants.{Ospf, Bgp}
use Rattle.net_model.specs.Validity.{IsValid}
use Rattle.ios_config.specs.declared.settings.Config.{Config}
use Rattle.ios_config.specs.declared.settings.ProcessText.{ProcessText}
use Rattle.net_rules.specs.Forms.{IsWellFormed}
use Rattle.net_rules.specs.Lists.{packet_list_key, route_list_key, ArePacketLists, AreRouteLists}
use Rattle.arc_base.specs.Lists.{AreDistinct}
use Rattle.net_build.specs.Networks.{HasSettings, IsNetworkOf}
use Rattle.net_build.specs.Order.{tries, Refuses, AreClear}
use Rattle.net_rules.specs.Reasons.{NoRefusal}
use Rattle.net_rules.specs.Linking.{RefusesAdjacencyForm}
use Rattle.net_rules.specs.Routers.{HasNoOwnProcess, MixesProcesses, protocol_of, RefusesProtocol}
use Rattle.net_rules.specs.Rows.{AreRows, AreSessions, IsRouterRow, IsFaceRow, IsLinkRow}
use Rattle.net_rules.specs.Settings.{process_of}
use Rattle.net_rules.specs.Sites.{FullName, sites, full_names, ends_of}
use Rattle.net_rules.proofs.HostNames.{hosts_differ}
use Rattle.net_rules.proofs.NamesDiffer.{full_names_distinct}
use Rattle.net_build.proofs.OneAnswer.{all_well_formed}
use Rattle.edit_list.specs.Determined.{IsCountable}
use Rattle.edit_list.specs.declared.edit_kinds.Edit.{Edit}
use Rattle.edit_list.specs.After.{IsAfter}
use Rattle.settings_edit_laws.specs.Premises.{AreFitting, HasRoom}
use Rattle.settings_edit_laws.specs.SettingsAfter.{AreAllSettingsAfter}
use Rattle.settings_edit_laws.proofs.Edited.{AreEdited}
use Rattle.settings_edit_laws.proofs.EntriesClear.{clear_entries}
use Rattle.settings_edit_laws.proofs.FaceRows.{faces_are_rows}
use Rattle.settings_edit_laws.proofs.FileClear.{offends_not, clear_hostname, clear_protocol, clear_areas, clear_same_as, clear_router_ids, protocol_stays}
use Rattle.settings_edit_laws.proofs.NetworkClear.{one, clear_link_face, clear_interfaces, clear_overlap, clear_link_subnets, clear_types, clear_endpoint}
use Rattle.settings_edit_laws.proofs.PacketLists as packets
use Rattle.settings_edit_laws.proofs.PeerClear.{clear_neighbors, clear_networks}
use Rattle.settings_edit_laws.proofs.RouteLists as routes
use Rattle.settings_edit_laws.proofs.RouterRows.{routers_are_rows}
use Rattle.settings_edit_laws.proofs.SessionRows.{sessions_are_rows}
use Rattle.settings_edit_laws.proofs.Sites.{full_names_stay}
use Rattle.settings_edit_laws.proofs.StopClear.{clear_stops}

no_items : {X : Type 0} (xs : List X) → length xs ≡ 0 → xs ≡ []
no_items [] e = refl
no_items (x ∷ xs) e = absurd (omega (arith, e))

module _ (doc : Document) (net : Network) (old new : List Config) (chosen : List Edit) (g : AreEdited doc net old new chosen) (after : Network) (is : IsAfter net chosen after) where
  packet_lists_are : ArePacketLists new after.packet_lists
  packet_lists_are = record {
    order = is.packet_order;
    just = λ row. (
      λ there. (packets.same_packet_lists doc net old new chosen g row).0 ((is.packet_lists row).0 there),
      λ r. (is.packet_lists row).1 ((packets.same_packet_lists doc net old new chosen g row).1 r),
    );
  }

  route_lists_are : AreRouteLists new after.route_lists
  route_lists_are = record {
    order = is.route_order;
    just = λ row. (
      λ there. (routes.same_route_lists doc net old new chosen g row).0 ((is.route_lists row).0 there),
      λ r. (is.route_lists row).1 ((routes.same_route_lists doc net old new chosen g row).1 r),
    );
  }

  sessions_are : (p : Protocol) → net.protocol ≡ p → AreSessions p new after.links (map route_list_key after.route_lists) after.sessions
  sessions_are Ospf ospf =
      let none : net.sessions ≡ [] = subst (λ (q : Protocol). AreSessions q old net.links (map route_list_key net.route_lists) net.sessions) ospf g.rows.sessions in
      no_items after.sessions (is.sessions.whole ∙ ap length none)
  sessions_are Bgp bgp = sessions_are_rows doc net old new chosen g after is route_lists_are bgp

  pub rows_are : AreRows doc new after
  rows_are = record {
    base = record {
      protocol = is.protocol ∙ g.rows.base.protocol ∙ sym (protocol_stays doc net old new chosen g);
      routers = subst (λ (p : Protocol). AllZip (IsRouterRow p) new after.routers) (sym is.protocol) (routers_are_rows doc net old new chosen g after is);
      packet_lists = packet_lists_are;
      faces = subst (λ (p : Protocol). AllZip (IsFaceRow p (ends_of doc.links) (map packet_list_key after.packet_lists)) (sites new) after.faces) (sym is.protocol)
          (faces_are_rows doc net old new chosen g after is);
      links = subst (λ (ls : List LinkRow). AllZip (IsLinkRow (full_names new)) doc.links ls) (sym is.links)
          (subst (λ (ns : List FullName). AllZip (IsLinkRow ns) doc.links net.links) (sym (full_names_stay net chosen old new g.settings)) g.rows.base.links);
      route_lists = route_lists_are;
    };
    sessions = subst (λ (p : Protocol). AreSessions p new after.links (map route_list_key after.route_lists) after.sessions) (sym is.protocol) (sessions_are net.protocol refl);
  }

  module _ (valid_after : IsValid after) (distinct : AreDistinct (full_names old)) (room : HasRoom chosen old) (clear : AreClear (Refuses doc old) tries) where
    pub none_refused : AreClear (Refuses doc new) tries
    none_refused =
        let same = one doc net old new chosen g after is valid_after rows_are distinct in (
          clear_hostname doc net old new chosen g clear.0,
          (
            clear_protocol doc net old new chosen g clear.1.0,
            (
              clear_areas doc net old new chosen g clear.1.1.0,
              (
                clear_same_as doc net old new chosen g clear.1.1.1.0,
                (
                  clear_link_face doc net old new chosen g clear.1.1.1.1.0,
                  (
                    clear.1.1.1.1.1.0,
                    (
                      clear_neighbors doc net old new chosen g clear.1.1.1.1.1.1.0,
                      (
                        clear_networks doc net old new chosen g clear.1.1.1.1.1.1.1.0,
                        (
                          clear_overlap doc net old new chosen g after is valid_after rows_are distinct,
                          (
                            clear_link_subnets doc net old new chosen g after is valid_after rows_are distinct clear.1.1.1.1.1.1.1.1.1.0,
                            (
                              clear_stops doc net old new chosen g after is same clear.1.1.1.1.1.1.1.1.1.1.0,
                              (
                                adjacency clear.1.1.1.1.1.1.1.1.1.1.1.0,
                                (
                                  clear_interfaces doc net old new chosen g clear.1.1.1.1.1.1.1.1.1.1.1.1.0,
                                  (
                                    clear_entries doc net old new chosen g room,
                                    (
                                      clear_endpoint doc net old new chosen g after is valid_after rows_are distinct clear.1.1.1.1.1.1.1.1.1.1.1.1.1.1.0,
                                      tt,
                                    ),
                                  ),
                                ),
                              ),
                            ),
                          ),
                        ),
                      ),
                    ),
                  ),
                ),
              ),
            ),
          ),
        )
      where
        adjacency : NoRefusal (RefusesAdjacencyForm doc old) → NoRefusal (RefusesAdjacencyForm doc new)
        adjacency h r (inl types) = clear_types doc net old new chosen g after is valid_after rows_are distinct (λ s bad. h s (inl bad)) r types
        adjacency h r (inr ids) = clear_router_ids doc net old new chosen g (λ s bad. h s (inr bad)) r ids

-- each router has a process where nothing is refused
all_processes : (configs : List Config) → NoRefusal (RefusesProtocol configs) → (k : ℕ) (c : Config) → slice_get configs k ≡ Some c → IsSome (process_of c)
all_processes configs clear k c at = by (process_of c) refl
  where
    refused : (line : ℕ) → line ≡ 0 → process_of c ≡ None → ⊥
    refused line none e =
        offends_not kinds.Protocol (HasNoOwnProcess configs) configs clear k c line at
        (subst (λ (o : Option ProcessText). MatchOption o (line ≡ 0) (λ process. MixesProcesses (protocol_of configs) c process line)) (sym e) none)

    by : (o : Option ProcessText) → process_of c ≡ o → IsSome (process_of c)
    by (Some p) e = ap is_some e
    by None e = let line : ℕ = 0 in absurd (refused line refl e)

pub network_is_after : (doc : Document) (files new_files : List (List ℕ)) (net : Network) (is : IsNetworkOf doc files net) (chosen : List Edit) (new : List Config) (after : Network) →
    IsValid net → IsCountable net → AreFitting net chosen → HasRoom chosen is.configs → AllZip HasSettings new_files new →
    AreAllSettingsAfter net chosen is.configs new → IsAfter net chosen after → IsValid after →
    IsNetworkOf doc new_files after
network_is_after doc files new_files net is chosen new after valid small fits room said settings is_after valid_after =
    let formed : All IsWellFormed is.configs = all_well_formed files is.configs is.said in
    let distinct : AreDistinct (full_names is.configs) = full_names_distinct is.configs (hosts_differ is.configs is.clear.0) (λ k d within. (formed k d within).faces_differ) in
    let g : AreEdited doc net is.configs new chosen = record { rows = is.rows; valid = valid; small = small; fits = fits; settings = settings; processes = all_processes is.configs is.clear.1.0 } in
    record {
      configs = new;
      said = said;
      rows = rows_are doc net is.configs new chosen g after is_after;
      clear =
          none_refused doc net is.configs new chosen g after is_after valid_after distinct room is.clear;
    }

-- The lists of a network that has the rows of its files are valid.
use Rattle.std.proofs.Common.{◌≡◌, ◌≢◌, ℕ, suc, ◌⊎◌, inl, inr, Option, Some, None, List, [], ◌∷◌, refl, ◌∙◌, subst, arith}
use Rattle.std.specs.Prelude.{All, AllPairs, Contains, IfSome, slice_get, ◌==◌, Bool, true, false, if◌then◌else◌}
use Rattle.std.specs.List.{filter_map, last_or, cons_option}
use Rattle.std.proofs.lemmas.List.Elements.{All-contains}
use Rattle.std.proofs.lemmas.Option.{none-some, same_Some}
use Rattle.net_model.specs.declared.lists.PacketList.{PacketList}
use Rattle.net_model.specs.declared.lists.RouteList.{RouteList}
use Rattle.net_model.specs.declared.policies.Document.{Document}
use Rattle.net_model.specs.declared.rows.RouterRow.{RouterRow}
use Rattle.net_model.specs.declared.rows.Network.{Network}
use Rattle.net_model.specs.Validity.{IsValidPacketList, IsValidRouteList}
use Rattle.arc_base.specs.NameForms.{IsName}
use Rattle.ios_words.specs.declared.commands.Command.{Command}
use Rattle.ios_words.specs.declared.commands.Command.TheVariants as commands
use Rattle.ios_config.specs.declared.settings.Given.{Given}
use Rattle.ios_config.specs.declared.settings.Config.{Config}
use Rattle.net_rules.specs.Forms.{IsWellFormed, IsWellFormedFace, BindsName}
use Rattle.net_rules.specs.Settings.{lines_of, value}
use Rattle.net_rules.specs.Neighbors.{says_filter}
use Rattle.net_rules.specs.Lists.{IsBoundPacketList, IsBoundRouteList, IsListName, IsPacketListRow, IsRouteListRow}
use Rattle.net_rules.specs.Rows.{IsRouterRow}
use Rattle.net_rules.proofs.Distinct.{Contains-at}
use Rattle.net_build.proofs.ValidRows.{AreKnown}
use Rattle.arc_base.proofs.Items.{All-from}
use Rattle.arc_base.proofs.Zips.{AllZip-right}
use Rattle.net_rules.proofs.ListKeys.{names_differ}

-- a name that an interface of a well formed file binds has its form
name_of : (o : Option (Given (List ℕ))) (name : List ℕ) → IfSome o (λ g. IsName g.value) → value o ≡ Some name → IsName name
name_of None name wf e = absurd (none-some name e)
name_of (Some g) name wf e = subst IsName (same_Some g.value name e) wf

bound_packet_name : (config : Config) (name : List ℕ) → IsWellFormed config → IsBoundPacketList config name → IsName name
bound_packet_name config name wf (k, face, within, is, binds) =
    let face_wf : IsWellFormedFace face = All-contains IsWellFormedFace config.faces face wf.faces (k, within, is) in
    elim binds [
      | inl inbound ↦ name_of face.list_in name face_wf.list_in inbound
      | inr outbound ↦ name_of face.list_out name face_wf.list_out outbound
    ]

-- the last value that lines give was given by one of them
last_among : {X Y : Type 0} (h : X → Option Y) (xs : List X) (before : Option Y) (y : Y) → last_or before (filter_map h xs) ≡ Some y → (before ≡ Some y) ⊎ ((x : X) × Contains xs x × (h x ≡ Some y))
last_among {X} {Y} h [] before y e = inl e
last_among {X} {Y} h (x ∷ xs) before y e = by (h x) refl (last_among h xs before y) (λ z. last_among h xs (Some z) y) e
  where
    later : (x : X) × Contains xs x × (h x ≡ Some y) → (z : X) × Contains (x ∷ xs) z × (h z ≡ Some y)
    later (z, (k, l, is), said) = (z, (suc k, omega (arith, l), is), said)

    by : (o : Option Y) → h x ≡ o → (last_or before (filter_map h xs) ≡ Some y → (before ≡ Some y) ⊎ ((z : X) × Contains xs z × (h z ≡ Some y))) →
        ((w : Y) → last_or (Some w) (filter_map h xs) ≡ Some y → (Some w ≡ Some y) ⊎ ((z : X) × Contains xs z × (h z ≡ Some y))) →
        last_or before (cons_option o (filter_map h xs)) ≡ Some y → (before ≡ Some y) ⊎ ((z : X) × Contains (x ∷ xs) z × (h z ≡ Some y))
    by None is rest more e = elim (rest e) [ inl was ↦ inl was | inr said ↦ inr (later said) ]
    by (Some w) is rest more e = elim (more w e) [ inl was ↦ inr (x, (0, omega arith, refl), is ∙ was) | inr said ↦ inr (later said) ]

binds_name : (peer : ℕ) (command : Command) (name : List ℕ) → BindsName command → says_filter peer command ≡ Some name → IsName name
binds_name peer (commands.NeighborList other list) name wf said = by (other == peer) said
  where
    by : (b : Bool) → (if b then Some list else None) ≡ Some name → IsName name
    by true e = subst IsName (same_Some list name e) wf
    by false e = absurd (none-some name e)
binds_name peer other name wf said = absurd (none-some name said)

bound_route_name : (config : Config) (name : List ℕ) → IsWellFormed config → IsBoundRouteList config name → IsName name
bound_route_name config name wf (peer, bound) = elim (last_among (λ (g : Given Command). says_filter peer g.value) (lines_of config) None name bound) [
  | inl none ↦ absurd (none-some name none)
  | inr (g, there, said) ↦ binds_name peer g.value name (All-contains (λ (g : Given Command). BindsName g.value) (lines_of config) g wf.lines there) said
]

module _ (doc : Document) (configs : List Config) (net : Network) (k : AreKnown doc configs net) where
  -- the row of a router whose file gives or binds the name lists it
  owner : (router : ℕ) (config : Config) (name : List ℕ) → slice_get configs router ≡ Some config → IsListName config name →
      (row : RouterRow) × (slice_get net.routers router ≡ Some row) × Contains row.names name
  owner router config name at is_name =
      let r : (row : RouterRow) × (slice_get net.routers router ≡ Some row) × IsRouterRow net.protocol config row =
      AllZip-right (IsRouterRow net.protocol) configs net.routers k.rows.routers router config at in
      (r.0, r.1, (r.2.names.just name).1 is_name)

  well_formed_file : (router : ℕ) (config : Config) → slice_get configs router ≡ Some config → IsWellFormed config
  well_formed_file router config at = All-contains IsWellFormed configs config k.well_formed (Contains-at configs router config at)

  packet_list_at : (list : PacketList) → IsPacketListRow configs list → IsValidPacketList net list
  packet_list_at list row =
      let o = owner list.router.0 row.config list.name row.at_router (inr (inl row.bound)) in
      record { owner = o.0; owner_is = o.1; listed = o.2; name = bound_packet_name row.config list.name (well_formed_file list.router.0 row.config row.at_router) row.bound }

  pub packet_lists : All (IsValidPacketList net) net.packet_lists
  packet_lists = All-from (IsValidPacketList net) net.packet_lists (λ list held. packet_list_at list ((k.rows.packet_lists.just list).0 held))

  route_list_at : (list : RouteList) → IsRouteListRow configs list → IsValidRouteList net list
  route_list_at list row =
      let o = owner list.router.0 row.config list.name row.at_router (inr (inr row.bound)) in
      record { owner = o.0; owner_is = o.1; listed = o.2; name = bound_route_name row.config list.name (well_formed_file list.router.0 row.config row.at_router) row.bound }

  pub route_lists : All (IsValidRouteList net) net.route_lists
  route_lists = All-from (IsValidRouteList net) net.route_lists (λ list held. route_list_at list ((k.rows.route_lists.just list).0 held))

  pub packet_lists_apart : AllPairs (λ l m. l.router.0 ≡ m.router.0 → l.name ≢ m.name) net.packet_lists
  packet_lists_apart i j d l m = names_differ _ _ (k.rows.packet_lists.order i j d l m)

  pub route_lists_apart : AllPairs (λ l m. l.router.0 ≡ m.router.0 → l.name ≢ m.name) net.route_lists
  route_lists_apart i j d l m = names_differ _ _ (k.rows.route_lists.order i j d l m)

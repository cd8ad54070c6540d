-- The network with the rows of its files is valid, if no interfaces overlap and the links are valid.
use Rattle.std.proofs.Common.{◌≡◌, ◌≢◌, ℕ, ◌≤◌, ◌⊎◌, Option, Some, None, List, [], length, get_or, refl, sym, ◌∙◌, ap, subst, arith}
use Rattle.std.specs.Prelude.{All, AllPairs, IfSome, IsSome, slice_get}
use Rattle.std.specs.Option.{option_map_or}
use Rattle.std.proofs.lemmas.List.Elements.{All-contains}
use Rattle.std.proofs.lemmas.Bool.{false≢true}
use Rattle.std.proofs.lemmas.Option.{slice_get-get_or, slice_get_within, get_or_from_slice_get}
use Rattle.net_model.specs.declared.policies.Document.{Document}
use Rattle.net_model.specs.declared.rows.FaceRow.{FaceRow}
use Rattle.net_model.specs.declared.rows.RouterRow.{RouterRow}
use Rattle.net_model.specs.declared.rows.Network.{Network}
use Rattle.net_model.specs.Validity.{IsValid, AreLinked, AreApart}
use Rattle.arc_base.specs.NameForms.{IsName}
use Rattle.ios_config.specs.declared.settings.Config.{Config}
use Rattle.ios_config.specs.declared.settings.Setting.{Setting}
use Rattle.net_rules.specs.Forms.{IsWellFormed}
use Rattle.net_rules.specs.Sites.{host_name, full_names}
use Rattle.net_rules.specs.Rows.{IsRouterRow, IsLinkRow, AreRows}
use Rattle.net_rules.proofs.Distinct.{Contains-at}
use Rattle.net_rules.proofs.Named.{IsNamed}
use Rattle.net_rules.proofs.LinksApart.{links_apart}
use Rattle.net_build.proofs.ValidRows.{AreKnown, valid_face, valid_link, few_faces, faces_named_apart}
use Rattle.net_build.proofs.ValidLists.{packet_lists, route_lists, packet_lists_apart, route_lists_apart}
use Rattle.net_build.proofs.ValidSessions.{sessions_valid, sessions_apart, fits_protocol}
use Rattle.arc_base.proofs.Zips.{AllZip-left, AllZip-length}

module _ (doc : Document) (configs : List Config) (net : Network) (k : AreKnown doc configs net) (named : All IsNamed configs)
    (hosts_differ : AllPairs (λ f g. host_name f ≢ host_name g) configs) (rows : AreRows doc configs net) where
  router_at : (i : ℕ) (row : RouterRow) → slice_get net.routers i ≡ Some row → (config : Config) × (slice_get configs i ≡ Some config) × IsRouterRow net.protocol config row
  router_at i row at = AllZip-left (IsRouterRow net.protocol) configs net.routers k.rows.routers i row at

  name_form : (config : Config) → IsNamed config → IsWellFormed config → IsName (host_name config)
  name_form config is wf = by config.hostname is wf.hostname
    where
      by : (o : Option Setting) → IsSome o → IfSome o (λ s. IsName s.name) → IsName (option_map_or (λ (s : Setting). s.name) o [])
      by None is form = absurd (false≢true is)
      by (Some s) is form = form

  router_names : All (λ r. IsName r.name) net.routers
  router_names i d l =
      let c = router_at i (get_or net.routers i d) (slice_get-get_or net.routers i d l) in
      let there = Contains-at configs i c.0 c.1 in
      subst IsName (sym c.2.name) (name_form c.0 (All-contains IsNamed configs c.0 named there) (All-contains IsWellFormed configs c.0 k.well_formed there))

  routers_named_apart : AllPairs (λ r s. r.name ≢ s.name) net.routers
  routers_named_apart i j d l m same =
      let c = router_at i (get_or net.routers i d) (slice_get-get_or net.routers i d (omega arith)) in
      let e = router_at j (get_or net.routers j d) (slice_get-get_or net.routers j d m) in
      let name : host_name c.0 ≡ host_name e.0 = sym c.2.name ∙ same ∙ e.2.name in
      let at_c : get_or configs i c.0 ≡ c.0 = get_or_from_slice_get configs i c.0 c.0 c.1 in
      let at_e : get_or configs j c.0 ≡ e.0 = get_or_from_slice_get configs j e.0 c.0 e.1 in
      hosts_differ i j c.0 l (slice_get_within configs j e.0 e.1) (ap host_name at_c ∙ name ∙ sym (ap host_name at_e))

  pub valid : length configs ≤ 256 → length doc.links ≤ 1024 →
      ((i j : ℕ) (f g : FaceRow) → slice_get net.faces i ≡ Some f → slice_get net.faces j ≡ Some g → i ≢ j → AreLinked net i j ⊎ AreApart f g) → IsValid net
  valid few_configs few_links clear = record {
    faces = valid_face doc configs net k;
    links = valid_link doc configs net k;
    links_apart = links_apart doc configs k.clear net k.rows;
    sessions = sessions_valid doc configs net k net.protocol rows.sessions;
    sessions_apart = sessions_apart doc configs net k clear net.protocol rows.sessions;
    subnets = clear;
    few_routers = omega (arith, AllZip-length (IsRouterRow net.protocol) configs net.routers k.rows.routers, few_configs);
    few_links = omega (arith, AllZip-length (IsLinkRow (full_names configs)) doc.links net.links k.rows.links, few_links);
    few_faces = few_faces doc configs net k;
    router_names = router_names;
    routers_named_apart = routers_named_apart;
    faces_named_apart = faces_named_apart doc configs net k;
    packet_lists = packet_lists doc configs net k;
    packet_lists_named_apart = packet_lists_apart doc configs net k;
    route_lists = route_lists doc configs net k;
    route_lists_named_apart = route_lists_apart doc configs net k;
    protocol = fits_protocol doc configs net k net.protocol refl rows.sessions;
  }

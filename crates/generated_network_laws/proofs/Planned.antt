-- The links and the host networks of a generated network's files are those that its number describes.
use Rattle.std.proofs.Common.{◌≡◌, ℕ, ◌+◌, ◌-◌, ◌*◌, ◌/◌, ◌%◌, ◌^◌, ◌<◌, ◌≤◌, ◌==◌, inr, true, false, Option, Some, None, List, [], ◌∷◌, length, map, refl, sym, ap, subst, ◌∙◌, arith}
use Rattle.std.specs.Prelude.{slice_get, IsSomeAnd, option_map}
use Rattle.std.proofs.lemmas.Bool.{cond-true, cond-false, eq-eqb, ne_eqb}
use Rattle.std.proofs.lemmas.Option.{none-some, same_Some, slice_get-map}
use Rattle.arc_base.specs.declared.prefix.Prefix.{Prefix}
use Rattle.arc_base.specs.Addresses.{Holds}
use Rattle.arc_base.proofs.Items as items
use Rattle.net_model.specs.declared.policies.Document.{Document}
use Rattle.net_model.specs.declared.policies.LinkText.{LinkText}
use Rattle.net_model.specs.declared.rows.LinkRow.{LinkRow}
use Rattle.net_model.specs.declared.rows.Network.{Network}
use Rattle.net_model.specs.declared.rows.Protocol.{Protocol}
use Rattle.net_model.specs.declared.rows.Protocol.TheVariants.{Ospf}
use Rattle.ios_words.specs.declared.commands.Command.{Command}
use Rattle.ios_words.specs.declared.commands.Command.TheVariants as commands
use Rattle.ios_words.specs.Prefixes.{holding, whole}
use Rattle.ios_config.specs.declared.settings.Config.{Config}
use Rattle.ios_config.specs.declared.settings.FaceText.{FaceText}
use Rattle.ios_config.specs.declared.settings.Given.{Given}
use Rattle.net_rules.specs.Lists.{packet_list_key}
use Rattle.net_rules.specs.Rows.{IsFaceRow, IsLinkRow, AreRows}
use Rattle.net_rules.specs.Settings.{address_of, CommandCovers, IsEnabled, IsPrefixAt, is_passive, is_up, lines_of}
use Rattle.net_rules.specs.Sites.{Site, sites, full_name, full_names, ends_of}
use Rattle.net_gen.specs.Generated.{link_text, IsGeneratedHostNetwork}
use Rattle.net_gen.specs.RouterFiles.{address}
use Rattle.net_gen.specs.Plans.{link_count, a_router, b_router, has_end}
use Rattle.generated_network_laws.specs.Plans.{IsEndAt, JoinsRouters, HasHostNetwork}
use Rattle.generated_network_laws.proofs.EndpointsClear.{host-place}
use Rattle.generated_network_laws.proofs.Faces.{site-is, end_name, link-site, site_at}
use Rattle.generated_network_laws.proofs.Files.{end_of}
use Rattle.generated_network_laws.proofs.FilesClear.{protocol-is}
use Rattle.generated_network_laws.proofs.Items.{any-of}
use Rattle.arc_base.proofs.Zips.{AllZip-left, AllZip-right}
use Rattle.generated_network_laws.proofs.LinksClear.{all_links, prefix-facts, site-of-row}
use Rattle.generated_network_laws.proofs.Plans.{mapped-at, a-has, b-has, two-ends, count-few}
use Rattle.generated_network_laws.proofs.Said.{links_of, settings_of, all_settings}
use Rattle.generated_network_laws.proofs.Settings.{host_face, link_face}

-- the prefix of all addresses holds each
whole-holds : (addr : ℕ) → addr < 2 ^ 32 → Holds whole addr
unfolding holding
whole-holds addr small = eq-eqb (addr / 2 ^ 32) (0 / 2 ^ 32) (omega arith)

-- an interface of a router's file takes part in OSPF
is-enabled : (n router at link end : ℕ) (face : FaceText) → link < 256 → end < 256 → face ≡ link_face n router at link → end ≡ end_of n router link → IsEnabled (lines_of (settings_of n router)) face
is-enabled n router at link end face few small is same =
    let a = address 0 link (end_of n router link) in
    let low : a < 2 ^ 32 = let e = same in omega arith in
    let covers : Given Command = record { value = commands.Covers whole 0; line = 5 + 3 * length (links_of n router) + 2 } in
    subst (λ (f : FaceText). IsEnabled (lines_of (settings_of n router)) f) (sym is)
    (inr (any-of (λ (g : Given Command). CommandCovers a g.value) (covers ∷ []) covers (items.Contains-head covers []) (whole-holds a low)))

-- what stands at a place of a mapped list
mapped-from : {X Y : Type 0} (f : X → Y) (o : Option X) (y : Y) → option_map f o ≡ Some y → (x : X) × (o ≡ Some x) × (f x ≡ y)
mapped-from f None y is = absurd (none-some y is)
mapped-from f (Some x) y is = (x, refl, same_Some (f x) y is)

module _ (n : ℕ) (doc : Document) (net : Network) (rows : AreRows doc (all_settings n) net) (some : 6 ≤ n) (few : n ≤ 40) (links : doc.links ≡ all_links n) where
  ospf : net.protocol ≡ Ospf
  ospf = rows.base.protocol ∙ protocol-is n (omega arith)

  end-is : (router link end place : ℕ) → router ≤ n → 1 ≤ link → link ≤ link_count n → has_end n router link ≡ true → end_of n router link ≡ end → end < 4 →
      slice_get (full_names (all_settings n)) place ≡ Some (end_name n router link) → IsEndAt n net router link end place
  end-is router link end place high low most has is-end small named =
      let site = mapped-from full_name (slice_get (sites (all_settings n)) place) (end_name n router link) (sym (slice_get-map full_name (sites (all_settings n)) place) ∙ named) in
      let row = AllZip-right (IsFaceRow net.protocol (ends_of doc.links) (map packet_list_key net.packet_lists)) (sites (all_settings n)) net.faces rows.base.faces place site.0 site.1 in
      let facts = row.2 in
      let h = site-is n place site.0 site.1 in
      let over = link-site n router link site.0 few h high low most has site.2 in
      let number : router ≡ 1 + site.0.router = over.own in
      let own : h.router ≡ router = h.place ∙ sym over.own in
      let config : site.0.config ≡ settings_of n router = h.config ∙ ap (settings_of n) own in
      let place-is : row.0.router.0 ≡ site.0.router = facts.router in
      let count = count-few n few in
      let enabled : IsEnabled (lines_of site.0.config) site.0.face =
      subst (λ (c : Config). IsEnabled (lines_of c) site.0.face) (sym config) (is-enabled n router over.at link end site.0.face (omega arith) (omega arith) over.is (sym is-end)) in
      let passive : is_passive net.protocol (lines_of site.0.config) site.0.face.name ≡ false =
      ap (λ (p : Protocol). is_passive p (lines_of site.0.config) site.0.face.name) ospf ∙ ap (λ (c : Config). is_passive Ospf (lines_of c) site.0.face.name) config in
      let value : address 0 link (end_of n router link) ≡ 10 * 2 ^ 24 + link * 2 ^ 8 + end = omega arith in
      record {
        face = row.0;
        at_place = row.1;
        own = omega arith;
        name = facts.name ∙ ap (λ (f : FaceText). f.name) over.is;
        addr = facts.addr ∙ ap (λ (f : FaceText). option_map (λ (a : ℕ × ℕ). a.0) (address_of f)) over.is ∙ ap Some value;
        up = facts.up ∙ ap is_up over.is;
        enabled = facts.enabled.1 enabled;
        passive = facts.passive ∙ passive;
      }

  pub joins : (place : ℕ) (row : LinkRow) → slice_get net.links place ≡ Some row → JoinsRouters n net (place + 1) row
  joins place row at =
      let text = AllZip-left (IsLinkRow (full_names (all_settings n))) doc.links net.links rows.base.links place row at in
      let there : slice_get (all_links n) place ≡ Some text.0 = subst (λ (ls : List LinkText). slice_get ls place ≡ Some text.0) links text.1 in
      let item = mapped-at (link_text n) 1 (link_count n) place text.0 there in
      let low : place < link_count n = item.0 in
      let number : 1 + place ≡ place + 1 = omega arith in
      let link = place + 1 in
      let is : IsLinkRow (full_names (all_settings n)) (link_text n link) row =
      subst (λ (l : ℕ). IsLinkRow (full_names (all_settings n)) (link_text n l) row) number (subst (λ (t : LinkText). IsLinkRow (full_names (all_settings n)) t row) (sym item.1) text.2) in
      let ends = two-ends n link some (omega arith) (omega arith) in
      let a = a_router n link in
      let b = b_router n link in
      let end-a : end_of n a link ≡ 1 = cond-true (a == a) 1 2 (eq-eqb a a refl) in
      let end-b : end_of n b link ≡ 2 = cond-false (a == b) 1 2 (ne_eqb a b ends.apart) in
      record {
        a = end-is a link 1 row.a.0 ends.a_high (omega arith) (omega arith) (a-has n link) end-a (omega arith) is.a;
        b = end-is b link 2 row.b.0 ends.b_high (omega arith) (omega arith) (b-has n link) end-b (omega arith) is.b;
        waypoint = is.waypoint;
      }

  pub has-host : (router : ℕ) → 1 ≤ router → router ≤ n → HasHostNetwork net router
  has-host router low high =
      let h = host-place n doc net router rows some few links low high in
      let s = site-of-row n doc net rows few h.place h.row h.at_row in
      let same : s.0 ≡ site_at n router (host_face router) = same_Some s.0 (site_at n router (host_face router)) (sym s.1 ∙ h.at_site) in
      let own : h.row.router.0 ≡ router - 1 = s.2.router ∙ ap (λ (x : Site). x.router) same in
      record { place = h.place; face = h.row; at_place = h.at_row; own = omega arith; host = as-host h.row.host h.host }
    where
      as-host : (o : Option Prefix) → IsSomeAnd o (IsPrefixAt (address router 0 1) 24) → IsSomeAnd o (IsGeneratedHostNetwork router)
      as-host None is = is
      as-host (Some q) is =
          let facts = prefix-facts (address router 0 1) 24 q is in
          let clear : q.addr % 256 ≡ 0 = facts.0 in
          let block : address router 0 1 / 256 ≡ q.addr / 256 = facts.1 in
          record { addr = omega arith; len = is.0 }

-- The policies of a generated network go between two of its host networks.
use Rattle.std.proofs.Common.{◌≡◌, ◌≢◌, ℕ, ◌+◌, ◌-◌, ◌*◌, ◌/◌, ◌^◌, ◌<◌, ◌≤◌, ◌==◌, inl, inr, true, Option, Some, None, List, [], length, take, map, sym, ap, subst, ◌∙◌, arith, Contains}
use Rattle.std.specs.Prelude.{slice_get, IsSomeAnd}
use Rattle.std.specs.List.{AllZip}
use Rattle.std.proofs.lemmas.Bool.{eqb-true, eq-eqb}
use Rattle.std.proofs.lemmas.List.{take_all, length-map}
use Rattle.std.proofs.lemmas.List.FromFn.{length-range_with_len}
use Rattle.std.proofs.lemmas.List.Elements.{Contains-append_cases}
use Rattle.std.proofs.lemmas.Option.{same_Some}
use Rattle.arc_base.specs.declared.prefix.Prefix.{Prefix}
use Rattle.arc_base.specs.Addresses.{IsInside}
use Rattle.arc_base.proofs.Items as items
use Rattle.net_model.specs.declared.policies.Document.{Document}
use Rattle.net_model.specs.declared.policies.LinkText.{LinkText}
use Rattle.net_model.specs.declared.rows.FaceRow.{FaceRow}
use Rattle.net_model.specs.declared.rows.Network.{Network}
use Rattle.net_model.specs.declared.rows.Protocol.{Protocol}
use Rattle.net_model.specs.declared.rows.Protocol.TheVariants.{Ospf}
use Rattle.net_model.specs.Forwarding.{IsHostOf}
use Rattle.net_rules.specs.Addressing.{RefusesEndpoint}
use Rattle.net_rules.specs.Lists.{packet_list_key}
use Rattle.net_rules.specs.Reasons.{NoRefusal}
use Rattle.net_rules.specs.Rows.{IsFaceRow, AreRows, IsSubnet, host_address_of}
use Rattle.net_rules.specs.Settings.{IsPrefixAt}
use Rattle.net_rules.specs.Sites.{Site, sites, full_name, ends_of}
use Rattle.net_rules.proofs.Distinct.{at_Contains, Contains-at}
use Rattle.net_gen.specs.Plans.{numbers, link_count, a_router, b_router, port}
use Rattle.net_gen.specs.RouterFiles.{host_name, face_name, address}
use Rattle.net_gen.specs.Generated.{link_text, IsGeneratedHostNetwork, Asked, asked, asked_around, Asks}
use Rattle.generated_network_laws.proofs.Faces.{site_at, has-site}
use Rattle.generated_network_laws.proofs.FilesClear.{protocol-is}
use Rattle.arc_base.proofs.Zips.{AllZip-left, AllZip-right}
use Rattle.generated_network_laws.proofs.LinksClear.{all_links, block_of, prefix-facts, earlier-end}
use Rattle.generated_network_laws.proofs.Once.{face-name-one}
use Rattle.generated_network_laws.proofs.Plans.{in-range, port-some, port-few, a-has, b-has, next-is, count-few}
use Rattle.generated_network_laws.proofs.Said.{links_of, all_settings}
use Rattle.generated_network_laws.proofs.Settings.{host_face, link_faces}

-- what is asked goes between two routers
pub record IsApart (n : ℕ) (asked : Asked) : Type 0 where
  pub source_low : 1 ≤ asked.source
  pub source_high : asked.source ≤ n
  pub target_low : 1 ≤ asked.target
  pub target_high : asked.target ≤ n
  pub apart : asked.source ≢ asked.target

asked-apart : (n : ℕ) (a : Asked) → 6 ≤ n → Contains (asked n) a → IsApart n a
asked-apart n a some there = elim (Contains-append_cases (map (asked_around n) (numbers n)) _ a there) [
  | inl around ↦
      let from = items.from_map (asked_around n) (numbers n) a around in
      let ranged = in-range 1 n from.0 from.1 in
      let low : 1 ≤ from.0 = ranged.0 in
      let high : from.0 < 1 + n = ranged.1 in
      let after = next-is n from.0 (omega arith) low (omega arith) in
      subst (IsApart n) from.2 (record { source_low = low; source_high = omega arith; target_low = after.1; target_high = after.0; apart = after.2 })
  | inr last ↦ elim (items.Contains-cases _ a [] last) [
    | inl here ↦ subst (IsApart n) here (record { source_low = omega arith; source_high = omega arith; target_low = omega arith; target_high = omega arith; apart = λ same. omega arith })
    | inr none ↦ absurd (items.Contains-none a none)
  ]
]

-- the interface to a host network is no link's end
no-end : (n router : ℕ) → n ≤ 40 → ¬ Contains (ends_of (all_links n)) (host_name router, face_name 0)
no-end n router few there =
    let count = count-few n few in
    let long : length (all_links n) ≡ link_count n = length-map (numbers (link_count n)) (link_text n) ∙ length-range_with_len 1 (link_count n) in
    let whole : take (link_count n) (all_links n) ≡ all_links n = take_all (link_count n) (all_links n) (omega arith) in
    let early = earlier-end n (link_count n) (host_name router, face_name 0) (omega arith) (subst (λ (ls : List LinkText). Contains (ends_of ls) (host_name router, face_name 0)) (sym whole) there) in
    let k = early.0 in
    let low : 1 ≤ k = early.1 in
    let high : k < 1 + link_count n = early.2 in
    elim early.3 [
      | inl a ↦
          let small = port-few n (a_router n k) k in
          let some = port-some n (a_router n k) k low (a-has n k) in
          let none = face-name-one (port n (a_router n k) k) 0 (omega arith) (omega arith) (ap (λ (e : _ × _). e.1) a) in
          omega arith
      | inr b ↦
          let small = port-few n (b_router n k) k in
          let some = port-some n (b_router n k) k low (b-has n k) in
          let none = face-name-one (port n (b_router n k) k) 0 (omega arith) (omega arith) (ap (λ (e : _ × _). e.1) b) in
          omega arith
    ]

-- the interface to a router's host network
pub record HostPlace (n : ℕ) (net : Network) (router : ℕ) : Type 0 where
  pub place : ℕ
  pub at_site : slice_get (sites (all_settings n)) place ≡ Some (site_at n router (host_face router))
  pub row : FaceRow
  pub at_row : slice_get net.faces place ≡ Some row
  pub host : IsSomeAnd row.host (IsPrefixAt (address router 0 1) 24)

pub host-place : (n : ℕ) (doc : Document) (net : Network) (router : ℕ) → AreRows doc (all_settings n) net → 6 ≤ n → n ≤ 40 → doc.links ≡ all_links n → 1 ≤ router → router ≤ n → HostPlace n net router
host-place n doc net router rows some few links low high =
    let site = site_at n router (host_face router) in
    let there = has-site n router (host_face router) low high (items.Contains-head (host_face router) (link_faces n router 5 (links_of n router))) in
    let place = at_Contains (sites (all_settings n)) site there in
    let row = AllZip-right (IsFaceRow net.protocol (ends_of doc.links) (map packet_list_key net.packet_lists)) (sites (all_settings n)) net.faces rows.base.faces place.0 site place.1 in
    let ospf : net.protocol ≡ Ospf = rows.base.protocol ∙ protocol-is n (omega arith) in
    let subnet : IsSubnet (host_address_of net.protocol (host_face router)) row.0.host =
    row.2.host.elsewhere (λ end. no-end n router few (subst (λ (ls : List LinkText). Contains (ends_of ls) (full_name site)) links end)) in
    record {
      place = place.0;
      at_site = place.1;
      row = row.0;
      at_row = row.1;
      host = subst (λ (p : Protocol). IsSubnet (host_address_of p (host_face router)) row.0.host) ospf subnet;
    }

lies : (router : ℕ) (p : Prefix) (o : Option Prefix) → IsGeneratedHostNetwork router p → IsSomeAnd o (IsPrefixAt (address router 0 1) 24) → IsSomeAnd o (IsInside p)
lies router p None is host = host
lies router p (Some q) is host = λ a in-p.
    let facts = prefix-facts (address router 0 1) 24 q host in
    let block : address router 0 1 / 256 ≡ q.addr / 256 = facts.1 in
    let here : (block_of 24 a == block_of 24 p.addr) ≡ true = subst (λ l. (block_of l a == block_of l p.addr) ≡ true) is.len in-p in
    let same : a / 256 ≡ p.addr / 256 = eqb-true (block_of 24 a) (block_of 24 p.addr) here in
    let first : p.addr ≡ 10 * 2 ^ 24 + router * 2 ^ 16 = is.addr in
    let inside : (block_of 24 a == block_of 24 q.addr) ≡ true = eq-eqb (a / 256) (q.addr / 256) (omega arith) in
    subst (λ l. (block_of l a == block_of l q.addr) ≡ true) (sym host.0) inside

host-of : (n : ℕ) (net : Network) (router : ℕ) (p : Prefix) (h : HostPlace n net router) → IsGeneratedHostNetwork router p → IsHostOf net p h.place
host-of n net router p h is = record { face = h.row; at_place = h.at_row; lies = lies router p h.row.host is h.host }

pub endpoint-clear : (n : ℕ) (doc : Document) → 6 ≤ n → n ≤ 40 → doc.links ≡ all_links n → AllZip Asks (asked n) doc.policies → NoRefusal (RefusesEndpoint doc (all_settings n))
endpoint-clear n doc some few links policies r refused =
    let bad = refused.refuses in
    let net = refused.net in
    let ask = AllZip-left Asks (asked n) doc.policies policies bad.place bad.item bad.at_place in
    let a = ask.0 in
    let between = asked-apart n a some (Contains-at (asked n) bad.place a ask.1) in
    let source = host-place n doc net a.source refused.rows some few links between.source_low between.source_high in
    let target = host-place n doc net a.target refused.rows some few links between.target_low between.target_high in
    let low-source = between.source_low in
    let low-target = between.target_low in
    let apart : source.place ≢ target.place = λ same.
    let one : site_at n a.source (host_face a.source) ≡ site_at n a.target (host_face a.target) = same_Some _ _ (sym source.at_site ∙ ap (slice_get (sites (all_settings n))) same ∙ target.at_site) in
    let routers : a.source - 1 ≡ a.target - 1 = ap (λ (s : Site). s.router) one in
    between.apart (omega arith) in
    bad.offends (record {
      source = source.place;
      target = target.place;
      from = host-of n net a.source bad.item.from source ask.2.from;
      to =
          host-of n net a.target bad.item.to target ask.2.to;
      apart = apart;
    })

-- The links of a generated network join interfaces that are there and free, and their two ends have one subnet.
use Rattle.std.proofs.Common.{◌≡◌, ◌≢◌, ℕ, ◌+◌, ◌-◌, ◌/◌, ◌%◌, ◌^◌, ◌<◌, ◌≤◌, ◌==◌, ◌⊎◌, inl, inr, true, Option, Some, None, List, [], ◌∷◌, take, map, refl, sym, ap, subst, ◌∙◌, arith, Contains}
use Rattle.std.specs.Prelude.{slice_get, IsSomeAnd, IfSome, option_map}
use Rattle.std.specs.List.{flat_map}
use Rattle.std.proofs.lemmas.Bool.{cond-true, cond-false, eq-eqb, ne_eqb, eqb-true}
use Rattle.std.proofs.lemmas.List.FromFn.{take-map-range_with_len}
use Rattle.std.proofs.lemmas.Option.{same_Some}
use Rattle.arc_base.specs.declared.prefix.Prefix.{Prefix}
use Rattle.arc_base.proofs.Items as items
use Rattle.arc_base.proofs.SamePrefix.{same_prefix}
use Rattle.net_model.specs.declared.policies.Document.{Document}
use Rattle.net_model.specs.declared.policies.LinkText.{LinkText}
use Rattle.net_model.specs.declared.rows.FaceRow.{FaceRow}
use Rattle.net_model.specs.declared.rows.LinkRow.{LinkRow}
use Rattle.net_model.specs.declared.rows.Network.{Network}
use Rattle.ios_config.specs.declared.settings.FaceText.{FaceText}
use Rattle.net_rules.specs.Linking.{JoinsFree, RefusesLinkFace, FitsSubnets, RefusesLinkSubnets}
use Rattle.net_rules.specs.Lists.{packet_list_key}
use Rattle.net_rules.specs.Reasons.{NoRefusal}
use Rattle.net_rules.specs.Rows.{IsFaceRow, IsLinkRow, AreRows, IsSubnet}
use Rattle.net_rules.specs.Settings.{address_of, IsPrefixAt}
use Rattle.net_rules.specs.Sites.{Site, sites, full_name, full_names, two_ends, ends_of}
use Rattle.net_rules.proofs.SiteFacts.{name_at_site}
use Rattle.net_gen.specs.Plans.{numbers, link_count, a_router, b_router, has_end, port}
use Rattle.net_gen.specs.RouterFiles.{address}
use Rattle.net_gen.specs.Generated.{link_text}
use Rattle.generated_network_laws.proofs.Faces.{site-is, end_name, has-end-name, link-site}
use Rattle.generated_network_laws.proofs.Files.{end_of}
use Rattle.arc_base.proofs.Zips.{AllZip-left}
use Rattle.generated_network_laws.proofs.Once.{face-name-one, host-name-one}
use Rattle.generated_network_laws.proofs.Plans.{in-range, mapped-at, port-few, port-one, a-has, b-has, two-ends, count-few}
use Rattle.generated_network_laws.proofs.Said.{all_settings}

-- the document's links
abbrev pub all_links : ℕ → List LinkText
all_links n = map (link_text n) (numbers (link_count n))

-- interfaces over links with one name are one
end-one : (n x k router link : ℕ) → n ≤ 40 → x ≤ n → router ≤ n → k ≤ link_count n → link ≤ link_count n → has_end n x k ≡ true → has_end n router link ≡ true →
    end_name n x k ≡ end_name n router link → k ≡ link
end-one n x k router link few x-high high k-most most x-has has same =
    let count = count-few n few in
    let own : x ≡ router = host-name-one x router (omega arith) (omega arith) (ap (λ (e : _ × _). e.0) same) in
    let one = port-few n x k in
    let two = port-few n router link in
    let ports : port n x k ≡ port n router link = face-name-one (port n x k) (port n router link) (omega arith) (omega arith) (ap (λ (e : _ × _). e.1) same) in
    port-one n router k link (subst (λ r. has_end n r k ≡ true) own x-has) has (subst (λ r. port n r k ≡ port n router link) own ports)

-- the names at the ends of earlier links
pub earlier-end : (n place : ℕ) (name : _) → place ≤ link_count n → Contains (ends_of (take place (all_links n))) name →
    (k : ℕ) × (1 ≤ k) × (k < 1 + place) × ((end_name n (a_router n k) k ≡ name) ⊎ (end_name n (b_router n k) k ≡ name))
earlier-end n place name low there =
    let front : Contains (flat_map two_ends (map (link_text n) (numbers place))) name =
    subst (λ (ls : List LinkText). Contains (ends_of ls) name) (take-map-range_with_len (link_text n) 1 (link_count n) place low) there in
    let piece = items.from_piece two_ends (map (link_text n) (numbers place)) name front in
    let number = items.from_map (link_text n) (numbers place) piece.0 piece.1 in
    let k = number.0 in
    let ranged = in-range 1 place k number.1 in
    let ends : Contains (two_ends (link_text n k)) name = subst (λ (t : LinkText). Contains (two_ends t) name) (sym number.2) piece.2 in
    let which : (end_name n (a_router n k) k ≡ name) ⊎ (end_name n (b_router n k) k ≡ name) =
    elim (items.Contains-cases (end_name n (a_router n k) k) name (end_name n (b_router n k) k ∷ []) ends) [
      | inl here ↦ inl here
      | inr later ↦ elim (items.Contains-cases (end_name n (b_router n k) k) name [] later) [
        | inl here ↦ inr here
        | inr none ↦ absurd (items.Contains-none name none)
      ]
    ] in
    (k, ranged.0, ranged.1, which)

free-end : (n place router : ℕ) → 6 ≤ n → n ≤ 40 → place < link_count n → router ≤ n → has_end n router (1 + place) ≡ true →
    ¬ Contains (ends_of (take place (all_links n))) (end_name n router (1 + place))
free-end n place router some few low high has there =
    let early = earlier-end n place (end_name n router (1 + place)) (omega arith) there in
    let k = early.0 in
    let k-low : 1 ≤ k = early.1 in
    let k-high : k < 1 + place = early.2 in
    let ends = two-ends n k some k-low (omega arith) in
    elim early.3 [
      | inl a ↦ let same = end-one n (a_router n k) k router (1 + place) few ends.a_high high (omega arith) (omega arith) (a-has n k) has a in omega arith
      | inr b ↦ let same = end-one n (b_router n k) k router (1 + place) few ends.b_high high (omega arith) (omega arith) (b-has n k) has b in omega arith
    ]

joins-free : (n place : ℕ) → 6 ≤ n → n ≤ 40 → place < link_count n → JoinsFree (full_names (all_settings n)) (take place (all_links n)) (link_text n (1 + place))
joins-free n place some few low =
    let link = 1 + place in
    let ends = two-ends n link some (omega arith) (omega arith) in
    let a-high : a_router n link ≤ n = ends.a_high in
    let b-high : b_router n link ≤ n = ends.b_high in
    record {
      joins = record {
        a = has-end-name n (a_router n link) link ends.a_low ends.a_high (omega arith) (omega arith) (a-has n link);
        b = has-end-name n (b_router n link) link ends.b_low ends.b_high (omega arith) (omega arith) (b-has n link);
        a_kind = refl;
        b_kind = refl;
        routers = λ same. ends.apart (host-name-one (a_router n link) (b_router n link) (omega arith) (omega arith) same);
      };
      a_free = free-end n place (a_router n link) some few low ends.a_high (a-has n link);
      b_free = free-end n place (b_router n link) some few low ends.b_high (b-has n link);
    }

pub faces-clear : (n : ℕ) (doc : Document) → 6 ≤ n → n ≤ 40 → doc.links ≡ all_links n → NoRefusal (RefusesLinkFace doc (all_settings n))
faces-clear n doc some few links r refused =
    let place = refused.place in
    let there : slice_get (all_links n) place ≡ Some refused.item = subst (λ (ls : List LinkText). slice_get ls place ≡ Some refused.item) links refused.at_place in
    let at = mapped-at (link_text n) 1 (link_count n) place refused.item there in
    let free = joins-free n place some few at.0 in
    refused.offends (subst (λ (ls : List LinkText). JoinsFree (full_names (all_settings n)) (take place ls) refused.item) (sym links)
    (subst (λ (t : LinkText). JoinsFree (full_names (all_settings n)) (take place (all_links n)) t) at.1 free))

-- what a prefix at an address is
abbrev pub block_of : ℕ → ℕ → ℕ
block_of len address = address / 2 ^ (32 - len)

pub prefix-facts : (x len : ℕ) (p : Prefix) → IsPrefixAt x len p → (p.addr % 2 ^ (32 - len) ≡ 0) × (block_of len x ≡ block_of len p.addr)
prefix-facts x len p is =
    let clear : p.addr % 2 ^ (32 - len) ≡ 0 = subst (λ l. p.addr % 2 ^ (32 - l) ≡ 0) is.0 p.clear in
    let holds-it : (block_of len x == block_of len p.addr) ≡ true = subst (λ l. (block_of l x == block_of l p.addr) ≡ true) is.0 is.1 in
    (clear, eqb-true (block_of len x) (block_of len p.addr) holds-it)

-- one subnet for both ends of a link
one-subnet : (x y : ℕ) (o q : Option Prefix) → x / 4 ≡ y / 4 → IsSomeAnd o (IsPrefixAt x 30) → IsSomeAnd q (IsPrefixAt y 30) → o ≡ q
one-subnet x y None q same one two = absurd one
one-subnet x y (Some p) None same one two = absurd two
one-subnet x y (Some p) (Some q) same one two =
    let facts-p = prefix-facts x 30 p one in
    let facts-q = prefix-facts y 30 q two in
    let clear-p : p.addr % 4 ≡ 0 = facts-p.0 in
    let clear-q : q.addr % 4 ≡ 0 = facts-q.0 in
    let block-p : x / 4 ≡ p.addr / 4 = facts-p.1 in
    let block-q : y / 4 ≡ q.addr / 4 = facts-q.1 in
    let same-addr : p.addr ≡ q.addr = omega arith in
    ap Some (same_prefix p q same-addr (one.0 ∙ sym two.0))

-- the row of an interface over a link
pub record IsLinkFace (n router link : ℕ) (row : FaceRow) : Type 0 where
  pub addr : row.addr ≡ Some (address 0 link (end_of n router link))
  pub subnet : IsSomeAnd row.subnet (IsPrefixAt (address 0 link (end_of n router link)) 30)

module _ (n : ℕ) (doc : Document) (net : Network) (rows : AreRows doc (all_settings n) net) (few : n ≤ 40) where
  -- the interface of a row, and what the row says of it
  pub site-of-row : (k : ℕ) (f : FaceRow) → slice_get net.faces k ≡ Some f →
      (site : Site) × (slice_get (sites (all_settings n)) k ≡ Some site) × IsFaceRow net.protocol (ends_of doc.links) (map packet_list_key net.packet_lists) site f
  site-of-row k f at = AllZip-left (IsFaceRow net.protocol (ends_of doc.links) (map packet_list_key net.packet_lists)) (sites (all_settings n)) net.faces rows.base.faces k f at

  named-row : (k router link : ℕ) (f : FaceRow) → router ≤ n → 1 ≤ link → link ≤ link_count n → has_end n router link ≡ true →
      slice_get (full_names (all_settings n)) k ≡ Some (end_name n router link) → slice_get net.faces k ≡ Some f → IsLinkFace n router link f
  named-row k router link f high some most has named at =
      let s = site-of-row k f at in
      let h = site-is n k s.0 s.1 in
      let name : full_name s.0 ≡ end_name n router link = same_Some (full_name s.0) (end_name n router link) (sym (name_at_site (all_settings n) k s.0 s.1) ∙ named) in
      let over = link-site n router link s.0 few h high some most has name in
      record {
        addr = s.2.addr ∙ ap (λ (face : FaceText). option_map (λ (a : ℕ × ℕ). a.0) (address_of face)) over.is;
        subnet = subst (λ (face : FaceText). IsSubnet (address_of face) f.subnet) over.is s.2.subnet;
      }

  fits : (place : ℕ) (row : LinkRow) → 6 ≤ n → place < link_count n → IsLinkRow (full_names (all_settings n)) (link_text n (1 + place)) row → FitsSubnets net row
  fits place row some low is f g at-f at-g =
      let link = 1 + place in
      let ends = two-ends n link some (omega arith) (omega arith) in
      let a = a_router n link in
      let b = b_router n link in
      let one = named-row row.a.0 a link f ends.a_high (omega arith) (omega arith) (a-has n link) is.a at-f in
      let two = named-row row.b.0 b link g ends.b_high (omega arith) (omega arith) (b-has n link) is.b at-g in
      let end-a : end_of n a link ≡ 1 = cond-true (a == a) 1 2 (eq-eqb a a refl) in
      let end-b : end_of n b link ≡ 2 = cond-false (a == b) 1 2 (ne_eqb a b ends.apart) in
      let x = address 0 link (end_of n a link) in
      let y = address 0 link (end_of n b link) in
      let other : x ≢ y = λ same. omega arith in
      let block : x / 4 ≡ y / 4 = omega arith in
      subst (λ (o : Option ℕ). IfSome o (λ x. IfSome g.addr (λ y. (x ≢ y) × (f.subnet ≡ g.subnet)))) (sym one.addr)
      (subst (λ (o : Option ℕ). IfSome o (λ y. (x ≢ y) × (f.subnet ≡ g.subnet))) (sym two.addr) (other, one-subnet x y f.subnet g.subnet block one.subnet two.subnet))

pub subnets-clear : (n : ℕ) (doc : Document) → 6 ≤ n → n ≤ 40 → doc.links ≡ all_links n → NoRefusal (RefusesLinkSubnets doc (all_settings n))
subnets-clear n doc some few links r refused =
    let net = refused.net in
    let bad = refused.refuses in
    let text = AllZip-left (IsLinkRow (full_names (all_settings n))) doc.links net.links refused.rows.base.links bad.place bad.item bad.at_place in
    let there : slice_get (all_links n) bad.place ≡ Some text.0 = subst (λ (ls : List LinkText). slice_get ls bad.place ≡ Some text.0) links text.1 in
    let at = mapped-at (link_text n) 1 (link_count n) bad.place text.0 there in
    bad.offends (fits n doc net refused.rows few bad.place bad.item some at.0 (subst (λ (t : LinkText). IsLinkRow (full_names (all_settings n)) t bad.item) (sym at.1) text.2))

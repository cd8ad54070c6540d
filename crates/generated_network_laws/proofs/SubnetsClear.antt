-- No two interfaces of a generated network overlap, and its policies go between host networks.
use Rattle.std.proofs.Common.{◌≡◌, ◌≢◌, ℕ, ◌+◌, ◌-◌, ◌/◌, ◌<◌, ◌≤◌, ◌==◌, ◌⊎◌, inl, inr, Bool, true, false, Option, Some, List, sym, ap, subst, ◌∙◌, arith, ⊎_elim, if◌then◌else◌}
use Rattle.std.specs.Prelude.{slice_get, IsSomeAnd, IfSome}
use Rattle.std.proofs.lemmas.Bool.{cases_eq, eqb-true}
use Rattle.arc_base.specs.declared.prefix.Prefix.{Prefix}
use Rattle.arc_base.specs.Addresses.{AreDisjoint}
use Rattle.net_model.specs.declared.policies.Document.{Document}
use Rattle.net_model.specs.declared.policies.LinkText.{LinkText}
use Rattle.net_model.specs.declared.rows.FaceRow.{FaceRow}
use Rattle.net_model.specs.declared.rows.LinkRow.{LinkRow}
use Rattle.net_model.specs.declared.rows.Network.{Network}
use Rattle.net_model.specs.Validity.{EndsAt, AreLinked, AreApart}
use Rattle.ios_config.specs.declared.settings.FaceText.{FaceText}
use Rattle.net_rules.specs.Addressing.{RefusesOverlap}
use Rattle.net_rules.specs.Reasons.{NoRefusal}
use Rattle.net_rules.specs.Rows.{IsLinkRow, AreRows, IsSubnet}
use Rattle.net_rules.specs.Settings.{address_of, IsPrefixAt}
use Rattle.net_rules.specs.Sites.{Site, sites, full_names}
use Rattle.net_rules.proofs.Distinct.{one_place, Contains-at}
use Rattle.net_rules.proofs.SiteFacts.{name_at_site}
use Rattle.net_build.proofs.NetworkTried.{turn_apart}
use Rattle.net_gen.specs.Plans.{link_count, a_router, has_end}
use Rattle.net_gen.specs.RouterFiles.{host_name, face_name, address}
use Rattle.net_gen.specs.Generated.{link_text}
use Rattle.generated_network_laws.proofs.Faces.{IsOverLink, HasSite, site-is, end_name, name-of, names-apart, one-site}
use Rattle.generated_network_laws.proofs.Files.{end_of}
use Rattle.generated_network_laws.proofs.Items.{any-of}
use Rattle.arc_base.proofs.Zips.{AllZip-right}
use Rattle.generated_network_laws.proofs.LinksClear.{all_links, block_of, prefix-facts, site-of-row}
use Rattle.generated_network_laws.proofs.Plans.{at-mapped, ends-are, count-few}
use Rattle.generated_network_laws.proofs.Said.{all_settings}

-- prefixes at addresses that have no address in common
disjoint : (x len y other : ℕ) (o q : Option Prefix) → ((a : ℕ) → block_of len a ≡ block_of len x → block_of other a ≡ block_of other y → ⊥) →
    IsSomeAnd o (IsPrefixAt x len) → IsSomeAnd q (IsPrefixAt y other) → IfSome o (λ p. IfSome q (AreDisjoint p))
disjoint x len y other (Some p) (Some q) never one two = λ a in-p in-q.
    let facts-p = prefix-facts x len p one in
    let facts-q = prefix-facts y other q two in
    let here : (block_of len a == block_of len p.addr) ≡ true = subst (λ l. (block_of l a == block_of l p.addr) ≡ true) one.0 in-p in
    let there : (block_of other a == block_of other q.addr) ≡ true = subst (λ l. (block_of l a == block_of l q.addr) ≡ true) two.0 in-q in
    never a (eqb-true (block_of len a) (block_of len p.addr) here ∙ sym facts-p.1) (eqb-true (block_of other a) (block_of other q.addr) there ∙ sym facts-q.1)
disjoint x len y other o n never one two = tt

end-few : (n router link : ℕ) → end_of n router link < 4
end-few n router link = by (a_router n link == router)
  where
    by : (b : Bool) → (if b then 1 else 2) < 4
    by true = omega arith
    by false = omega arith

-- two host networks; a host network and the subnet of a link; the subnets of two links
hosts-never : (r s a : ℕ) → r ≢ s → a / 256 ≡ address r 0 1 / 256 → a / 256 ≡ address s 0 1 / 256 → ⊥
hosts-never r s a other one two = omega arith

host-link-never : (r link end a : ℕ) → 1 ≤ r → link < 256 → end < 4 → a / 256 ≡ address r 0 1 / 256 → a / 4 ≡ address 0 link end / 4 → ⊥
host-link-never r link end a some few small one two = omega arith

links-never : (l m end last a : ℕ) → l ≢ m → end < 4 → last < 4 → a / 4 ≡ address 0 l end / 4 → a / 4 ≡ address 0 m last / 4 → ⊥
links-never l m end last a other small few one two = omega arith

module _ (n : ℕ) (doc : Document) (net : Network) (rows : AreRows doc (all_settings n) net) (some : 6 ≤ n) (few : n ≤ 40) (links : doc.links ≡ all_links n) where
  -- the link ends at the interface of that name
  end-at : (row : LinkRow) (k router link : ℕ) → IsLinkRow (full_names (all_settings n)) (link_text n link) row → has_end n router link ≡ true →
      slice_get (full_names (all_settings n)) k ≡ Some (end_name n router link) → EndsAt row k
  end-at row k router link is has named = elim (ends-are n router link has) [
    | inl a ↦ inl (one_place (full_names (all_settings n)) row.a.0 k (end_name n router link) (names-apart n few) (is.a ∙ ap (λ (r : ℕ). Some (end_name n r link)) a) named)
    | inr b ↦ inr (one_place (full_names (all_settings n)) row.b.0 k (end_name n router link) (names-apart n few) (is.b ∙ ap (λ (r : ℕ). Some (end_name n r link)) b) named)
  ]

  named-over : (k : ℕ) (site : Site) (h : HasSite n site) (over : IsOverLink n h.router site.face) → slice_get (sites (all_settings n)) k ≡ Some site →
      slice_get (full_names (all_settings n)) k ≡ Some (end_name n h.router over.link)
  named-over k site h over at = name_at_site (all_settings n) k site at ∙ ap Some (name-of n site h ∙ ap (λ (f : FaceText). (host_name h.router, f.name)) over.is)

  linked : (i j r s link : ℕ) → 1 ≤ link → link ≤ link_count n → has_end n r link ≡ true → has_end n s link ≡ true →
      slice_get (full_names (all_settings n)) i ≡ Some (end_name n r link) → slice_get (full_names (all_settings n)) j ≡ Some (end_name n s link) → AreLinked net i j
  linked i j r s link low most r-has s-has at-i at-j =
      let k = link - 1 in
      let number : 1 + k ≡ link = omega arith in
      let there : slice_get doc.links k ≡ Some (link_text n (1 + k)) =
      subst (λ (ls : List LinkText). slice_get ls k ≡ Some (link_text n (1 + k))) (sym links) (at-mapped (link_text n) 1 (link_count n) k (omega arith)) in
      let row = AllZip-right (IsLinkRow (full_names (all_settings n))) doc.links net.links rows.base.links k (link_text n (1 + k)) there in
      let is : IsLinkRow (full_names (all_settings n)) (link_text n link) row.0 = subst (λ (l : ℕ). IsLinkRow (full_names (all_settings n)) (link_text n l) row.0) number row.2 in
      any-of (λ (l : LinkRow). EndsAt l i × EndsAt l j) net.links row.0 (Contains-at net.links k row.0 row.1) (end-at row.0 i r link is r-has at-i, end-at row.0 j s link is s-has at-j)

  module _ (i j : ℕ) (f g : FaceRow) (at-f : slice_get net.faces i ≡ Some f) (at-g : slice_get net.faces j ≡ Some g) (apart : i ≢ j) where
    clear-pair : AreLinked net i j ⊎ AreApart f g
    clear-pair =
        let one = site-of-row n doc net rows few i f at-f in
        let two = site-of-row n doc net rows few j g at-g in
        let h = site-is n i one.0 one.1 in
        let k = site-is n j two.0 two.1 in
        let count = count-few n few in
        elim h.face [
          | inl host ↦
              let sub-f : IsSomeAnd f.subnet (IsPrefixAt (address h.router 0 1) 24) = subst (λ (face : FaceText). IsSubnet (address_of face) f.subnet) host one.2.subnet in
              elim k.face [
                | inl other ↦
                    let sub-g : IsSomeAnd g.subnet (IsPrefixAt (address k.router 0 1) 24) = subst (λ (face : FaceText). IsSubnet (address_of face) g.subnet) other two.2.subnet in
                    let differ : h.router ≢ k.router = λ same. apart (one-site n i j one.0 two.0 few one.1 two.1
                    (name-of n one.0 h ∙ ap (λ (x : FaceText). (host_name h.router, x.name)) host ∙ ap (λ (r : ℕ). (host_name r, face_name 0)) same
                    ∙ sym (name-of n two.0 k ∙ ap (λ (x : FaceText). (host_name k.router, x.name)) other))) in
                    inr (disjoint (address h.router 0 1) 24 (address k.router 0 1) 24 f.subnet g.subnet (λ a here there. hosts-never h.router k.router a differ here there) sub-f sub-g)
                | inr over ↦
                    let sub-g : IsSomeAnd g.subnet (IsPrefixAt (address 0 over.link (end_of n k.router over.link)) 30) =
                    subst (λ (face : FaceText). IsSubnet (address_of face) g.subnet) over.is two.2.subnet in
                    let most : over.link ≤ link_count n = over.high in
                    inr (disjoint (address h.router 0 1) 24 (address 0 over.link (end_of n k.router over.link)) 30 f.subnet g.subnet
                    (λ a here there. host-link-never h.router over.link (end_of n k.router over.link) a h.low (omega arith) (end-few n k.router over.link) here there) sub-f sub-g)
              ]
          | inr over ↦
              let sub-f : IsSomeAnd f.subnet (IsPrefixAt (address 0 over.link (end_of n h.router over.link)) 30) =
              subst (λ (face : FaceText). IsSubnet (address_of face) f.subnet) over.is one.2.subnet in
              let most : over.link ≤ link_count n = over.high in
              elim k.face [
                | inl other ↦
                    let sub-g : IsSomeAnd g.subnet (IsPrefixAt (address k.router 0 1) 24) = subst (λ (face : FaceText). IsSubnet (address_of face) g.subnet) other two.2.subnet in
                    inr (turn_apart g.subnet f.subnet (disjoint (address k.router 0 1) 24 (address 0 over.link (end_of n h.router over.link)) 30 g.subnet f.subnet
                    (λ a here there. host-link-never k.router over.link (end_of n h.router over.link) a k.low (omega arith) (end-few n h.router over.link) here there) sub-g sub-f))
                | inr last ↦
                    let sub-g : IsSomeAnd g.subnet (IsPrefixAt (address 0 last.link (end_of n k.router last.link)) 30) =
                    subst (λ (face : FaceText). IsSubnet (address_of face) g.subnet) last.is two.2.subnet in
                    ⊎_elim
                    (λ (same : over.link ≡ last.link).
                    inl (linked i j h.router k.router over.link over.low over.high over.has (subst (λ (l : ℕ). has_end n k.router l ≡ true) (sym same) last.has)
                    (named-over i one.0 h over one.1) (subst (λ (l : ℕ). slice_get (full_names (all_settings n)) j ≡ Some (end_name n k.router l)) (sym same) (named-over j two.0 k last two.1))))
                    (λ (other : over.link ≡ last.link → ⊥).
                    inr (disjoint (address 0 over.link (end_of n h.router over.link)) 30 (address 0 last.link (end_of n k.router last.link)) 30 f.subnet g.subnet
                    (λ a here there. links-never over.link last.link (end_of n h.router over.link) (end_of n k.router last.link) a other (end-few n h.router over.link)
                    (end-few n k.router last.link) here there) sub-f sub-g))
                    (cases_eq over.link last.link)
              ]
        ]

pub overlap-clear : (n : ℕ) (doc : Document) → 6 ≤ n → n ≤ 40 → doc.links ≡ all_links n → NoRefusal (RefusesOverlap doc (all_settings n))
overlap-clear n doc some few links r refused =
    let i = refused.overlaps.0 in
    let low : i < refused.place = refused.overlaps.1 in
    let o = refused.overlaps.2 in
    elim (clear-pair n doc refused.net refused.rows some few links i refused.place o.f o.g o.at_i o.at_j (λ same. omega arith)) [
      | inl linked ↦ o.not_linked linked
      | inr apart ↦ o.not_apart apart
    ]

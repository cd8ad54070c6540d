-- The refusal of the first interface that overlaps one before it.
use Rattle.std.proofs.Common.{◌≡◌, ℕ, ◌+◌, ◌<◌, inl, inr, Option, Some, None, List, refl, sym, ◌∙◌, ap, subst, arith}
use Rattle.std.specs.Prelude.{IfSome, IsSome, IsSomeAnd, slice_get, option_map, option_and_then}
use Rattle.std.specs.Option.{option_map_or}
use Rattle.std.proofs.lemmas.Bool.{cases_lt, false≢true}
use Rattle.std.proofs.lemmas.Option.{same_Some}
use Rattle.arc_base.specs.Addresses.{AreDisjoint}
use Rattle.arc_base.specs.declared.prefix.Prefix.{Prefix}
use Rattle.arc_base.specs.declared.refusal.Kind.TheVariants as kinds
use Rattle.net_doc.specs.declared.fault.Refusal.{Refusal}
use Rattle.net_model.specs.declared.policies.Document.{Document}
use Rattle.net_model.specs.declared.rows.FaceRow.{FaceRow}
use Rattle.net_model.specs.declared.rows.Network.{Network}
use Rattle.net_model.specs.Validity.{AreApart}
use Rattle.ios_config.specs.declared.settings.Given.{Given}
use Rattle.ios_config.specs.declared.settings.Config.{Config}
use Rattle.ios_config.specs.declared.settings.FaceText.{FaceText}
use Rattle.arc_base.specs.Lists.{AreDistinct}
use Rattle.net_rules.specs.Settings.{address_of, value}
use Rattle.net_rules.specs.Sites.{Site, sites, full_names}
use Rattle.net_rules.specs.Reasons.{IsBefore, NoRefusal, IsEarliest}
use Rattle.net_rules.specs.Rows.{IsFaceRow, IsSubnet, AreRows}
use Rattle.net_rules.specs.Addressing.{OverlapsEarlier, RefusesOverlap}
use Rattle.net_rules.proofs.SameNetwork.{same_rows}
use Rattle.arc_base.proofs.Zips.{AllZip-left}

-- interfaces that are not apart have subnets
has_subnet : (f g : FaceRow) → ¬ AreApart f g → IsSome g.subnet
has_subnet f g not_apart = by f.subnet g.subnet not_apart
  where
    by : (o r : Option Prefix) → ¬ IfSome o (λ p. IfSome r (AreDisjoint p)) → IsSome r
    by None r never = absurd (never tt)
    by (Some p) None never = absurd (never tt)
    by (Some p) (Some q) never = refl

-- an interface with a subnet has an address line
has_address : (face : FaceText) (subnet : Option Prefix) → IsSubnet (address_of face) subnet → IsSome subnet → IsSome face.addr
has_address face subnet of some = by face.addr face.mask_len subnet of some
  where
    by : (a m : Option (Given ℕ)) (s : Option Prefix) → IsSubnet (option_and_then (λ (x : ℕ). option_map (λ (y : ℕ). (x, y)) (value m)) (value a)) s → IsSome s → IsSome a
    by None m s of some = absurd (false≢true (subst (λ (o : Option Prefix). IsSome o) of some))
    by (Some a) m s of some = refl

-- the line of an address that is there
line_of : (o : Option (Given ℕ)) (line : ℕ) → IsSome o → line ≡ option_map_or (λ (g : Given ℕ). g.line) o 0 → IsSomeAnd o (λ g. g.line ≡ line)
line_of None line some is = absurd (false≢true some)
line_of (Some g) line some is = sym is

one_line : (o : Option (Given ℕ)) (m n : ℕ) → IsSomeAnd o (λ g. g.line ≡ m) → IsSomeAnd o (λ g. g.line ≡ n) → m ≡ n
one_line None m n h k = absurd h
one_line (Some g) m n h k = sym h ∙ k

module _ (doc : Document) (configs : List Config) (distinct : AreDistinct (full_names configs)) (net : Network) (rows : AreRows doc configs net) where
  pub none_overlaps : ((place : ℕ) → ¬ OverlapsEarlier net place) → NoRefusal (RefusesOverlap doc configs)
  none_overlaps none r bad = none bad.place (subst (λ (n : Network). OverlapsEarlier n bad.place) (same_rows doc configs distinct bad.net net bad.rows rows) bad.overlaps)

  pub overlap_first : (place : ℕ) → OverlapsEarlier net place → ((k : ℕ) → k < place → ¬ OverlapsEarlier net k) → (site : Site) → slice_get (sites configs) place ≡ Some site →
      (line : ℕ) → line ≡ option_map_or (λ (g : Given ℕ). g.line) site.face.addr 0 → IsEarliest (RefusesOverlap doc configs) (record { file = site.router + 1; number = line; kind = kinds.Overlap })
  overlap_first place overlaps none_before site at_place line is = record {
    made = record { net = net; rows = rows; place = place; overlaps = overlaps; none_before = none_before; site = site; at_place = at_place; line = line; gives = gives; told = refl };
    first = λ other bad. not_before other bad;
  }
    where
      r : Refusal
      r = record { file = site.router + 1; number = line; kind = kinds.Overlap }

      gives : IsSomeAnd site.face.addr (λ g. g.line ≡ line)
      gives =
          let o = overlaps.2 in
          let row = AllZip-left (IsFaceRow net.protocol _ _) (sites configs) net.faces rows.base.faces place o.g o.at_j in
          let same : row.0 ≡ site = same_Some row.0 site (sym row.1 ∙ at_place) in
          let of : IsSubnet (address_of site.face) o.g.subnet = subst (λ (s : Site). IsSubnet (address_of s.face) o.g.subnet) same row.2.subnet in
          line_of site.face.addr line (has_address site.face o.g.subnet of (has_subnet o.f o.g o.not_apart)) is

      here : (bad_net : Network) (k : ℕ) → AreRows doc configs bad_net → OverlapsEarlier bad_net k → OverlapsEarlier net k
      here bad_net k bad_rows h = subst (λ (n : Network). OverlapsEarlier n k) (same_rows doc configs distinct bad_net net bad_rows rows) h

      there : (bad_net : Network) (k : ℕ) → AreRows doc configs bad_net → OverlapsEarlier net k → OverlapsEarlier bad_net k
      there bad_net k bad_rows h = subst (λ (n : Network). OverlapsEarlier n k) (sym (same_rows doc configs distinct bad_net net bad_rows rows)) h

      one_place : (other : Refusal) (bad : RefusesOverlap doc configs other) → bad.place ≡ place
      one_place other bad = elim (cases_lt bad.place place) [
        | inl lower ↦ absurd (none_before bad.place lower (here bad.net bad.place bad.rows bad.overlaps))
        | inr not_lower ↦ elim (cases_lt place bad.place) [
          | inl higher ↦ absurd (bad.none_before place higher (there bad.net place bad.rows overlaps))
          | inr not_higher ↦ omega (arith, not_lower, not_higher)
        ]
      ]

      same_site : (other : Refusal) (bad : RefusesOverlap doc configs other) → bad.site ≡ site
      same_site other bad = same_Some bad.site site (sym (subst (λ (k : ℕ). slice_get (sites configs) k ≡ Some bad.site) (one_place other bad) bad.at_place) ∙ at_place)

      not_before : (other : Refusal) → RefusesOverlap doc configs other → ¬ IsBefore other r
      not_before other bad before =
          let file : other.file ≡ bad.site.router + 1 = ap (λ (s : Refusal). s.file) bad.told in
          let number : other.number ≡ bad.line = ap (λ (s : Refusal). s.number) bad.told in
          let router : bad.site.router ≡ site.router = ap (λ (s : Site). s.router) (same_site other bad) in
          let line_is : bad.line ≡ line = one_line site.face.addr bad.line line (subst (λ (s : Site). IsSomeAnd s.face.addr (λ g. g.line ≡ bad.line)) (same_site other bad) bad.gives) gives in
          by file number router line_is before
        where
          by : other.file ≡ bad.site.router + 1 → other.number ≡ bad.line → bad.site.router ≡ site.router → bad.line ≡ line → ¬ IsBefore other r
          by file number router line_is (inl h) = omega (arith, file, router, h)
          by file number router line_is (inr (e, h)) = omega (arith, number, line_is, h)

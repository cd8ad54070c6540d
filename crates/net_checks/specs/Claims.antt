-- Claims of interfaces to addresses, by which overlaps are found.
use Rattle.std.specs.Prelude.{◌≡◌, ◌≢◌, ℕ, ◌<◌, ◌⊎◌, Option, Some, option_map, List, slice_get}
use Rattle.std.specs.Prelude.{AllPairs, Contains}
use Rattle.arc_base.specs.Addresses.{AreDisjoint}
use Rattle.arc_base.specs.declared.prefix.Prefix.{Prefix}
use Rattle.net_model.specs.declared.rows.FaceRow.{FaceRow}
use Rattle.net_model.specs.declared.rows.LinkRow.{LinkRow}
use Rattle.net_model.specs.declared.rows.Network.{Network}
use Rattle.net_model.specs.Validity.{AreLinked, AreApart}
use Rattle.net_checks.specs.declared.claims.Claim.{Claim}

-- by the first n links, the partner of an interface is the other end of its link, and that of any
-- other interface is itself
pub record ArePartners (n : ℕ) (links : List LinkRow) (partners : List ℕ) : Type 0 where
  pub at_a : (m : ℕ) (link : LinkRow) → m < n → slice_get links m ≡ Some link →
      slice_get partners link.a.0 ≡ Some link.b.0
  pub at_b : (m : ℕ) (link : LinkRow) → m < n → slice_get links m ≡ Some link →
      slice_get partners link.b.0 ≡ Some link.a.0
  pub elsewhere : (k partner : ℕ) → slice_get partners k ≡ Some partner →
      (partner ≡ k) ⊎ ((m : ℕ) × (link : LinkRow) × (m < n) × (slice_get links m ≡ Some link)
      × (((link.a.0 ≡ k) × (link.b.0 ≡ partner)) ⊎ ((link.b.0 ≡ k) × (link.a.0 ≡ partner))))

-- the claims are those of the two ends of a link, or have no address in common
abbrev pub AreLinkedOrApart : Claim → Claim → Type 0
AreLinkedOrApart x y = (x.partner ≡ y.place) ⊎ AreDisjoint x.subnet y.subnet

-- no two claims are of one interface, and the one is the other's partner both ways
abbrev pub AreOfPartners : List Claim → Type 0
AreOfPartners claims =
    AllPairs (λ x y. (x.place ≢ y.place) × (x.partner ≡ y.place → y.partner ≡ x.place) ×
    (y.partner ≡ x.place → x.partner ≡ y.place)) claims

-- the claim of an interface at a place with this partner, if it has a subnet
abbrev pub claim_of : FaceRow → ℕ → ℕ → Option Claim
claim_of face place partner =
    option_map (λ p. record { subnet = p; place = place; partner = partner }) face.subnet

-- the claim is that of the interface at its place, and of the partner of that
pub record IsClaimOf (faces : List FaceRow) (partners : List ℕ) (claim : Claim) : Type 0 where
  pub face : FaceRow
  pub at_place : slice_get faces claim.place ≡ Some face
  pub subnet : face.subnet ≡ Some claim.subnet
  pub partner : slice_get partners claim.place ≡ Some claim.partner

-- these are the claims of all interfaces that have a subnet, one each
pub record AreClaimsOf (faces : List FaceRow) (partners : List ℕ)
    (claims : List Claim) : Type 0 where
  pub each : (claim : Claim) → Contains claims claim → IsClaimOf faces partners claim
  pub all : (place : ℕ) (face : FaceRow) (p : Prefix) → slice_get faces place ≡ Some face →
      face.subnet ≡ Some p → (claim : Claim) × Contains claims claim × (claim.place ≡ place)
  pub apart : AllPairs (λ x y. x.place ≢ y.place) claims

-- no two of the first n interfaces overlap, except for the two ends of a link
abbrev pub ClearBelow : Network → ℕ → Type 0
ClearBelow net n =
    (i j : ℕ) (f g : FaceRow) → i < j → j < n → slice_get net.faces i ≡ Some f →
    slice_get net.faces j ≡ Some g → AreLinked net i j ⊎ AreApart f g

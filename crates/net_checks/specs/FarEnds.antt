-- The far ends of links as they are gathered, and the neighbours that are named without being among
-- them.
use Rattle.std.specs.Prelude.{◌≡◌, ℕ, ◌⊎◌, ◌↔◌, Option, Some, MatchOption, List, Contains}
use Rattle.std.specs.Prelude.{IsSome, slice_get, option_and_then}
use Rattle.arc_base.specs.declared.place.Face.{Face}
use Rattle.net_model.specs.declared.rows.FaceRow.{FaceRow}
use Rattle.net_model.specs.declared.rows.LinkRow.{LinkRow}
use Rattle.ios_config.specs.declared.settings.Config.{Config}
use Rattle.net_rules.specs.Settings.{lines_of}
use Rattle.net_rules.specs.Neighbors.{remote_of}

-- what was found is the only item with the property, or there is none
abbrev pub FindsOnly : {X : Type 0} → (X → Type 0) → Option X → Type 0
FindsOnly {X} P found = MatchOption found ((x : X) → ¬ P x) (λ x. P x × ((y : X) → P y → x ≡ y))

-- the interface at the one place is of the pair's router, and that at the other place has the
-- pair's address
pub record LeadsTo (faces : List FaceRow) (near far : Face) (pair : ℕ × ℕ) : Type 0 where
  pub near_row : FaceRow
  pub at_near : slice_get faces near.0 ≡ Some near_row
  pub own : near_row.router.0 ≡ pair.0
  pub address : option_and_then (λ row. row.addr) (slice_get faces far.0) ≡ Some pair.1

-- the link leads so in one of its two directions
abbrev pub LinkLeadsTo : List FaceRow → ℕ × ℕ → LinkRow → Type 0
LinkLeadsTo faces pair link = LeadsTo faces link.a link.b pair ⊎ LeadsTo faces link.b link.a pair

-- the pair that the two interfaces make was added, if they make one
abbrev pub AddsFarEnd : List FaceRow → Face → Face → List (ℕ × ℕ) → List (ℕ × ℕ) → Type 0
AddsFarEnd faces near far old new =
    (pair : ℕ × ℕ) → Contains new pair ↔ (Contains old pair ⊎ LeadsTo faces near far pair)

-- the neighbour is among these far ends of the router and among those with an AS
abbrev pub IsListed : List (ℕ × ℕ) → List ℕ → ℕ → ℕ → Type 0
IsListed ends remotes router peer = Contains ends (router, peer) × Contains remotes peer

-- the neighbour is among these far ends of the router, and the file gives it an AS
abbrev pub IsReached : List (ℕ × ℕ) → ℕ → Config → ℕ → Type 0
IsReached ends router config peer =
    Contains ends (router, peer) × IsSome (remote_of (lines_of config) peer)

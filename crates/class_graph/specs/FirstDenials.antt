-- Of a list of classes, the first link that denies any, and the first class that it denies.
use Rattle.std.specs.Prelude.{◌≡◌, ℕ, ◌<◌, nat_le, if◌then◌else◌, Option, Some, None, MatchOption}
use Rattle.std.specs.Prelude.{List, slice_get}
use Rattle.arc_base.specs.declared.place.Link.{Link}
use Rattle.arc_base.specs.declared.prefix.Prefix.{Prefix}
use Rattle.net_model.specs.declared.policies.Class.{Class}
use Rattle.net_model.specs.declared.rows.Network.{Network}
use Rattle.class_graph.specs.declared.first_denials.Denial.{Denial}
use Rattle.class_graph.specs.Denials.{IsDeniedOn, HasNoDenial}
use Rattle.class_graph.specs.Passing.{IsFirstAfter}

-- of the first n classes, the denial's is the first that its link denies, and no lower link denies
-- any
pub record IsLowestDenial (net : Network) (to : Prefix) (classes : List Class) (n : ℕ)
    (d : Denial) : Type 0 where
  pub is_first : IsFirstAfter (λ c. ¬ IsDeniedOn net to c d.link.0) classes d.class
  pub early : is_first.place < n
  pub denied : IsDeniedOn net to d.class d.link.0
  pub lower : (k : ℕ) (c : Class) → k < n → slice_get classes k ≡ Some c →
      (link : ℕ) → link < d.link.0 → ¬ IsDeniedOn net to c link

-- it is this denial, or there is none
abbrev pub IsFirstDenial : Network → Prefix → List Class → ℕ → Option Denial → Type 0
IsFirstDenial net to classes n found =
    MatchOption found (HasNoDenial net to classes n) (IsLowestDenial net to classes n)

-- of a denial and a link that denies the class the one at the lower link, and the denial where both
-- are at one link
abbrev pub lower_of : Option Denial → Option Link → Class → Option Denial
lower_of best None class = best
lower_of None (Some link) class = Some (record { link = link; class = class })
lower_of (Some d) (Some link) class =
    if nat_le d.link.0 link.0 then Some d else Some (record { link = link; class = class })

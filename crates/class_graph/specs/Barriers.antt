-- What keeps packets of a list of classes out, whatever fails.
use Rattle.std.specs.Prelude.{◌≡◌, ◌≢◌, ◌⊎◌, Option, Some, None, MatchOption, List, length}
use Rattle.net_model.specs.declared.policies.Class.{Class}
use Rattle.net_model.specs.declared.rows.Network.{Network}
use Rattle.net_model.specs.Forwarding.{Ends, source_router, target_router}
use Rattle.class_graph.specs.declared.barriers.Barrier.{Barrier}
use Rattle.class_graph.specs.declared.barriers.Barrier.TheVariants as barriers
use Rattle.class_graph.specs.declared.first_denials.Denial.{Denial}
use Rattle.class_graph.specs.Denials.{HasNoDenial}
use Rattle.class_graph.specs.FirstDenials.{IsLowestDenial}
use Rattle.class_graph.specs.Passing.{AllPass, IsFirstKeptOut}

-- the ends are at one router, or no link denies any of the classes
abbrev pub AreUndenied : Network → Ends → List Class → Type 0
AreUndenied net ends classes =
    (source_router ends ≡ target_router ends) ⊎ HasNoDenial net ends.to classes (length classes)

-- the ends are at two routers, and this is the first denial
abbrev pub IsDenialBetween : Network → Ends → List Class → Denial → Type 0
IsDenialBetween net ends classes d =
    (source_router ends ≢ target_router ends) ×
    IsLowestDenial net ends.to classes (length classes) d

-- it is this denial, or the classes are not denied
abbrev pub IsFirstBetween : Network → Ends → List Class → Option Denial → Type 0
IsFirstBetween net ends classes found =
    MatchOption found (AreUndenied net ends classes) (IsDenialBetween net ends classes)

-- the first barrier is a denial, or else the first class that is kept out, or there is none
abbrev pub IsFirstBarrier : Network → Ends → List Class → Option Barrier → Type 0
IsFirstBarrier net ends classes None =
    AreUndenied net ends classes × AllPass net ends classes (length classes)
IsFirstBarrier net ends classes (Some (barriers.Link d)) = IsDenialBetween net ends classes d
IsFirstBarrier net ends classes (Some (barriers.Ends class)) =
    AreUndenied net ends classes × IsFirstKeptOut net ends classes class

-- Which links the routes from the source to the target need.
use Rattle.std.specs.Prelude.{◌↔◌, ◌<◌, ℕ, Option, MatchOption, List, length, AllPairs, Contains}
use Rattle.arc_base.specs.declared.place.Link.{Link}
use Rattle.net_model.specs.declared.rows.Network.{Network}
use Rattle.net_model.specs.Forwarding.{Ends}
use Rattle.net_laws.specs.Breaking.{no_link}
use Rattle.net_laws.specs.Routes.{just, HasRoute}

-- the link is needed: once it has failed no route is left
abbrev pub IsNeeded : Network → Ends → Link → Type 0
IsNeeded net ends link = ¬ HasRoute net ends (just link)

-- with all links up there is a route, and the list has, in rising order, exactly the links of the
-- network that are needed
pub record AreNeeded (net : Network) (ends : Ends) (links : List Link) : Type 0 where
  pub route : HasRoute net ends no_link
  pub rising : AllPairs (λ k l. k.0 < l.0) links
  pub exact : (link : Link) →
      Contains links link ↔ ((link.0 < length net.links) × IsNeeded net ends link)

-- the links that are needed, or none where there is no route with all links up
abbrev pub IsNeededAnswer : Network → Ends → Option (List Link) → Type 0
IsNeededAnswer net ends found = MatchOption found (¬ HasRoute net ends no_link) (AreNeeded net ends)

-- The links without which no path leads from one node to another.
use Rattle.std.specs.Prelude.{◌↔◌, ℕ, ◌<◌, ◌==◌, not, filter, Option, MatchOption, List, AllPairs}
use Rattle.std.specs.Prelude.{Contains}
use Rattle.arc_base.specs.declared.place.Link.{Link}
use Rattle.graph_flow.specs.declared.arcs.Arc.{Arc}
use Rattle.graph_flow.specs.Paths.{Leads}

-- the arcs of all other links
abbrev pub without : List Arc → Link → List Arc
without arcs link = filter (λ arc. not (arc.link.0 == link.0)) arcs

-- no path leads from s to t without the link
abbrev pub IsNeeded : List Arc → ℕ → ℕ → Link → Type 0
IsNeeded arcs s t link = ¬ Leads (without arcs link) s t

-- some path leads from s to t, and the list has, in rising order, exactly the links that are needed
pub record AreNeeded (arcs : List Arc) (s t : ℕ) (links : List Link) : Type 0 where
  pub leads : Leads arcs s t
  pub rising : AllPairs (λ k l. k.0 < l.0) links
  pub exact : (link : Link) → Contains links link ↔ IsNeeded arcs s t link

-- the links that are needed, or none where no path leads from s to t
abbrev pub IsNeededAnswer : List Arc → ℕ → ℕ → Option (List Link) → Type 0
IsNeededAnswer arcs s t found = MatchOption found (¬ Leads arcs s t) (AreNeeded arcs s t)

-- A graph that serves several host networks.
use Rattle.std.specs.Prelude.{◌≡◌, ◌↔◌, IsTrue, All, Any}
use Rattle.arc_base.specs.declared.prefix.Prefix.{Prefix}
use Rattle.net_model.specs.declared.rows.Network.{Network}
use Rattle.net_model.specs.Lists.{route_permits}
use Rattle.net_model.specs.Routing.{Advertises}
use Rattle.net_model.specs.Tables.{AreRoutedLinks}
use Rattle.class_graph.specs.Graphs.{IsGraphOf, IsAnyArc}
use Rattle.class_graph.specs.Listed.{AreListed}
use Rattle.class_graph.specs.declared.last_graph.LastGraph.{LastGraph}

-- the flag says whether some interface advertises the graph's host network
abbrev pub IsToldOfIt : Network → LastGraph → Type 0
IsToldOfIt net last = IsTrue last.told ↔ Any (Advertises last.to) net.faces

-- the graph is that of all routed arcs for its host network, and so for each host network with this
-- table, which is that of its own; beside it is the table of the links with packet lists
pub record IsGraphOfTable (net : Network) (last : LastGraph) : Type 0 where
  pub told : IsToldOfIt net last
  pub table : AreRoutedLinks net last.to last.routed
  pub graph : IsGraphOf net last.to IsAnyArc last.graph
  pub listed : AreListed net last.listed

-- the network answers the same of both: whether some interface advertises it, and what each route
-- list says to it
pub record AreAlike (net : Network) (one other : Prefix) : Type 0 where
  pub told : Any (Advertises one) net.faces ↔ Any (Advertises other) net.faces
  pub lists : All (λ l. route_permits l.entries one ≡ route_permits l.entries other) net.route_lists

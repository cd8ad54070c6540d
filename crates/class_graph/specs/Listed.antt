-- Links without a packet list at an end, over which no packet is denied.
use Rattle.std.specs.Prelude.{◌≡◌, ℕ, Bool, IsFalse, Some, List, length, slice_get}
use Rattle.net_model.specs.declared.rows.Network.{Network}
use Rattle.net_model.specs.Routing.{Arc, IsArc}
use Rattle.class_graph.specs.Answers.{ArcAllows}

-- the arcs of the link ask no list: they allow packets, whatever lists answer
abbrev pub IsUnlisted : Network → ℕ → Type 0
IsUnlisted net link =
    (arc : Arc) → IsArc net arc → arc.link ≡ link → (answers : List Bool) → ArcAllows answers arc

-- the table has a flag for each link, which is false only where the link's arcs ask no list
pub record AreListed (net : Network) (table : List Bool) : Type 0 where
  pub whole : length table ≡ length net.links
  pub each : (link : ℕ) (flag : Bool) → slice_get table link ≡ Some flag → IsFalse flag →
      IsUnlisted net link

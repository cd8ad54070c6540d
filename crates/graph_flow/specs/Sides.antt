-- Sets of nodes that hold a source and not a target, and the links of the arcs that leave them.
use Rattle.std.specs.Prelude.{◌≡◌, ℕ, ◌<◌, ◌≤◌, Bool, IsTrue, IsFalse, List, length, All, AllPairs}
use Rattle.std.specs.Prelude.{Contains}
use Rattle.arc_base.specs.declared.place.Link.{Link}
use Rattle.graph_flow.specs.declared.arcs.Arc.{Arc}

-- the set holds the source and not the target
pub record Separates (s t : ℕ) (side : ℕ → Bool) : Type 0 where
  pub source : IsTrue (side s)
  pub target : IsFalse (side t)

-- the arc leads out of the set
pub record LeadsOut (side : ℕ → Bool) (arc : Arc) : Type 0 where
  pub from_inside : IsTrue (side arc.tail)
  pub to_outside : IsFalse (side arc.head)

-- the link is that of an arc that leads out of the set
pub record IsLeftOver (arcs : List Arc) (side : ℕ → Bool) (link : Link) : Type 0 where
  pub arc : Arc
  pub is_arc : Contains arcs arc
  pub leaves : LeadsOut side arc
  pub of_link : arc.link ≡ link

-- the links are those of the arcs that lead out of the set, in rising order
pub record AreLeftOver (arcs : List Arc) (side : ℕ → Bool) (links : List Link) : Type 0 where
  pub only : All (IsLeftOver arcs side) links
  pub each : (arc : Arc) → Contains arcs arc → LeadsOut side arc → Contains links arc.link
  pub rising : AllPairs (λ k l. k.0 < l.0) links

-- the links separate the target from the source, no fewer links separate them, and the set is part
-- of every set that so few links leave
pub record IsLeastSide (arcs : List Arc) (s t : ℕ) (side : ℕ → Bool)
    (links : List Link) : Type 0 where
  pub separates : Separates s t side
  pub left_over : AreLeftOver arcs side links
  pub fewest : (other : ℕ → Bool) (others : List Link) → Separates s t other →
      AreLeftOver arcs other others → length links ≤ length others
  pub least : (other : ℕ → Bool) (others : List Link) → Separates s t other →
      AreLeftOver arcs other others → length others ≤ length links →
      (node : ℕ) → IsTrue (side node) → IsTrue (other node)

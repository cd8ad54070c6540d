-- Answers of link-disjoint paths or cuts.
use Rattle.std.specs.Prelude.{ℕ, ◌<◌, Bool, List, [], ◌∷◌, map, AllPairs}
use Rattle.arc_base.specs.declared.place.Link.{Link}
use Rattle.graph_flow.specs.declared.arcs.LinkRow2.{LinkRow2}
use Rattle.graph_flow.specs.declared.answer.FlowAnswer.{FlowAnswer}
use Rattle.graph_flow.specs.declared.answer.FlowAnswer.TheVariants.{Paths, Cut}

-- the links of each path
abbrev pub rows_of : List LinkRow2 → List (List Link)
rows_of paths = map (λ path. path.links) paths

-- if the answer is paths, this holds of their links
abbrev pub IfPaths : FlowAnswer → (List (List Link) → Type 0) → Type 0
IfPaths (Paths paths) P = P (rows_of paths)
IfPaths (Cut links side) P = Unit {0}

-- if the answer is a cut, this holds of its links and of the flags of its side
abbrev pub IfCut : FlowAnswer → (List Link → List Bool → Type 0) → Type 0
IfCut (Paths paths) P = Unit {0}
IfCut (Cut links side) P = P links side

-- the number of the first link of a path
abbrev pub first_link : List Link → ℕ
first_link [] = 0
first_link (link ∷ links) = link.0

-- each path begins with a lower link than the next ones
abbrev pub AreInLinkOrder : List (List Link) → Type 0
AreInLinkOrder paths = AllPairs (λ p q. first_link p < first_link q) paths

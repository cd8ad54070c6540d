-- What a search has found: for each node whether and over which arc it was reached. Contracts of
-- helpers cite these.
use Rattle.std.specs.Prelude.{◌≡◌, ℕ, zero, suc, ◌+◌, ◌<◌, Bool, true, false, if◌then◌else◌, IsTrue}
use Rattle.std.specs.Prelude.{List, [], ◌∷◌, ◌++◌, length, map, slice_index_or, slice_index}
use Rattle.std.specs.Prelude.{Contains, Option, Some, None, sum_by, ◌≤◌, ◌⊎◌, IsFalse, slice_set}
use Rattle.arc_base.specs.declared.place.Link.{Link}
use Rattle.graph_flow.specs.declared.arcs.Arc.{Arc}
use Rattle.graph_flow.specs.declared.search.Mark.{Mark}
use Rattle.graph_flow.specs.declared.search.Mark.TheVariants.{Unseen, Start, After}
use Rattle.graph_flow.specs.Paths.{links_of}

-- whether the node was reached
abbrev pub is_seen : Mark → Bool
is_seen Unseen = false
is_seen Start = true
is_seen (After arc depth) = true

-- how many arcs lead to the node
abbrev pub depth_of : Mark → ℕ
depth_of Unseen = 0
depth_of Start = 0
depth_of (After arc depth) = depth

-- what is known of the node
abbrev pub mark_at : List Mark → ℕ → Mark
mark_at marks node = slice_index_or marks node Unseen

-- the arcs by which the node was reached, this many
abbrev pub way_by : List Mark → ℕ → Mark → List Arc
way_by marks zero mark = []
way_by marks (suc depth) Unseen = []
way_by marks (suc depth) Start = []
way_by marks (suc depth) (After arc steps) = way_by marks depth (mark_at marks arc.tail) ++ arc ∷ []

-- the arcs by which the node was reached
abbrev pub way_to : List Mark → ℕ → List Arc
way_to marks node = way_by marks (depth_of (mark_at marks node)) (mark_at marks node)

-- the links of these arcs, if the node was reached
abbrev pub path_by : List Mark → Mark → Option (List Link)
path_by marks mark =
    if is_seen mark then Some (links_of (way_by marks (depth_of mark) mark)) else None

-- for each node the links of the path to it, if it was reached
abbrev pub paths_by : List Mark → List (Option (List Link))
paths_by marks = map (path_by marks) marks

-- the node was reached over this arc, one step after the arc's tail
pub record IsAfter (marks : List Mark) (node : ℕ) (arc : Arc) (depth : ℕ) : Type 0 where
  pub head : arc.head ≡ node
  pub tail : IsTrue (is_seen (mark_at marks arc.tail))
  pub step : depth ≡ depth_of (mark_at marks arc.tail) + 1

-- each mark records the step before it
abbrev pub AreSteps : List Mark → Type 0
AreSteps marks =
    (node : ℕ) (arc : Arc) (depth : ℕ) → mark_at marks node ≡ After arc depth →
    IsAfter marks node arc depth

-- each reached node was reached from s over some of the arcs
pub record IsMarked (arcs : List Arc) (s : ℕ) (marks : List Mark) : Type 0 where
  pub start : mark_at marks s ≡ Start
  pub one_start : (node : ℕ) → mark_at marks node ≡ Start → node ≡ s
  pub steps : AreSteps marks
  pub over : (node : ℕ) (arc : Arc) (depth : ℕ) →
      mark_at marks node ≡ After arc depth → Contains arcs arc
  pub shallow : (node : ℕ) → depth_of (mark_at marks node) ≤ length marks

-- the reached nodes are those to which the arcs lead from s: each was reached over some of the
-- arcs, and none of these leads from a reached node to one that is not
pub record IsSpread (arcs : List Arc) (s : ℕ) (marks : List Mark) : Type 0 where
  pub marked : IsMarked arcs s marks
  pub closed : (arc : Arc) → Contains arcs arc → IsTrue (is_seen (mark_at marks arc.tail)) →
      IsTrue (is_seen (mark_at marks arc.head))

-- one for a reached node
abbrev pub seen_once : Mark → ℕ
seen_once mark = if is_seen mark then 1 else 0

-- a search that has reached this many nodes, which are in the queue, and has looked at the arcs of
-- the first few of them
pub record IsSearch (arcs : List Arc) (s : ℕ) (marks : List Mark) (queue : List ℕ)
    (count looked : ℕ) : Type 0 where
  pub start : mark_at marks s ≡ Start
  pub one_start : (node : ℕ) → mark_at marks node ≡ Start → node ≡ s
  pub steps : AreSteps marks
  pub over : (node : ℕ) (arc : Arc) (depth : ℕ) →
      mark_at marks node ≡ After arc depth → Contains arcs arc
  pub shallow : (node : ℕ) → IsTrue (is_seen (mark_at marks node)) →
      depth_of (mark_at marks node) < count
  pub queued : (node : ℕ) → IsTrue (is_seen (mark_at marks node)) →
      (k : ℕ) × (k < count) × (slice_index queue k ≡ node)
  pub reached : (k : ℕ) → k < count → IsTrue (is_seen (mark_at marks (slice_index queue k)))
  pub counted : count ≡ sum_by seen_once marks
  pub looked_at : (k : ℕ) → k < looked →
      (arc : Arc) → Contains arcs arc → arc.tail ≡ slice_index queue k →
      IsTrue (is_seen (mark_at marks arc.head))

-- the arc leads from elsewhere or its head is seen already, and nothing changes
pub record Stays (marks : List Mark) (queue : List ℕ) (count : ℕ) (arc : Arc) (node : ℕ)
    (new_marks : List Mark) (new_queue : List ℕ) (new_count : ℕ) : Type 0 where
  pub seen : arc.tail ≡ node → IsTrue (is_seen (mark_at marks arc.head))
  pub same_marks : new_marks ≡ marks
  pub same_queue : new_queue ≡ queue
  pub same_count : new_count ≡ count

-- the arc leads to a node that was not seen, which is marked and added to the queue
pub record Finds (marks : List Mark) (queue : List ℕ) (count : ℕ) (arc : Arc) (node : ℕ)
    (new_marks : List Mark) (new_queue : List ℕ) (new_count : ℕ) : Type 0 where
  pub tail : arc.tail ≡ node
  pub unseen : IsFalse (is_seen (mark_at marks arc.head))
  pub marked : new_marks ≡ slice_set marks arc.head (After arc (depth_of (mark_at marks node) + 1))
  pub put : new_queue ≡ slice_set queue count arc.head
  pub one_more : new_count ≡ count + 1

-- what a search does with an arc: nothing if it does not lead from the node or its head is seen
-- already, or else it marks the head and adds it to the queue
abbrev pub Follows : List Mark → List ℕ → ℕ → Arc → ℕ → List Mark → List ℕ → ℕ → Type 0
Follows marks queue count arc node new_marks new_queue new_count =
    Stays marks queue count arc node new_marks new_queue new_count ⊎
    Finds marks queue count arc node new_marks new_queue new_count

-- what a search does with what an arc gives: it follows it, or does nothing where that is none
abbrev pub Steps : Option Arc → List Mark → List ℕ → ℕ → ℕ → List Mark → List ℕ → ℕ → Type 0
Steps None marks queue count node new_marks new_queue new_count =
    (new_marks ≡ marks) × (new_queue ≡ queue) × (new_count ≡ count)
Steps (Some arc) marks queue count node new_marks new_queue new_count =
    Follows marks queue count arc node new_marks new_queue new_count

-- How a search looks at the arcs of a node's row.
use Rattle.std.proofs.Common.{◌≡◌, ℕ, ◌+◌, ◌<◌, ◌≤◌, Bool, true, false, ◌||◌, List, filter_map, length, get_or, Contains, inl, inr, refl, sym, ap, ◌∙◌, subst, arith, Some, None, Option}
use Rattle.std.specs.Prelude.{slice_index}
use Rattle.std.proofs.lemmas.Bool.{cases_lt}
use Rattle.std.proofs.lemmas.List.{get_or_default}
use Rattle.std.proofs.lemmas.List.Elements.{All-contains, Contains-get_or}
use Rattle.graph_flow.specs.declared.arcs.Arc.{Arc}
use Rattle.graph_flow.specs.declared.search.Mark.{Mark}
use Rattle.graph_flow.specs.Paths.{Digraph, IsGraph, Joins}
use Rattle.graph_flow.specs.Residual.{touching, touches}
use Rattle.graph_flow.specs.Marks.{IsSearch, Follows, Steps}
use Rattle.graph_flow.proofs.Lists.{filter-from}
use Rattle.graph_flow.proofs.Residuals.{none_or_some, filter_map-member}
use Rattle.graph_flow.proofs.Searches.{Seen, IsFollowed, followed, looked-more}

-- a search that has looked at the first arcs of a node's row, each of which gives an arc or none
pub record IsLooking (arcs : List Arc) (gives : Arc → Option Arc) (s : ℕ) (marks : List Mark) (queue : List ℕ) (count looked node : ℕ) (row : List Arc) (first : ℕ) : Type 0 where
  pub search : IsSearch (filter_map gives arcs) s marks queue count looked
  pub node_is : slice_index queue looked ≡ node
  pub before : looked < count
  pub passed : (k : ℕ) (d next : Arc) → k < first → gives (get_or row k d) ≡ Some next → next.tail ≡ node → Seen marks next.head

none-some : (o : Option Arc) (arc : Arc) → o ≡ None → o ≡ Some arc → ⊥
none-some o arc e f = cc

same-some : (o : Option Arc) (a b : Arc) → o ≡ Some a → o ≡ Some b → a ≡ b
same-some o a b e f = cc

-- the arc gives none
pub looking-none : (arcs : List Arc) (gives : Arc → Option Arc) (s : ℕ) (marks : List Mark) (queue : List ℕ) (count looked node : ℕ) (row : List Arc) (first : ℕ) →
    IsLooking arcs gives s marks queue count looked node row first → ((d : Arc) → gives (get_or row first d) ≡ None) →
    IsLooking arcs gives s marks queue count looked node row (first + 1)
looking-none arcs gives s marks queue count looked node row first looking none = record {
  search = looking.search;
  node_is = looking.node_is;
  before = looking.before;
  passed = λ k d next l e from. elim (cases_lt k first) [
    | inl low ↦ looking.passed k d next low e from
    | inr high ↦ let is : k ≡ first = omega arith in
        absurd (none-some (gives (get_or row first d)) next (none d) (ap (λ (n : ℕ). gives (get_or row n d)) (sym is) ∙ e))
  ];
}

-- the arc gives one, which is followed
pub looking-some : (arcs : List Arc) (gives : Arc → Option Arc) (s : ℕ) (marks : List Mark) (queue : List ℕ) (count looked node : ℕ) (row : List Arc) (first : ℕ)
    (arc : Arc) (new : List Mark) (new_queue : List ℕ) (new_count : ℕ) →
    IsLooking arcs gives s marks queue count looked node row first → ((d : Arc) → gives (get_or row first d) ≡ Some arc) →
    IsFollowed (filter_map gives arcs) s marks queue count looked arc node new new_queue new_count →
    IsLooking arcs gives s new new_queue new_count looked node row (first + 1)
looking-some arcs gives s marks queue count looked node row first arc new new_queue new_count looking some f = record {
  search = f.search;
  node_is = f.places looked looking.before ∙ looking.node_is;
  before = omega (arith, looking.before, f.more);
  passed = λ k d next l e from. elim (cases_lt k first) [
    | inl low ↦ f.seen next.head (looking.passed k d next low e from)
    | inr high ↦ let is : k ≡ first = omega arith in
        let same : arc ≡ next = same-some (gives (get_or row first d)) arc next (some d) (ap (λ (n : ℕ). gives (get_or row n d)) (sym is) ∙ e) in
        subst (λ (x : Arc). Seen new x.head) same (f.head (ap (λ (x : Arc). x.tail) same ∙ from))
  ];
}

-- what an arc of the row gives is one of those that all arcs give
pub row-gives : (arcs : List Arc) (gives : Arc → Option Arc) (node : ℕ) (row : List Arc) (first : ℕ) (arc : Arc) → row ≡ touching arcs node → first < length row →
    ((d : Arc) → gives (get_or row first d) ≡ Some arc) → Contains (filter_map gives arcs) arc
row-gives arcs gives node row first arc is l some =
    let in_row : Contains row (get_or row first arc) = Contains-get_or row first arc l in
    let in_touching : Contains (touching arcs node) (get_or row first arc) = subst (λ (r : List Arc). Contains r (get_or row first arc)) is in_row in
    filter_map-member gives arcs (get_or row first arc) arc (filter-from (touches node) arcs (get_or row first arc) in_touching) (some arc)

pub or-left : (a b : Bool) → a ≡ true → (a || b) ≡ true
or-left a b e = ap (λ (x : Bool). x || b) e

pub or-right : (a b : Bool) → b ≡ true → (a || b) ≡ true
or-right true b e = refl
or-right false b e = e

pub any-default : (gives : Arc → Option Arc) (row : List Arc) (first : ℕ) (d : Arc) (o : Option Arc) → first < length row → gives (get_or row first d) ≡ o →
    (e : Arc) → gives (get_or row first e) ≡ o
any-default gives row first d o l is e = ap gives (get_or_default row first e d l) ∙ is

-- the node was reached, after fewer arcs than there are nodes in the queue
pub node-seen : (arcs : List Arc) (gives : Arc → Option Arc) (s : ℕ) (marks : List Mark) (queue : List ℕ) (count looked node : ℕ) (row : List Arc) (first : ℕ) →
    IsLooking arcs gives s marks queue count looked node row first → Seen marks node
node-seen arcs gives s marks queue count looked node row first looking = subst (λ (n : ℕ). Seen marks n) looking.node_is (looking.search.reached looked looking.before)

-- the arcs of the row join nodes
pub row-joins : (g : Digraph) (node : ℕ) (row : List Arc) (first : ℕ) (d : Arc) → IsGraph g → row ≡ touching g.arcs node → first < length row →
    Joins g.nodes (get_or row first d)
row-joins g node row first d is row_is l =
    let in_row : Contains row (get_or row first d) = Contains-get_or row first d l in
    let in_touching : Contains (touching g.arcs node) (get_or row first d) = subst (λ (r : List Arc). Contains r (get_or row first d)) row_is in_row in
    All-contains (Joins g.nodes) g.arcs (get_or row first d) is.joined (filter-from (touches node) g.arcs (get_or row first d) in_touching)

pub row-head : (g : Digraph) (node : ℕ) (row : List Arc) (first : ℕ) (d : Arc) (n : ℕ) → IsGraph g → row ≡ touching g.arcs node → first < length row → n ≡ g.nodes →
    (get_or row first d).head < n
row-head g node row first d n is row_is l nodes = let joins : Joins g.nodes (get_or row first d) = row-joins g node row first d is row_is l in omega (arith, joins.head_node, nodes)

-- the search after it followed what an arc of the row gives, if it gives one
pub looking-steps : (arcs : List Arc) (gives : Arc → Option Arc) (s : ℕ) (marks : List Mark) (queue : List ℕ) (count looked node : ℕ) (row : List Arc) (first : ℕ) (d : Arc)
    (new : List Mark) (new_queue : List ℕ) (new_count : ℕ) → IsLooking arcs gives s marks queue count looked node row first → first < length row →
    row ≡ touching arcs node → length queue ≡ length marks → ((next : Arc) → gives (get_or row first d) ≡ Some next → next.head < length marks) →
    Steps (gives (get_or row first d)) marks queue count node new new_queue new_count →
    IsLooking arcs gives s new new_queue new_count looked node row (first + 1) × (count ≤ new_count)
looking-steps arcs gives s marks queue count looked node row first d new new_queue new_count looking l row_is size heads steps =
    elim (none_or_some (gives (get_or row first d))) [
      | inl none ↦
          let same : (new ≡ marks) × (new_queue ≡ queue) × (new_count ≡ count) = subst (λ (o : Option Arc). Steps o marks queue count node new new_queue new_count) none steps in
          let next : IsLooking arcs gives s marks queue count looked node row (first + 1) =
          looking-none arcs gives s marks queue count looked node row first looking (any-default gives row first d None l none) in (
            subst (λ (m : List Mark). IsLooking arcs gives s m new_queue new_count looked node row (first + 1)) (sym same.0)
                (subst (λ (q : List ℕ). IsLooking arcs gives s marks q new_count looked node row (first + 1)) (sym same.1)
                (subst (λ (n : ℕ). IsLooking arcs gives s marks queue n looked node row (first + 1)) (sym same.2) next)),
            omega (arith, same.2),
          )
      | inr (next, e) ↦
          let follows : Follows marks queue count next node new new_queue new_count = subst (λ (o : Option Arc). Steps o marks queue count node new new_queue new_count) e steps in
          let some = any-default gives row first d (Some next) l e in
          let step : IsFollowed (filter_map gives arcs) s marks queue count looked next node new new_queue new_count =
          followed (filter_map gives arcs) s marks queue count looked next node new new_queue new_count looking.search (omega (arith, looking.before)) size
          (row-gives arcs gives node row first next row_is l some) (heads next e) (node-seen arcs gives s marks queue count looked node row first looking) follows in
          (looking-some arcs gives s marks queue count looked node row first next new new_queue new_count looking some step, step.more)
    ]

-- once the whole row was looked at, the search goes on to the next node
pub looked-all : (arcs : List Arc) (gives : Arc → Option Arc) (s : ℕ) (marks : List Mark) (queue : List ℕ) (count looked node : ℕ) (row : List Arc) (first : ℕ) →
    IsLooking arcs gives s marks queue count looked node row first → row ≡ touching arcs node → length row ≤ first →
    ((arc : Arc) → Contains (filter_map gives arcs) arc → (base : Arc) × Contains (touching arcs arc.tail) base × (gives base ≡ Some arc)) →
    IsSearch (filter_map gives arcs) s marks queue count (looked + 1)
looked-all arcs gives s marks queue count looked node row first looking is end rows =
    looked-more (filter_map gives arcs) s marks queue count looked looking.search (λ arc m from.
    let base = rows arc m in
    let tail_is : arc.tail ≡ node = from ∙ looking.node_is in
    let in_row : Contains row base.0 = subst (λ (r : List Arc). Contains r base.0) (ap (λ (n : ℕ). touching arcs n) tail_is ∙ sym is) base.1 in
    let low : in_row.0 < length row = in_row.1 in
    looking.passed in_row.0 base.0 arc (omega (arith, low, end)) (ap gives in_row.2 ∙ base.2) tail_is)

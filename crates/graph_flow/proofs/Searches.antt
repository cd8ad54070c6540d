-- How a search goes on: what holds when it begins, after each arc that it follows, and at its end.
use Rattle.std.proofs.Common.{◌≡◌, ℕ, zero, suc, ◌+◌, ◌*◌, ◌<◌, ◌≤◌, Bool, IsTrue, IsFalse, List, [], ◌∷◌, length}
use Rattle.std.proofs.Common.{get_or, set, Contains, inl, inr, ◌⊎◌, refl, sym, ap, ◌∙◌, subst, arith, sum_by, length-set, get_or-set_same, get_or-set_other}
use Rattle.std.specs.Prelude.{slice_index, if◌then◌else◌}
use Rattle.std.proofs.lemmas.Bool.{cases_eq, cases_lt, false≢true}
use Rattle.std.proofs.lemmas.List.{get_or_past}
use Rattle.std.proofs.lemmas.List.Sums.{sum_by-cons, sum_by-set, sum_by-le}
use Rattle.graph_flow.specs.declared.arcs.Arc.{Arc}
use Rattle.graph_flow.specs.declared.search.Mark.{Mark}
use Rattle.graph_flow.specs.declared.search.Mark.TheVariants.{Unseen, Start, After}
use Rattle.graph_flow.specs.Marks.{is_seen, depth_of, mark_at, IsAfter, IsMarked, IsSpread, seen_once, IsSearch, Follows}

-- the node was reached
abbrev pub Seen : List Mark → ℕ → Type 0
Seen marks node = IsTrue (is_seen (mark_at marks node))

unseen-start : Unseen ≡ Start → ⊥
unseen-start e = cc

unseen-after : (arc : Arc) (depth : ℕ) → Unseen ≡ After arc depth → ⊥
unseen-after arc depth e = cc

start-after : (arc : Arc) (depth : ℕ) → Start ≡ After arc depth → ⊥
start-after arc depth e = cc

after-arc : (a b : Arc) (m n : ℕ) → After a m ≡ After b n → a ≡ b
after-arc a b m n e = cc

after-depth : (a b : Arc) (m n : ℕ) → After a m ≡ After b n → m ≡ n
after-depth a b m n e = cc

unseen-not : (mark : Mark) → mark ≡ Unseen → IsTrue (is_seen mark) → ⊥
unseen-not mark e seen = false≢true (sym (ap is_seen e) ∙ seen)

-- only nodes have marks
pub seen-node : (marks : List Mark) (node : ℕ) → Seen marks node → node < length marks
seen-node marks node seen =
    elim (cases_lt node (length marks)) [
      | inl l ↦ l
      | inr past ↦ absurd (unseen-not (mark_at marks node) (get_or_past marks node Unseen past) seen)
    ]

one-or-none : (mark : Mark) → seen_once mark ≤ 1
one-or-none Unseen = omega arith
one-or-none Start = omega arith
one-or-none (After arc depth) = omega arith

pub count-fits : (marks : List Mark) → sum_by seen_once marks ≤ length marks
count-fits marks =
    let all : sum_by seen_once marks ≤ length marks * 1 = sum_by-le seen_once 1 marks (λ k d l. one-or-none (get_or marks k d)) in omega (arith, all)

abbrev ind : Bool → ℕ
ind b = if b then 1 else 0

once-unseen : (mark : Mark) → IsFalse (is_seen mark) → seen_once mark ≡ 0
once-unseen mark e = ap ind e

-- a new mark at a node that was not seen counts one more
count-more : (marks : List Mark) (node : ℕ) (mark : Mark) → node < length marks → IsFalse (is_seen (mark_at marks node)) → IsTrue (is_seen mark) →
    sum_by seen_once (set marks node mark) ≡ sum_by seen_once marks + 1
count-more marks node mark l unseen seen =
    let entry : sum_by seen_once (set marks node mark) + seen_once (mark_at marks node) ≡ sum_by seen_once marks + seen_once mark = sum_by-set seen_once marks node mark Unseen l in
    let one : seen_once mark ≡ 1 = ap ind seen in
    omega (arith, entry, one, once-unseen (mark_at marks node) unseen)

-- where a node was not seen, the queue has room
pub count-room : (marks : List Mark) (node : ℕ) → node < length marks → IsFalse (is_seen (mark_at marks node)) → sum_by seen_once marks < length marks
count-room marks node l unseen =
    omega (arith, count-more marks node Start l unseen refl, count-fits (set marks node Start), length-set marks node Start)

sum-unseen : (marks : List Mark) → ((node : ℕ) → mark_at marks node ≡ Unseen) → sum_by seen_once marks ≡ 0
sum-unseen [] h = refl
sum-unseen (mark ∷ marks) h =
    let first : seen_once mark ≡ 0 = ap seen_once (h zero) in
    omega (arith, first, sum-unseen marks (λ k. h (suc k)), sum_by-cons seen_once mark marks)

never_after : (marks : List Mark) (s node : ℕ) (arc : Arc) (depth : ℕ) → ((n : ℕ) → mark_at marks n ≡ Unseen) → s < length marks → mark_at (set marks s Start) node ≡ After arc depth → ⊥
never_after marks s node arc depth none l e =
    elim (cases_eq node s) [
      | inl same ↦ start-after arc depth (sym (ap (λ (n : ℕ). mark_at (set marks s Start) n) same ∙ get_or-set_same marks s Start Unseen l) ∙ e)
      | inr ne ↦ unseen-after arc depth (sym (get_or-set_other marks s node Start Unseen ne ∙ none node) ∙ e)
    ]

-- the search begins
pub begun : (arcs : List Arc) (s : ℕ) (marks : List Mark) (queue : List ℕ) → ((node : ℕ) → mark_at marks node ≡ Unseen) → s < length marks → 0 < length queue →
    IsSearch arcs s (set marks s Start) (set queue 0 s) 1 0
begun arcs s marks queue none l room =
    let at : mark_at (set marks s Start) s ≡ Start = get_or-set_same marks s Start Unseen l in
    let off : (node : ℕ) → (node ≡ s → ⊥) → mark_at (set marks s Start) node ≡ Unseen = λ node ne. get_or-set_other marks s node Start Unseen ne ∙ none node in
    record {
      start = at;
      one_start = λ node e. elim (cases_eq node s) [ inl same ↦ same | inr ne ↦ absurd (unseen-start (sym (off node ne) ∙ e)) ];
      steps = λ node arc depth e. absurd (never_after marks s node arc depth none l e);
      over = λ node arc depth e. absurd (never_after marks s node arc depth none l e);
      shallow = λ node seen. elim (cases_eq node s) [
        | inl same ↦ let d : depth_of (mark_at (set marks s Start) node) ≡ 0 = ap (λ (n : ℕ). depth_of (mark_at (set marks s Start) n)) same ∙ ap depth_of at in omega (arith, d)
        | inr ne ↦ absurd (unseen-not (mark_at (set marks s Start) node) (off node ne) seen)
      ];
      queued = λ node seen. elim (cases_eq node s) [
        | inl same ↦ (0, omega arith, get_or-set_same queue 0 s 0 room ∙ sym same)
        | inr ne ↦ absurd (unseen-not (mark_at (set marks s Start) node) (off node ne) seen)
      ];
      reached = λ k few. let first : k ≡ 0 = omega arith in
          let is : slice_index (set queue 0 s) k ≡ s = ap (λ (n : ℕ). slice_index (set queue 0 s) n) first ∙ get_or-set_same queue 0 s 0 room in
          ap (λ (n : ℕ). is_seen (mark_at (set marks s Start) n)) is ∙ ap is_seen at;
      counted = let unseen : IsFalse (is_seen (mark_at marks s)) = ap is_seen (none s) in
          omega (arith, count-more marks s Start l unseen refl, sum-unseen marks none);
      looked_at = λ k few. absurd (omega arith);
    }

-- what the search knew of a seen node stays
kept : (marks : List Mark) (head node : ℕ) (mark : Mark) → IsFalse (is_seen (mark_at marks head)) → Seen marks node → mark_at (set marks head mark) node ≡ mark_at marks node
kept marks head node mark unseen seen =
    get_or-set_other marks head node mark Unseen (λ e. false≢true (sym unseen ∙ ap (λ (n : ℕ). is_seen (mark_at marks n)) (sym e) ∙ seen))

pub kept-seen : (marks : List Mark) (head node : ℕ) (mark : Mark) → IsFalse (is_seen (mark_at marks head)) → Seen marks node → Seen (set marks head mark) node
kept-seen marks head node mark unseen seen = ap is_seen (kept marks head node mark unseen seen) ∙ seen

-- a search that finds one more node over an arc of a list that has those which it looked at, and from seen nodes no others beside that arc
pub found : (arcs more : List Arc) (s : ℕ) (marks : List Mark) (queue : List ℕ) (count looked : ℕ) (arc : Arc) → IsSearch arcs s marks queue count looked → looked ≤ count → count < length queue →
    Contains more arc → arc.head < length marks → Seen marks arc.tail → IsFalse (is_seen (mark_at marks arc.head)) →
    ((a : Arc) → Contains arcs a → Seen marks a.tail → Contains more a) → ((a : Arc) → Contains more a → Seen marks a.tail → Contains arcs a ⊎ (a ≡ arc)) →
    IsSearch more s (set marks arc.head (After arc (depth_of (mark_at marks arc.tail) + 1))) (set queue count arc.head) (count + 1) looked
found arcs more s marks queue count looked arc search few room m l tail unseen keeps adds =
    let new : List Mark = set marks arc.head (After arc (depth_of (mark_at marks arc.tail) + 1)) in
    let at : mark_at new arc.head ≡ After arc (depth_of (mark_at marks arc.tail) + 1) = get_or-set_same marks arc.head (After arc (depth_of (mark_at marks arc.tail) + 1)) Unseen l in
    let off : (node : ℕ) → (node ≡ arc.head → ⊥) → mark_at new node ≡ mark_at marks node =
    λ node ne. get_or-set_other marks arc.head node (After arc (depth_of (mark_at marks arc.tail) + 1)) Unseen ne in
    let stays : (node : ℕ) → Seen marks node → mark_at new node ≡ mark_at marks node =
    λ node seen. kept marks arc.head node (After arc (depth_of (mark_at marks arc.tail) + 1)) unseen seen in
    let places : (k : ℕ) → k < count → slice_index (set queue count arc.head) k ≡ slice_index queue k =
    λ k below. get_or-set_other queue count k arc.head 0 (λ e. omega arith) in
    record {
      start = stays s (ap is_seen search.start) ∙ search.start;
      one_start = λ node e. elim (cases_eq node arc.head) [
        | inl same ↦ absurd (start-after arc (depth_of (mark_at marks arc.tail) + 1) (sym e ∙ ap (λ (n : ℕ). mark_at new n) same ∙ at))
        | inr ne ↦ search.one_start node (sym (off node ne) ∙ e)
      ];
      steps = λ node a d e. elim (cases_eq node arc.head) [
        | inl same ↦
            let is : After arc (depth_of (mark_at marks arc.tail) + 1) ≡ After a d = sym at ∙ ap (λ (n : ℕ). mark_at new n) (sym same) ∙ e in
            let a_is : arc ≡ a = after-arc arc a (depth_of (mark_at marks arc.tail) + 1) d is in
            let d_is : depth_of (mark_at marks arc.tail) + 1 ≡ d = after-depth arc a (depth_of (mark_at marks arc.tail) + 1) d is in
            let tail_is : mark_at new a.tail ≡ mark_at marks arc.tail = ap (λ (x : Arc). mark_at new x.tail) (sym a_is) ∙ stays arc.tail tail in
            record {
              head = ap (λ (x : Arc). x.head) (sym a_is) ∙ sym same;
              tail = ap is_seen tail_is ∙ tail;
              step = sym d_is ∙ ap (λ (x : Mark). depth_of x + 1) (sym tail_is);
            }
        | inr ne ↦
            let old : IsAfter marks node a d = search.steps node a d (sym (off node ne) ∙ e) in
            let tail_is : mark_at new a.tail ≡ mark_at marks a.tail = stays a.tail old.tail in
            record { head = old.head; tail = ap is_seen tail_is ∙ old.tail; step = old.step ∙ ap (λ (x : Mark). depth_of x + 1) (sym tail_is) }
      ];
      over = λ node a d e. elim (cases_eq node arc.head) [
        | inl same ↦
            let is : After arc (depth_of (mark_at marks arc.tail) + 1) ≡ After a d = sym at ∙ ap (λ (n : ℕ). mark_at new n) (sym same) ∙ e in
            subst (λ (x : Arc). Contains more x) (after-arc arc a (depth_of (mark_at marks arc.tail) + 1) d is) m
        | inr ne ↦ keeps a (search.over node a d (sym (off node ne) ∙ e)) (search.steps node a d (sym (off node ne) ∙ e)).tail
      ];
      shallow = λ node seen. elim (cases_eq node arc.head) [
        | inl same ↦
            let is : depth_of (mark_at new node) ≡ depth_of (mark_at marks arc.tail) + 1 = ap depth_of (ap (λ (n : ℕ). mark_at new n) same ∙ at) in
            let low : depth_of (mark_at marks arc.tail) < count = search.shallow arc.tail tail in omega (arith, is, low)
        | inr ne ↦
            let is : depth_of (mark_at new node) ≡ depth_of (mark_at marks node) = ap depth_of (off node ne) in
            let low : depth_of (mark_at marks node) < count = search.shallow node (ap is_seen (sym (off node ne)) ∙ seen) in omega (arith, is, low)
      ];
      queued = λ node seen. elim (cases_eq node arc.head) [
        | inl same ↦ (count, omega arith, get_or-set_same queue count arc.head 0 room ∙ sym same)
        | inr ne ↦ let old = search.queued node (ap is_seen (sym (off node ne)) ∙ seen) in
            let below : old.0 < count = old.1 in (old.0, omega (arith, below), places old.0 old.1 ∙ old.2)
      ];
      reached = λ k below. elim (cases_lt k count) [
        | inl before ↦ ap (λ (n : ℕ). is_seen (mark_at new n)) (places k before)
            ∙ kept-seen marks arc.head (slice_index queue k) (After arc (depth_of (mark_at marks arc.tail) + 1)) unseen (search.reached k before)
        | inr last ↦ let is : k ≡ count = omega arith in
            ap (λ (n : ℕ). is_seen (mark_at new n)) (ap (λ (n : ℕ). slice_index (set queue count arc.head) n) is ∙ get_or-set_same queue count arc.head 0 room) ∙ ap is_seen at
      ];
      counted = omega (arith, search.counted, count-more marks arc.head (After arc (depth_of (mark_at marks arc.tail) + 1)) l unseen refl);
      looked_at = λ k below a a_in from.
          let at_tail : a.tail ≡ slice_index queue k = from ∙ places k (omega arith) in
          let was_seen : Seen marks a.tail = ap (λ (n : ℕ). is_seen (mark_at marks n)) at_tail ∙ search.reached k (omega arith) in
          elim (adds a a_in was_seen) [
            | inl before ↦ kept-seen marks arc.head a.head (After arc (depth_of (mark_at marks arc.tail) + 1)) unseen (search.looked_at k below a before at_tail)
            | inr is ↦ ap (λ (x : Arc). is_seen (mark_at new x.head)) is ∙ ap is_seen at
          ];
    }

-- the search after it followed an arc: what it knew stays, and the head of the arc is seen if the arc leads from the node
pub record IsFollowed (arcs : List Arc) (s : ℕ) (marks : List Mark) (queue : List ℕ) (count looked : ℕ) (arc : Arc) (node : ℕ) (new : List Mark) (new_queue : List ℕ) (new_count : ℕ) : Type 0 where
  pub search : IsSearch arcs s new new_queue new_count looked
  pub more : count ≤ new_count
  pub seen : (x : ℕ) → Seen marks x → Seen new x
  pub places : (k : ℕ) → k < count → slice_index new_queue k ≡ slice_index queue k
  pub head : arc.tail ≡ node → Seen new arc.head

pub followed : (arcs : List Arc) (s : ℕ) (marks : List Mark) (queue : List ℕ) (count looked : ℕ) (arc : Arc) (node : ℕ) (new : List Mark) (new_queue : List ℕ) (new_count : ℕ) →
    IsSearch arcs s marks queue count looked → looked ≤ count → length queue ≡ length marks → Contains arcs arc → arc.head < length marks → Seen marks node →
    Follows marks queue count arc node new new_queue new_count → IsFollowed arcs s marks queue count looked arc node new new_queue new_count
followed arcs s marks queue count looked arc node new new_queue new_count search few size m l at (inl stays) =
    let same : IsFollowed arcs s marks queue count looked arc node marks queue count =
    record { search = search; more = omega arith; seen = λ x h. h; places = λ k h. refl; head = stays.seen } in
    subst (λ (n : List Mark). IsFollowed arcs s marks queue count looked arc node n new_queue new_count) (sym stays.same_marks)
    (subst (λ (q : List ℕ). IsFollowed arcs s marks queue count looked arc node marks q new_count) (sym stays.same_queue)
    (subst (λ (n : ℕ). IsFollowed arcs s marks queue count looked arc node marks queue n) (sym stays.same_count) same))
followed arcs s marks queue count looked arc node new new_queue new_count search few size m l at (inr finds) =
    let tail : Seen marks arc.tail = ap (λ (n : ℕ). is_seen (mark_at marks n)) finds.tail ∙ at in
    let room : count < length queue = omega (arith, count-room marks arc.head l finds.unseen, search.counted, size) in
    let same : After arc (depth_of (mark_at marks node) + 1) ≡ After arc (depth_of (mark_at marks arc.tail) + 1) = ap (λ (n : ℕ). After arc (depth_of (mark_at marks n) + 1)) (sym finds.tail) in
    let marked : new ≡ set marks arc.head (After arc (depth_of (mark_at marks arc.tail) + 1)) = finds.marked ∙ ap (λ (x : Mark). set marks arc.head x) same in
    let step : IsFollowed arcs s marks queue count looked arc node (set marks arc.head (After arc (depth_of (mark_at marks arc.tail) + 1))) (set queue count arc.head) (count + 1) =
    record {
      search = found arcs arcs s marks queue count looked arc search few room m l tail finds.unseen (λ a a_in _. a_in) (λ a a_in _. inl a_in);
      more = omega arith;
      seen = λ x h. kept-seen marks arc.head x (After arc (depth_of (mark_at marks arc.tail) + 1)) finds.unseen h;
      places = λ k below. get_or-set_other queue count k arc.head 0 (λ e. omega arith);
      head = λ _. ap is_seen (get_or-set_same marks arc.head (After arc (depth_of (mark_at marks arc.tail) + 1)) Unseen l);
    } in
    subst (λ (n : List Mark). IsFollowed arcs s marks queue count looked arc node n new_queue new_count) (sym marked)
    (subst (λ (q : List ℕ). IsFollowed arcs s marks queue count looked arc node (set marks arc.head (After arc (depth_of (mark_at marks arc.tail) + 1))) q new_count) (sym finds.put)
    (subst (λ (n : ℕ). IsFollowed arcs s marks queue count looked arc node (set marks arc.head (After arc (depth_of (mark_at marks arc.tail) + 1))) (set queue count arc.head) n)
    (sym finds.one_more) step))

seen-or-not : (mark : Mark) → IsTrue (is_seen mark) ⊎ (depth_of mark ≡ 0)
seen-or-not Unseen = inr refl
seen-or-not Start = inl refl
seen-or-not (After arc depth) = inl refl

-- at any time a search knows how it came to the nodes that it has reached
pub is-marked : (arcs : List Arc) (s : ℕ) (marks : List Mark) (queue : List ℕ) (count looked : ℕ) → IsSearch arcs s marks queue count looked → IsMarked arcs s marks
is-marked arcs s marks queue count looked search = record {
  start = search.start;
  one_start = search.one_start;
  steps = search.steps;
  over = search.over;
  shallow = λ node. elim (seen-or-not (mark_at marks node)) [
    | inl seen ↦ let low : depth_of (mark_at marks node) < count = search.shallow node seen in omega (arith, low, search.counted, count-fits marks)
    | inr none ↦ omega (arith, none)
  ];
}

-- a search that has looked at the arcs of all nodes of its queue is done
pub done : (arcs : List Arc) (s : ℕ) (marks : List Mark) (queue : List ℕ) (count looked : ℕ) → IsSearch arcs s marks queue count looked → count ≤ looked → IsSpread arcs s marks
done arcs s marks queue count looked search all = record {
  marked = is-marked arcs s marks queue count looked search;
  closed = λ arc m seen. let at = search.queued arc.tail seen in let below : at.0 < count = at.1 in search.looked_at at.0 (omega (arith, below)) arc m (sym at.2);
}

-- the search goes on to the next node of the queue
pub looked-more : (arcs : List Arc) (s : ℕ) (marks : List Mark) (queue : List ℕ) (count looked : ℕ) → IsSearch arcs s marks queue count looked →
    ((arc : Arc) → Contains arcs arc → arc.tail ≡ slice_index queue looked → Seen marks arc.head) → IsSearch arcs s marks queue count (looked + 1)
looked-more arcs s marks queue count looked search here = record {
  start = search.start;
  one_start = search.one_start;
  steps = search.steps;
  over = search.over;
  shallow = search.shallow;
  queued = search.queued;
  reached = search.reached;
  counted = search.counted;
  looked_at = λ k below arc m from. elim (cases_lt k looked) [
    | inl before ↦ search.looked_at k before arc m from
    | inr last ↦ let is : k ≡ looked = omega arith in here arc m (from ∙ ap (λ (n : ℕ). slice_index queue n) is)
  ];
}

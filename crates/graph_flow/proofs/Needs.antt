-- A path is walked beside the residual network of its own unit: a node of it that the network does not lead to is behind a link that is needed.
use Rattle.std.proofs.Common.{◌≡◌, ℕ, ◌<◌, Bool, true, not, IsTrue, IsFalse, IsSome, ◌↔◌, List, [], ◌∷◌, ◌++◌, length, set}
use Rattle.std.proofs.Common.{All, AllPairs, Contains, inl, inr, ◌⊎◌, refl, sym, ap, ◌∙◌, subst, arith, Some, None, Option, get_or-set_same, get_or-set_other}
use Rattle.std.specs.Prelude.{◌==◌, is_some}
use Rattle.std.proofs.lemmas.Bool.{cases_eq, cases_Bool, eq-eqb, ne_eqb, false≢true}
use Rattle.std.proofs.lemmas.List.Elements.{All-contains, filter_passes}
use Rattle.arc_base.specs.declared.place.Link.{Link}
use Rattle.graph_flow.specs.declared.arcs.Arc.{Arc}
use Rattle.graph_flow.specs.Paths.{ArcPath, Leads, Digraph, IsGraph, Joins, links_of}
use Rattle.graph_flow.specs.Flows.{Units, unit_at}
use Rattle.graph_flow.specs.Residual.{residual, sent, turn}
use Rattle.graph_flow.specs.Marks.{is_seen, depth_of, mark_at, way_to, IsSpread, IsSearch}
use Rattle.graph_flow.specs.declared.search.Mark.{Mark}
use Rattle.graph_flow.specs.Needed.{without, IsNeeded}
use Rattle.graph_flow.proofs.Lists.{Contains-here, Contains-there, Contains-none, Contains-cases, AllPairs-head, AllPairs-tail, filter-member, filter-from}
use Rattle.graph_flow.proofs.Ways.{Path-snoc, Path-append, Path-over, stays_inside, leads, leads-start, leads-closed, way_from_leads, leads_from_way}
use Rattle.graph_flow.proofs.Turns.{OnArcs, OnArcs-set, OnArcs-sent, IsRoute, IsRoute-rest, place_left, sent-other, turn-none, turn-other, none≢some, some-inj}
use Rattle.graph_flow.proofs.Residuals.{Source, residual-source, residual-free, route, same_link}
use Rattle.graph_flow.proofs.Opened.{kept-arc}
use Rattle.graph_flow.proofs.Searches.{Seen, done}
use Rattle.graph_flow.proofs.Marked.{Reached, to-reached, seen-leads, leads-seen}
use Rattle.graph_flow.proofs.Cuts.{Closed, none_in, all_out, place_below}

-- the arcs are of other links than the first of two
abbrev pub Apart : Arc → Arc → Type 0
Apart a b = b.link.0 ≡ a.link.0 → ⊥

-- an arc of another link is left
pub left : (arcs : List Arc) (link : Link) (arc : Arc) → Contains arcs arc → (arc.link.0 ≡ link.0 → ⊥) → Contains (without arcs link) arc
left arcs link arc m other = filter-member (λ a. not (a.link.0 == link.0)) arcs arc m (ap not (ne_eqb arc.link.0 link.0 other))

-- and no other one
pub left-other : (arcs : List Arc) (link : Link) (arc : Arc) → Contains (without arcs link) arc → arc.link.0 ≡ link.0 → ⊥
left-other arcs link arc m same =
    let passes : not (arc.link.0 == link.0) ≡ true = All-contains (λ a. not (a.link.0 == link.0) ≡ true) (without arcs link) arc (filter_passes (λ a. not (a.link.0 == link.0)) arcs) m in
    false≢true (sym (ap not (eq-eqb arc.link.0 link.0 same)) ∙ passes)

-- one arc more at the end
leads-on : (arcs : List Arc) (u : ℕ) (arc : Arc) → Leads arcs u arc.tail → Contains arcs arc → Leads arcs u arc.head
leads-on arcs u arc w m = (w.0 ++ arc ∷ [], Path-snoc arcs u w.0 arc w.1 m)

-- one arc more at the beginning
leads-from : (arcs : List Arc) (u v : ℕ) (arc : Arc) → Contains arcs arc → arc.tail ≡ u → Leads arcs arc.head v → Leads arcs u v
leads-from arcs u v arc m from w = (arc ∷ w.0, (m, from, w.1))

joined : (arcs : List Arc) (u v x : ℕ) → Leads arcs u v → Leads arcs v x → Leads arcs u x
joined arcs u v x a b = (a.0 ++ b.0, Path-append arcs u v x a.0 b.0 a.1 b.1)

-- a way of other links is left
way-left : (arcs : List Arc) (link : Link) (u v : ℕ) (way : List Arc) → ArcPath arcs u way v → ((b : Arc) → Contains way b → b.link.0 ≡ link.0 → ⊥) → Leads (without arcs link) u v
way-left arcs link u v [] p other = ([], p)
way-left arcs link u v (arc ∷ way) p other =
    leads-from (without arcs link) u v arc (left arcs link arc p.0 (other arc (Contains-here arc way))) p.1
    (way-left arcs link arc.head v way p.2 (λ b m. other b (Contains-there arc way b m)))

-- and so is what follows each of its arcs
rest-left : (arcs : List Arc) (link : Link) (u v : ℕ) (way : List Arc) → ArcPath arcs u way v → ((b : Arc) → Contains way b → b.link.0 ≡ link.0 → ⊥) →
    (b : Arc) → Contains way b → Leads (without arcs link) b.head v
rest-left arcs link u v [] p other b m = absurd (Contains-none b m)
rest-left arcs link u v (arc ∷ way) p other b m =
    let rest : (c : Arc) → Contains way c → c.link.0 ≡ link.0 → ⊥ = λ c n. other c (Contains-there arc way c n) in
    elim (Contains-cases arc way b m) [
      | inl e ↦ subst (λ (x : Arc). Leads (without arcs link) x.head v) e (way-left arcs link arc.head v way p.2 rest)
      | inr n ↦ rest-left arcs link arc.head v way p.2 rest b n
    ]

-- a needed link is one of each path
pub on-path : (arcs : List Arc) (link : Link) (u v : ℕ) (way : List Arc) → ArcPath arcs u way v → IsNeeded arcs u v link → Contains (links_of way) link
on-path arcs link u v [] p needed = absurd (needed ([], p))
on-path arcs link u v (arc ∷ way) p needed =
    elim (cases_eq arc.link.0 link.0) [
      | inl same ↦ subst (λ (k : Link). Contains (links_of (arc ∷ way)) k) (same_link arc.link link same) (Contains-here arc.link (links_of way))
      | inr other ↦ Contains-there arc.link (links_of way) link
          (on-path arcs link arc.head v way p.2 (λ w. needed (leads-from (without arcs link) u v arc (left arcs link arc p.0 other) p.1 w)))
    ]

-- where each arc of a way carries its unit, a closed side with the tail of one holds the first node
back : (arcs : List Arc) (units : Units) (side : ℕ → Bool) → OnArcs arcs units → Closed arcs units side → (u v : ℕ) (way : List Arc) → ArcPath arcs u way v →
    ((b : Arc) → Contains way b → unit_at units b.link.0 ≡ Some b) → (b : Arc) → Contains way b → IsTrue (side b.tail) → IsTrue (side u)
back arcs units side on closed u v [] p full b m inside = absurd (Contains-none b m)
back arcs units side on closed u v (arc ∷ way) p full b m inside =
    let tail : IsTrue (side arc.tail) → IsTrue (side u) = λ h. subst (λ (n : ℕ). IsTrue (side n)) p.1 h in
    elim (Contains-cases arc way b m) [
      | inl e ↦ tail (subst (λ (x : Arc). IsTrue (side x.tail)) (sym e) inside)
      | inr n ↦ tail (none_in arcs units side on closed arc.link.0 arc (full arc (Contains-here arc way))
          (back arcs units side on closed arc.head v way p.2 (λ c k. full c (Contains-there arc way c k)) b n inside))
    ]

-- and so does one with its last node
back-end : (arcs : List Arc) (units : Units) (side : ℕ → Bool) → OnArcs arcs units → Closed arcs units side → (u v : ℕ) (way : List Arc) → ArcPath arcs u way v →
    ((b : Arc) → Contains way b → unit_at units b.link.0 ≡ Some b) → IsTrue (side v) → IsTrue (side u)
back-end arcs units side on closed u v [] p full inside = subst (λ (n : ℕ). IsTrue (side n)) (sym p) inside
back-end arcs units side on closed u v (arc ∷ way) p full inside =
    subst (λ (n : ℕ). IsTrue (side n)) p.1 (none_in arcs units side on closed arc.link.0 arc (full arc (Contains-here arc way))
    (back-end arcs units side on closed arc.head v way p.2 (λ c k. full c (Contains-there arc way c k)) inside))

-- the arc was passed: the network leads to its head, and without any link of the rest the graph leads to its tail
pub record Passed (arcs : List Arc) (s : ℕ) (carried : Units) (rest : List Arc) (arc : Arc) : Type 0 where
  pub head : Leads (residual carried arcs) s arc.head
  pub tail : (a : Arc) → Contains rest a → Leads (without arcs a.link) s arc.tail

-- a path from s to t that is walked up to a rest of it
pub record Walked (arcs : List Arc) (s t : ℕ) (carried needed : Units) (rest : List Arc) : Type 0 where
  pub at : ℕ
  pub path : ArcPath arcs at rest t
  pub here : Leads (residual carried arcs) s at
  pub apart : AllPairs Apart rest
  pub on : OnArcs arcs carried
  pub full : (a : Arc) → Contains rest a → unit_at carried a.link.0 ≡ Some a
  pub spared : (a : Arc) → Contains rest a → Leads (without arcs a.link) s at
  pub units : (link : ℕ) (b : Arc) → unit_at carried link ≡ Some b → Contains rest b ⊎ Passed arcs s carried rest b
  pub found : (link : Link) → IsSome (unit_at needed link.0) → IsNeeded arcs s t link
  pub all : (link : Link) → IsNeeded arcs s t link → IsSome (unit_at needed link.0) ⊎ Contains (links_of rest) link
  pub of_link : (link : ℕ) (a : Arc) → unit_at needed link ≡ Some a → a.link.0 ≡ link

module _ (g : Digraph) (is : IsGraph g) (s t : ℕ) (carried needed : Units) (arc : Arc) (rest : List Arc) (w : Walked g.arcs s t carried needed (arc ∷ rest)) where
  other : (b : Arc) → Contains rest b → b.link.0 ≡ arc.link.0 → ⊥
  other b m = All-contains (λ x. Apart arc x) rest b (AllPairs-head Apart arc rest w.apart) m

  is_arc : Contains g.arcs arc
  is_arc = w.path.0

  full_rest : (b : Arc) → Contains rest b → unit_at carried b.link.0 ≡ Some b
  full_rest b m = w.full b (Contains-there arc rest b m)

  -- behind the arc's tail the graph leads to the target without its link
  behind : (b : Arc) → Contains (arc ∷ rest) b → Leads (without g.arcs arc.link) b.head t
  behind b m =
      elim (Contains-cases arc rest b m) [
        | inl e ↦ subst (λ (x : Arc). Leads (without g.arcs arc.link) x.head t) e (way-left g.arcs arc.link arc.head t rest w.path.2 other)
        | inr n ↦ rest-left g.arcs arc.link arc.head t rest w.path.2 other b n
      ]

  -- where the network leads to the arc's head, its link is not needed
  pub is_spared : Leads (residual carried g.arcs) s arc.head → IsNeeded g.arcs s t arc.link → ⊥
  is_spared seen none =
      let ends : (b : Arc) → Contains (arc ∷ rest) b → Leads (without g.arcs arc.link) s b.head → ⊥ =
      λ b m to. none (joined (without g.arcs arc.link) s b.head t to (behind b m)) in
      let closed : (r : Arc) → Contains (residual carried g.arcs) r → Leads (without g.arcs arc.link) s r.tail → Leads (without g.arcs arc.link) s r.head =
      λ r m to. let from : Source g.arcs carried r = residual-source g.arcs carried r m in
      elim from.how [
        | inl free ↦
            let away : from.base.link.0 ≡ arc.link.0 → ⊥ = λ e.
            none≢some arc (unit_at carried arc.link.0) (ap (λ (n : ℕ). unit_at carried n) (sym e) ∙ free.0) (w.full arc (Contains-here arc rest)) in
            leads-on (without g.arcs arc.link) s r to (subst (λ (x : Arc). Contains (without g.arcs arc.link) x) free.1 (left g.arcs arc.link from.base from.is_base away))
        | inr (used, e, same, turned_is) ↦
            let to_head : Leads (without g.arcs arc.link) s used.head = subst (λ (x : Arc). Leads (without g.arcs arc.link) s x.tail) (sym turned_is) to in
            elim (w.units from.base.link.0 used e) [
              | inl m ↦ absurd (ends used m to_head)
              | inr passed ↦ subst (λ (x : Arc). Leads (without g.arcs arc.link) s x.head) turned_is (passed.tail arc (Contains-here arc rest))
            ]
      ] in
      ends arc (Contains-here arc rest) (stays_inside (residual carried g.arcs) (λ (n : ℕ). Leads (without g.arcs arc.link) s n) closed s arc.head seen.0 seen.1 ([], refl))

  -- where it does not, the link is needed
  pub is_needed : (Leads (residual carried g.arcs) s arc.head → ⊥) → IsNeeded g.arcs s t arc.link
  is_needed unseen to =
      let side : ℕ → Bool = leads (residual carried g.arcs) s in
      let shut : Closed g.arcs carried side = leads-closed (residual carried g.arcs) s in
      let never : IsTrue (side arc.head) → ⊥ = λ h. unseen (way_from_leads (residual carried g.arcs) s arc.head h) in
      let closed : (b : Arc) → Contains (without g.arcs arc.link) b → IsTrue (side b.tail) → IsTrue (side b.head) =
      λ b m inside. elim (cases_Bool (side b.head)) [
        | inl h ↦ h
        | inr outside ↦
            let unit : unit_at carried b.link.0 ≡ Some b =
            all_out g carried side is w.on shut b (filter-from (λ a. not (a.link.0 == arc.link.0)) g.arcs b m) (record { from_inside = inside; to_outside = outside }) in
            elim (w.units b.link.0 b unit) [
              | inl on_rest ↦ elim (Contains-cases arc rest b on_rest) [
                | inl e ↦ absurd (left-other g.arcs arc.link b m (ap (λ (x : Arc). x.link.0) (sym e)))
                | inr n ↦ absurd (never (back g.arcs carried side w.on shut arc.head t rest w.path.2 full_rest b n inside))
              ]
              | inr passed ↦ leads_from_way (residual carried g.arcs) s b.head passed.head
            ]
      ] in
      never (back-end g.arcs carried side w.on shut arc.head t rest w.path.2 full_rest
      (stays_inside (without g.arcs arc.link) (λ (n : ℕ). IsTrue (side n)) closed s t to.0 to.1 (leads-start (residual carried g.arcs) s)))

  -- the graph leads to the arc's head without any link of the rest
  spared_on : (a : Arc) → Contains rest a → Leads (without g.arcs a.link) s arc.head
  spared_on a m =
      leads-on (without g.arcs a.link) s arc (subst (λ (n : ℕ). Leads (without g.arcs a.link) s n) (sym w.path.1) (w.spared a (Contains-there arc rest a m)))
      (left g.arcs a.link arc is_arc (λ e. other a m (sym e)))

  spared_tail : (a : Arc) → Contains rest a → Leads (without g.arcs a.link) s arc.tail
  spared_tail a m = subst (λ (n : ℕ). Leads (without g.arcs a.link) s n) (sym w.path.1) (w.spared a (Contains-there arc rest a m))

  -- the links that are needed were noted, or are of the rest
  still : (link : Link) → (arc.link ≡ link → IsSome (unit_at needed link.0) ⊎ Contains (links_of rest) link) → IsNeeded g.arcs s t link →
      IsSome (unit_at needed link.0) ⊎ Contains (links_of rest) link
  still link here none =
      elim (w.all link none) [
        | inl noted ↦ inl noted
        | inr on_rest ↦ elim (Contains-cases arc.link (links_of rest) link on_rest) [
          | inl e ↦ here e
          | inr n ↦ inr n
        ]
      ]

  -- the walk goes on over an arc whose head the network leads to
  pub skipped : Leads (residual carried g.arcs) s arc.head → Walked g.arcs s t carried needed rest
  skipped seen = record {
    at = arc.head;
    path = w.path.2;
    here = seen;
    apart = AllPairs-tail Apart arc rest w.apart;
    on = w.on;
    full = full_rest;
    spared = spared_on;
    units = λ link b e. elim (w.units link b e) [
      | inl on_rest ↦ elim (Contains-cases arc rest b on_rest) [
        | inl same ↦ inr (subst (λ (x : Arc). Passed g.arcs s carried rest x) same (record { head = seen; tail = spared_tail }))
        | inr n ↦ inl n
      ]
      | inr passed ↦ inr (record { head = passed.head; tail = λ a m. passed.tail a (Contains-there arc rest a m) })
    ];
    found = w.found;
    all = λ link none. still link (λ e. absurd (is_spared seen (subst (λ (k : Link). IsNeeded g.arcs s t k) (sym e) none))) none;
    of_link = w.of_link;
  }

  -- what the network led to it leads to once the arc's unit is taken away
  wider : (Leads (residual carried g.arcs) s arc.head → ⊥) → (v : ℕ) → Leads (residual carried g.arcs) s v → Leads (residual (set carried arc.link.0 None) g.arcs) s v
  wider unseen v to =
      let place : arc.link.0 < length carried = place_below carried arc.link.0 arc (w.full arc (Contains-here arc rest)) in
      let P : ℕ → Type 0 = λ n. Leads (residual carried g.arcs) s n × Leads (residual (set carried arc.link.0 None) g.arcs) s n in
      let closed : (r : Arc) → Contains (residual carried g.arcs) r → P r.tail → P r.head =
      λ r m h. (
        leads-on (residual carried g.arcs) s r h.0 m,
        leads-on (residual (set carried arc.link.0 None) g.arcs) s r h.1 (kept-arc g.arcs carried arc w.on place (w.full arc (Contains-here arc rest)) r m
            (λ e. unseen (subst (λ (n : ℕ). Leads (residual carried g.arcs) s n) e h.0))),
      ) in
      (stays_inside (residual carried g.arcs) P closed s v to.0 to.1 (([], refl), ([], refl))).1

  -- the walk goes on over an arc whose link is needed
  pub noted : (Leads (residual carried g.arcs) s arc.head → ⊥) → arc.link.0 < length needed →
      Walked g.arcs s t (set carried arc.link.0 None) (set needed arc.link.0 (Some arc)) rest
  noted unseen room =
      let unit : unit_at carried arc.link.0 ≡ Some arc = w.full arc (Contains-here arc rest) in
      let place : arc.link.0 < length carried = place_below carried arc.link.0 arc unit in
      let none_here : unit_at (set carried arc.link.0 None) arc.link.0 ≡ None = get_or-set_same carried arc.link.0 None None place in
      let some_here : unit_at (set needed arc.link.0 (Some arc)) arc.link.0 ≡ Some arc = get_or-set_same needed arc.link.0 (Some arc) None room in
      let off : (link : ℕ) → (arc.link.0 ≡ link → ⊥) → unit_at (set carried arc.link.0 None) link ≡ unit_at carried link =
      λ link ne. get_or-set_other carried arc.link.0 link None None (λ f. ne (sym f)) in
      let off_needed : (link : ℕ) → (arc.link.0 ≡ link → ⊥) → unit_at (set needed arc.link.0 (Some arc)) link ≡ unit_at needed link =
      λ link ne. get_or-set_other needed arc.link.0 link (Some arc) None (λ f. ne (sym f)) in
      record {
        at = arc.head;
        path = w.path.2;
        here = leads-on (residual (set carried arc.link.0 None) g.arcs) s arc
            (wider unseen arc.tail (subst (λ (n : ℕ). Leads (residual carried g.arcs) s n) (sym w.path.1) w.here))
            (residual-free g.arcs (set carried arc.link.0 None) arc is_arc none_here);
        apart = AllPairs-tail Apart arc rest w.apart;
        on = OnArcs-set g.arcs carried arc.link.0 None w.on place (λ b e. absurd (none≢some b None refl e));
        full = λ a m. off a.link.0 (λ e. other a m (sym e)) ∙ full_rest a m;
        spared = spared_on;
        units = λ link b e. elim (cases_eq arc.link.0 link) [
          | inl same ↦ absurd (none≢some b (unit_at (set carried arc.link.0 None) link) (ap (λ (n : ℕ). unit_at (set carried arc.link.0 None) n) (sym same) ∙ none_here) e)
          | inr ne ↦ elim (w.units link b (sym (off link ne) ∙ e)) [
            | inl on_rest ↦ elim (Contains-cases arc rest b on_rest) [
              | inl same ↦ absurd (ne (ap (λ (x : Arc). x.link.0) same ∙ w.on.of_link link b (sym (off link ne) ∙ e)))
              | inr n ↦ inl n
            ]
            | inr passed ↦ inr (record { head = wider unseen b.head passed.head; tail = λ a m. passed.tail a (Contains-there arc rest a m) })
          ]
        ];
        found = λ link some. elim (cases_eq arc.link.0 link.0) [
          | inl same ↦ subst (λ (k : Link). IsNeeded g.arcs s t k) (same_link arc.link link same) (is_needed unseen)
          | inr ne ↦ w.found link (subst (λ (o : Option Arc). IsSome o) (off_needed link.0 ne) some)
        ];
        all = λ link none. elim (cases_eq arc.link.0 link.0) [
          | inl same ↦ inl (ap (λ (n : ℕ). is_some (unit_at (set needed arc.link.0 (Some arc)) n)) (sym same) ∙ ap is_some some_here)
          | inr ne ↦ elim (still link (λ e. absurd (ne (ap (λ (k : Link). k.0) e))) none) [
            | inl before ↦ inl (subst (λ (o : Option Arc). IsSome o) (sym (off_needed link.0 ne)) before)
            | inr on_rest ↦ inr on_rest
          ]
        ];
        of_link = λ link a e. elim (cases_eq arc.link.0 link) [
          | inl same ↦ ap (λ (x : Arc). x.link.0)
              (sym (some-inj arc a (unit_at (set needed arc.link.0 (Some arc)) link) (ap (λ (n : ℕ). unit_at (set needed arc.link.0 (Some arc)) n) (sym same) ∙ some_here) e)) ∙ same
          | inr ne ↦ w.of_link link a (sym (off_needed link ne) ∙ e)
        ];
      }

-- the walk beside a search that has looked at all nodes to which the residual network leads
module _ (g : Digraph) (is : IsGraph g) (s t : ℕ) (carried needed : Units) (marks : List Mark) (queue : List ℕ) (count : ℕ) (arc : Arc) (rest : List Arc)
    (w : Walked g.arcs s t carried needed (arc ∷ rest)) (search : IsSearch (residual carried g.arcs) s marks queue count count) where
  spread : IsSpread (residual carried g.arcs) s marks
  spread = done (residual carried g.arcs) s marks queue count count search (omega arith)

  pub tail_seen : Seen marks arc.tail
  tail_seen = leads-seen (residual carried g.arcs) s marks spread arc.tail (subst (λ (n : ℕ). Leads (residual carried g.arcs) s n) (sym w.path.1) w.here)

  pub head_node : arc.head < g.nodes
  head_node = let joins : Joins g.nodes arc = All-contains (Joins g.nodes) g.arcs arc is.joined w.path.0 in joins.head_node

  pub over_seen : Seen marks arc.head → Walked g.arcs s t carried needed rest
  over_seen seen = skipped g is s t carried needed arc rest w (seen-leads (residual carried g.arcs) s marks spread arc.head seen)

  pub over_unseen : IsFalse (is_seen (mark_at marks arc.head)) → arc.link.0 < length needed →
      Walked g.arcs s t (set carried arc.link.0 None) (set needed arc.link.0 (Some arc)) rest
  over_unseen unseen room =
      noted g is s t carried needed arc rest w (λ to. false≢true (sym unseen ∙ leads-seen (residual carried g.arcs) s marks spread arc.head to)) room

-- at the end of the walk the links that were noted are those that are needed
pub walked-all : (arcs : List Arc) (s t : ℕ) (carried needed : Units) → Walked arcs s t carried needed [] → (link : Link) → IsSome (unit_at needed link.0) ↔ IsNeeded arcs s t link
walked-all arcs s t carried needed w link = (
  w.found link,
  λ none. elim (w.all link none) [
    | inl noted ↦ noted
    | inr on_rest ↦ absurd (Contains-none link on_rest)
  ],
)

-- once a way of other links each was sent, each of its arcs carries its unit
sent-full : (arcs : List Arc) (none : Units) → ((link : ℕ) → unit_at none link ≡ None) → (way : List Arc) → IsRoute arcs none way → (a : Arc) → Contains way a →
    unit_at (sent none way) a.link.0 ≡ Some a
sent-full arcs none nothing [] r a m = absurd (Contains-none a m)
sent-full arcs none nothing (arc ∷ way) r a m =
    let first : All (λ x. Apart arc x) way = AllPairs-head Apart arc way r.apart in
    let free : unit_at (sent none way) arc.link.0 ≡ None =
    sent-other none way arc.link.0 (λ b n. All-contains (λ x. Apart arc x) way b first n) ∙ nothing arc.link.0 in
    elim (Contains-cases arc way a m) [
      | inl e ↦
          let here : unit_at (turn (sent none way) arc) arc.link.0 ≡ Some arc =
          ap (λ (u : Units). unit_at u arc.link.0) (turn-none (sent none way) arc free) ∙ get_or-set_same (sent none way) arc.link.0 (Some arc) None (place_left arcs none arc way r) in
          subst (λ (x : Arc). unit_at (sent none (arc ∷ way)) x.link.0 ≡ Some x) e here
      | inr n ↦ turn-other (sent none way) arc a.link.0 (λ e. All-contains (λ x. Apart arc x) way a first n (sym e)) ∙ sent-full arcs none nothing way (IsRoute-rest arcs none arc way r) a n
    ]

-- and no other arc does
sent-only : (arcs : List Arc) (none : Units) → ((link : ℕ) → unit_at none link ≡ None) → (way : List Arc) → IsRoute arcs none way → (link : ℕ) (b : Arc) →
    unit_at (sent none way) link ≡ Some b → Contains way b
sent-only arcs none nothing [] r link b e = absurd (none≢some b (unit_at none link) (nothing link) e)
sent-only arcs none nothing (arc ∷ way) r link b e =
    elim (cases_eq arc.link.0 link) [
      | inl same ↦
          let here : unit_at (sent none (arc ∷ way)) link ≡ Some arc =
          ap (λ (n : ℕ). unit_at (sent none (arc ∷ way)) n) (sym same) ∙ sent-full arcs none nothing (arc ∷ way) r arc (Contains-here arc way) in
          subst (λ (x : Arc). Contains (arc ∷ way) x) (some-inj arc b (unit_at (sent none (arc ∷ way)) link) here e) (Contains-here arc way)
      | inr ne ↦ Contains-there arc way b (sent-only arcs none nothing way (IsRoute-rest arcs none arc way r) link b (sym (turn-other (sent none way) arc link ne) ∙ e))
    ]

-- the walk begins with the whole way by which the target was reached
pub started : (g : Digraph) → IsGraph g → (s t : ℕ) (marks : List Mark) → IsSpread g.arcs s marks → Seen marks t → (none needed : Units) →
    ((link : ℕ) → unit_at none link ≡ None) → ((link : ℕ) → unit_at needed link ≡ None) → All (λ arc. arc.link.0 < length none) g.arcs →
    Walked g.arcs s t (sent none (way_to marks t)) needed (way_to marks t)
started g is s t marks spread seen none needed nothing not_yet room =
    let way : List Arc = way_to marks t in
    let r : Reached g.arcs s marks t (depth_of (mark_at marks t)) = to-reached g.arcs s marks spread.marked t seen in
    let on : OnArcs g.arcs none = record {
      is_arc = λ link b e. absurd (none≢some b (unit_at none link) (nothing link) e);
      of_link = λ link b e. absurd (none≢some b (unit_at none link) (nothing link) e);
    } in
    let free : ArcPath (residual none g.arcs) s way t = Path-over g.arcs (residual none g.arcs) (λ b m. residual-free g.arcs none b m (nothing b.link.0)) s t way r.leads in
    let can : IsRoute g.arcs none way = route g none is on room s t way free r.once in
    record {
      at = s;
      path = r.leads;
      here = ([], refl);
      apart = can.apart;
      on = OnArcs-sent g.arcs none way on can;
      full = sent-full g.arcs none nothing way can;
      spared = λ a m. ([], refl);
      units = λ link b e. inl (sent-only g.arcs none nothing way can link b e);
      found = λ link some. absurd (false≢true (sym (ap is_some (not_yet link.0)) ∙ some));
      all = λ link needs. inr (on-path g.arcs link s t way r.leads needs);
      of_link = λ link a e. absurd (none≢some a (unit_at needed link) (not_yet link) e);
    }

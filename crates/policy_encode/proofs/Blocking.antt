-- Packets come under a choice of edits exactly where the network delivers them.
use Rattle.std.proofs.Common.{◌≡◌, ◌≢◌, ℕ, ◌<◌, ◌⊎◌, inl, inr, Bool, true, false, IsTrue, Some, List, [], ◌∷◌, length, map, filter, get_or, refl, sym, ◌∙◌, ap, subst, arith}
use Rattle.std.specs.Prelude.{Contains, AllPairs, All, IsFalse, slice_get}
use Rattle.std.specs.List.{list_any, AllByRecursion}
use Rattle.std.proofs.lemmas.Bool.{false≢true, cases_Bool, cases_eq}
use Rattle.std.proofs.lemmas.List.Folds.{Any-from_list_any}
use Rattle.std.proofs.lemmas.Option.{slice_get_within}
use Rattle.arc_base.specs.declared.place.Link.{Link}
use Rattle.arc_base.proofs.Items.{Contains-head, Contains-tail, Contains-map, from_map, Contains-filter, from_filter, AllPairs-single}
use Rattle.graph_flow.specs.declared.arcs.Arc as shown
use Rattle.graph_flow.specs.Paths as graphs
use Rattle.graph_flow.specs.Laws.{HaveSmallCut}
use Rattle.graph_flow.proofs.Menger.{paths_or_cut}
use Rattle.net_model.specs.declared.lists.Packet.{Packet}
use Rattle.net_model.specs.declared.policies.Class.{Class}
use Rattle.net_model.specs.declared.policies.PolicyKind.{PolicyKind}
use Rattle.net_model.specs.declared.policies.PolicyKind.TheVariants as kinds
use Rattle.net_model.specs.declared.rows.Network.{Network}
use Rattle.net_model.specs.declared.verdicts.LinkPath.{LinkPath}
use Rattle.net_model.specs.Packets.{IsOfClass, LiesIn}
use Rattle.net_model.specs.Routing.{Arc, FailureSet, DistanceMap, IsArc, IsRouted, tail_router, head_router}
use Rattle.net_model.specs.Forwarding.{Ends, ArcPermits, Walk, IsDelivered, source_router, target_router}
use Rattle.net_model.specs.Policies.{IsBlocked, GoesThrough, CrossesWaypoint}
use Rattle.net_model.specs.Witnesses.{MayBreak, Path, links_of, routers_of, IsRightWalk}
use Rattle.net_laws.proofs.RightWalks.{right_walks_unblock, right_walks_bypass}
use Rattle.condition_formula.specs.declared.network.Question.{Question}
use Rattle.condition_formula.specs.declared.network.Demand.{Demand}
use Rattle.condition_formula.specs.Conditions.{is_arc_open, is_counted, counted_arcs, bare, open_arcs, Comes, IsKeptOff, IsClearArc}
use Rattle.condition_formula.proofs.Parts.{any_from}
use Rattle.policy_encode.specs.Questions.{demand_of}
use Rattle.policy_encode.specs.Mirrors.{HasMirror, IsMirrored, Mirrors}
use Rattle.policy_encode.proofs.Mirrors.{IsOpenTo, open_from, open_to, counts_breaks, breaks_counts, part_is_graph}

-- a class with its place, and the packet is of it
pub record IsIn (classes : List Class) (p : Packet) : Type 0 where
  pub place : ℕ
  pub class : Class
  pub at : slice_get classes place ≡ Some class
  pub is_of : IsOfClass class p

-- a path that passes no node twice, where there is a path
stays : (arcs : List shown.Arc) (side : ℕ → Bool) → ((a : shown.Arc) → Contains arcs a → IsTrue (side a.tail) → IsTrue (side a.head)) →
    (way : List shown.Arc) (u v : ℕ) → graphs.ArcPath arcs u way v → IsTrue (side u) → IsTrue (side v)
stays arcs side closed [] u v path on = subst (λ n. IsTrue (side n)) path on
stays arcs side closed (a ∷ way) u v path on = stays arcs side closed way a.head v path.2 (closed a path.0 (subst (λ n. IsTrue (side n)) (sym path.1) on))

first_path : (arcs : List shown.Arc) (s t : ℕ) (paths : List (List Link)) → length paths ≡ 1 → All (λ links. graphs.IsArcPath arcs s links t) paths → (links : List Link) ×
    graphs.IsArcPath arcs s links t
first_path arcs s t paths one each = (get_or paths 0 [], each 0 [] (omega (arith, one)))

no_links : (links : List Link) (l : Link) → length links < 1 → Contains links l → ⊥
no_links links l few m = omega (arith, few, m.1)

on_or_off : (b : Bool) → (IsFalse b → ⊥) → IsTrue b
on_or_off true h = refl
on_or_off false h = absurd (h refl)

pub simple_path : (nodes : ℕ) (arcs : List shown.Arc) → graphs.IsGraph (record { nodes = nodes; arcs = arcs }) → (s t : ℕ) → s < nodes → t < nodes →
    graphs.Leads arcs s t → (links : List Link) × graphs.IsArcPath arcs s links t
simple_path nodes arcs graph s t in_s in_t leads = elim (cases_eq s t) [
  | inl same ↦ ([], record { way = []; of_links = refl; leads = same; once = AllPairs-single (λ (x : ℕ) (y : ℕ). x ≢ y) s })
  | inr apart ↦ elim (paths_or_cut (record { nodes = nodes; arcs = arcs }) graph s t 1 in_s in_t apart) [
    | inl have ↦ first_path arcs s t have.0 have.1.count have.1.each
    | inr cut ↦ absurd (crossing cut)
  ]
]
  where
    crossing : HaveSmallCut arcs s t 1 → ⊥
    crossing cut =
        let closed : (a : shown.Arc) → Contains arcs a → IsTrue (cut.side a.tail) → IsTrue (cut.side a.head) =
        λ a one tail. on_or_off (cut.side a.head) (λ off. no_links cut.links a.link cut.few (cut.left_over.each a one (record { from_inside = tail; to_outside = off }))) in
        false≢true (sym cut.separates.target ∙ stays arcs cut.side closed leads.0 s t leads.1 cut.separates.source)

module _ (net : Network) (ends : Ends) (classes : List Class) (chosen : ℕ → Bool) (q : Question) (m : Mirrors net ends classes chosen q) (kind : PolicyKind) (demand : q.demand ≡ demand_of kind) where
  -- an arc over which the packet goes on stands in the question, open
  in_open : (k : ℕ) (class : Class) → slice_get classes k ≡ Some class → (p : Packet) → IsOfClass class p → (arc : Arc) →
      (is : IsMirrored net classes chosen q arc) → MayBreak kind arc → ArcPermits net arc p →
      Contains (open_arcs chosen q k) (bare is.ca)
  in_open k class at p of_p arc is may permits =
      let counts : is_counted q.demand is.ca ≡ true = subst (λ (d : Demand). is_counted d is.ca ≡ true) (sym demand) (breaks_counts kind is.ca arc is.is_mirror.waypoint may) in
      let clear : IsClearArc chosen k is.ca = (is.is_mirror.permits k class at p of_p).0 permits in
      Contains-map bare (filter (is_arc_open chosen k) (counted_arcs q)) is.ca
      (Contains-filter (is_arc_open chosen k) (counted_arcs q) is.ca (Contains-filter (is_counted q.demand) q.arcs is.ca is.one counts) (open_from chosen k is.ca is.routed clear))

  walk_leads : (k : ℕ) (class : Class) → slice_get classes k ≡ Some class → (failed : FailureSet) (d : DistanceMap) (p : Packet) → IsOfClass class p → (arcs : List Arc) (u v : ℕ) →
      Walk net ends.to failed d p u arcs v → ((arc : Arc) → Contains arcs arc → MayBreak kind arc) → graphs.Leads (open_arcs chosen q k) u v
  walk_leads k class at failed d p of_p [] u v walk may = ([], walk)
  walk_leads k class at failed d p of_p (arc ∷ arcs) u v walk may =
      let is : IsMirrored net classes chosen q arc = m.from_arc arc walk.1.usable.is_arc walk.1.usable.routed in
      let one : Contains (open_arcs chosen q k) (bare is.ca) = in_open k class at p of_p arc is (may arc (Contains-head arc arcs)) walk.2 in
      let rest = walk_leads k class at failed d p of_p arcs (head_router arc) v walk.3 (λ b in_b. may b (Contains-tail arc b arcs in_b)) in
      (bare is.ca ∷ rest.0, (one, is.is_mirror.tail ∙ walk.0, subst (λ n. graphs.ArcPath (open_arcs chosen q k) n rest.0 v) (sym is.is_mirror.head) rest.1))

  delivered_comes : (failed : FailureSet) (d : DistanceMap) (p : Packet) → (is : IsIn classes p) → (arcs : List Arc) → IsDelivered net ends failed d p arcs →
      ((arc : Arc) → Contains arcs arc → MayBreak kind arc) → Comes chosen q is.place
  delivered_comes failed d p is arcs delivered may = record {
    enter = (m.enter is.place is.class is.at p is.is_of).0 delivered.enters;
    leave = (m.leave is.place is.class is.at p is.is_of).0 delivered.leaves;
    leads = subst (λ v. graphs.Leads (open_arcs chosen q is.place) q.source v) (sym m.target)
        (subst (λ u. graphs.Leads (open_arcs chosen q is.place) u (target_router ends)) (sym m.source)
        (walk_leads is.place is.class is.at failed d p is.is_of arcs (source_router ends) (target_router ends) delivered.walk may));
  }

  -- the network's arcs of a way of open arcs
  record Way (k : ℕ) (class : Class) (u : ℕ) (way : List shown.Arc) (v : ℕ) : Type 0 where
    arcs : List Arc
    links : links_of arcs ≡ graphs.links_of way
    heads : map head_router arcs ≡ map (λ (a : shown.Arc). a.head) way
    leads : Path net ends.to u arcs v
    permitted : (p : Packet) → IsOfClass class p → AllByRecursion (λ arc. ArcPermits net arc p) arcs
    breaks : AllByRecursion (MayBreak kind) arcs

  record Open (k : ℕ) (class : Class) (a : shown.Arc) : Type 0 where
    arc : Arc
    is_arc : IsArc net arc
    routed : IsRouted net ends.to arc
    link : ◌≡◌ {A = Link} (record { 0 = arc.link }) a.link
    tail : tail_router arc ≡ a.tail
    head : head_router arc ≡ a.head
    permits : (p : Packet) → IsOfClass class p → ArcPermits net arc p
    breaks : MayBreak kind arc

  from_open : (k : ℕ) (class : Class) → slice_get classes k ≡ Some class → (a : shown.Arc) → Contains (open_arcs chosen q k) a → Open k class a
  from_open k class at a one =
      let r = from_map bare (filter (is_arc_open chosen k) (counted_arcs q)) a one in
      let s = from_filter (is_arc_open chosen k) (counted_arcs q) r.0 r.1 in
      let t = from_filter (is_counted q.demand) q.arcs r.0 s.0 in
      let o : IsOpenTo chosen k r.0 = open_to chosen k r.0 s.1 in
      let h : HasMirror net ends classes chosen r.0 = m.to_arc r.0 t.0 o.routed in
      let link_of : ℕ → Link = λ n. record { 0 = n } in
      record {
        arc = h.arc;
        is_arc = h.is_arc;
        routed = h.routed;
        link = ap link_of (sym h.is_mirror.link) ∙ ap (λ (b : shown.Arc). b.link) r.2;
        tail = sym h.is_mirror.tail ∙ ap (λ (b : shown.Arc). b.tail) r.2;
        head = sym h.is_mirror.head ∙ ap (λ (b : shown.Arc). b.head) r.2;
        permits = λ p of_p. (h.is_mirror.permits k class at p of_p).1 o.clear;
        breaks = counts_breaks kind r.0 h.arc h.is_mirror.waypoint (subst (λ (d : Demand). is_counted d r.0 ≡ true) demand t.1);
      }

  way_of : (k : ℕ) (class : Class) → slice_get classes k ≡ Some class → (way : List shown.Arc) (u v : ℕ) → graphs.ArcPath (open_arcs chosen q k) u way v → Way k class u way v
  way_of k class at [] u v path = record { arcs = []; links = refl; heads = refl; leads = path; permitted = λ p of_p. tt; breaks = tt }
  way_of k class at (a ∷ way) u v path =
      let o : Open k class a = from_open k class at a path.0 in
      let rest : Way k class a.head way v = way_of k class at way a.head v path.2 in
      let link : Link = record { 0 = o.arc.link } in
      record {
        arcs = o.arc ∷ rest.arcs;
        links = ap (λ (ls : List Link). link ∷ ls) rest.links ∙ ap (λ (l : Link). l ∷ graphs.links_of way) o.link;
        heads = ap (λ (us : List ℕ). head_router o.arc ∷ us) rest.heads ∙ ap (λ (w : ℕ). w ∷ map (λ (b : shown.Arc). b.head) way) o.head;
        leads = (o.is_arc, o.routed, o.tail ∙ path.1, subst (λ (w : ℕ). Path net ends.to w rest.arcs v) (sym o.head) rest.leads);
        permitted = λ p of_p. (o.permits p of_p, rest.permitted p of_p);
        breaks = (o.breaks, rest.breaks);
      }

  open_graph : (k : ℕ) → graphs.IsGraph (record { nodes = length net.routers; arcs = open_arcs chosen q k })
  open_graph k = part_is_graph (length net.routers) (counted_arcs q) (is_arc_open chosen k) (part_is_graph (length net.routers) q.arcs (is_counted q.demand) m.graph)

  -- packets that come are those of a right walk
  pub comes_walk : (whole : Class) (k : ℕ) (class : Class) → slice_get classes k ≡ Some class → LiesIn class whole → Comes chosen q k → (shown : LinkPath) × IsRightWalk net ends kind whole class shown
  comes_walk whole k class at part comes =
      let simple = simple_path (length net.routers) (open_arcs chosen q k) (open_graph k) q.source q.target m.source_node m.target_node comes.leads in
      let way : Way k class q.source simple.1.way q.target = way_of k class at simple.1.way q.source q.target simple.1.leads in
      let to_target : Path net ends.to q.source way.arcs (target_router ends) = subst (Path net ends.to q.source way.arcs) m.target way.leads in
      let routers : graphs.nodes_of q.source simple.1.way ≡ routers_of (source_router ends) way.arcs =
      ap (λ (us : List ℕ). q.source ∷ us) (sym way.heads) ∙ ap (λ (u : ℕ). u ∷ map head_router way.arcs) m.source in (
        record { links = simple.0 },
        record {
          part = part;
          path = record {
            arcs = way.arcs;
            links = way.links ∙ simple.1.of_links;
            leads = subst (λ (u : ℕ). Path net ends.to u way.arcs (target_router ends)) m.source to_target;
          };
          once = subst (AllPairs (λ (u v : ℕ). u ≢ v)) routers simple.1.once;
          enters = λ p of_p. (m.enter k class at p of_p).1 comes.enter;
          permitted = way.permitted;
          leaves = λ p of_p. (m.leave k class at p of_p).1 comes.leave;
          breaks = way.breaks;
        },
      )

either_waypoint : (arcs : List Arc) → CrossesWaypoint arcs ⊎ ((arc : Arc) → Contains arcs arc → IsFalse arc.row.waypoint)
either_waypoint arcs = elim (cases_Bool (list_any (λ (arc : Arc). arc.row.waypoint) arcs)) [
  | inl t ↦ inl (Any-from_list_any (λ (arc : Arc). arc.row.waypoint) arcs t)
  | inr f ↦ inr (λ arc one. is_off arc.row.waypoint (λ w. false≢true (sym f ∙ any_from (λ (b : Arc). b.row.waypoint) arcs arc one w)))
]
  where
    is_off : (b : Bool) → (b ≡ true → ⊥) → IsFalse b
    is_off true h = absurd (h refl)
    is_off false h = refl

module _ (net : Network) (ends : Ends) (whole : Class) (classes : List Class) (chosen : ℕ → Bool) (q : Question) (m : Mirrors net ends classes chosen q)
    (parts : (k : ℕ) (class : Class) → slice_get classes k ≡ Some class → LiesIn class whole) (cover : (p : Packet) → IsOfClass whole p → IsIn classes p)
    (reads : (k : ℕ) → k < length q.classes → (class : Class) × (slice_get classes k ≡ Some class)) where
  pub kept_off_blocks : q.demand ≡ demand_of kinds.Blocked → IsKeptOff chosen q → IsBlocked net ends whole
  kept_off_blocks demand kept failed d stable p of_p arcs delivered =
      let is : IsIn classes p = cover p of_p in
      let l = slice_get_within classes is.place is.class is.at in
      kept is.place (omega (arith, l, m.count)) (delivered_comes net ends classes chosen q m kinds.Blocked demand failed d p is arcs delivered (λ arc one. tt))

  pub kept_off_through : q.demand ≡ demand_of kinds.Through → IsKeptOff chosen q → GoesThrough net ends whole
  kept_off_through demand kept failed d stable p of_p arcs delivered = elim (either_waypoint arcs) [
    | inl crosses ↦ crosses
    | inr none ↦
        let is : IsIn classes p = cover p of_p in
        let l = slice_get_within classes is.place is.class is.at in
        absurd (kept is.place (omega (arith, l, m.count)) (delivered_comes net ends classes chosen q m kinds.Through demand failed d p is arcs delivered none))
  ]

  pub blocks_keep_off : q.demand ≡ demand_of kinds.Blocked → IsBlocked net ends whole → IsKeptOff chosen q
  blocks_keep_off demand blocked k low comes =
      let r = reads k low in
      let w = comes_walk net ends classes chosen q m kinds.Blocked demand whole k r.0 r.1 (parts k r.0 r.1) comes in
      right_walks_unblock net ends whole r.0 w.0 w.1 blocked

  pub through_keeps_off : q.demand ≡ demand_of kinds.Through → GoesThrough net ends whole → IsKeptOff chosen q
  through_keeps_off demand through k low comes =
      let r = reads k low in
      let w = comes_walk net ends classes chosen q m kinds.Through demand whole k r.0 r.1 (parts k r.0 r.1) comes in
      right_walks_bypass net ends whole r.0 w.0 w.1 through

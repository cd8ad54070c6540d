-- A reach policy is met under a choice of edits exactly where the network meets it.
use Rattle.std.proofs.Common.{◌≡◌, ◌≢◌, ℕ, ◌+◌, ◌<◌, inl, inr, Bool, true, false, IsTrue, Some, List, [], ◌∷◌, ◌++◌, length, map, filter, get_or, refl, sym, ◌∙◌, ap, subst, arith}
use Rattle.std.specs.Prelude.{Contains, AllPairs, All, slice_get}
use Rattle.std.specs.List.{flat_map, range_with_len}
use Rattle.std.specs.List.Sorted.{IsStrictlyIncreasing}
use Rattle.std.proofs.lemmas.Bool.{false≢true, cases_eq, false_from_ne_true, true_from_ne_false}
use Rattle.std.proofs.lemmas.List.{length-map, get_or-map}
use Rattle.std.proofs.lemmas.List.Elements.{All-contains, All-map, All-nil}
use Rattle.std.proofs.lemmas.List.FromFn.{length-map-range_with_len, get_or-map-range_with_len}
use Rattle.std.proofs.lemmas.Option.{slice_get_within}
use Rattle.arc_base.specs.declared.place.Link.{Link}
use Rattle.arc_base.proofs.Items.{Contains-map, from_map, Contains-filter, from_filter, AllPairs-none}
use Rattle.arc_base.specs.Lists.{AreDistinct}
use Rattle.graph_flow.specs.declared.arcs.Arc as shown
use Rattle.graph_flow.specs.Paths as graphs
use Rattle.graph_flow.specs.Sides as cuts
use Rattle.graph_flow.specs.Laws.{HavePaths, HaveSmallCut}
use Rattle.graph_flow.proofs.Menger.{paths_or_cut}
use Rattle.net_model.specs.declared.lists.Packet.{Packet}
use Rattle.net_model.specs.declared.policies.Class.{Class}
use Rattle.net_model.specs.declared.policies.PolicyKind.TheVariants as kinds
use Rattle.net_model.specs.declared.rows.Network.{Network}
use Rattle.net_model.specs.declared.verdicts.LinkPath.{LinkPath}
use Rattle.net_model.specs.Packets.{IsOfClass, LiesIn, first_packet}
use Rattle.net_model.specs.Routing.{Arc, IsArc, tail_router, head_router}
use Rattle.net_model.specs.Forwarding.{Ends, AreEnds, Enters, Leaves, source_router, target_router}
use Rattle.net_model.specs.Policies.{MeetsAs}
use Rattle.net_model.specs.Policies as policies
use Rattle.net_model.specs.Validity.{IsValid}
use Rattle.net_model.specs.Witnesses.{IsPath, Path, links_of, LeavesSide, IsRightPaths, IsRightCut}
use Rattle.net_model.proofs.Packets.{first_is_of}
use Rattle.net_laws.proofs.RightPaths.{right_paths_reach}
use Rattle.net_laws.proofs.RightCuts.{right_cuts_break_reach, right_denials_break_reach}
use Rattle.net_laws.proofs.RightWalks.{part_of}
use Rattle.condition_formula.specs.declared.network.ConditionArc.{ConditionArc}
use Rattle.condition_formula.specs.declared.network.Question.{Question}
use Rattle.condition_formula.specs.Conditions.{comes_true, ends_of, is_routed, bare, routed_arcs, AreReached, PassesEnds, IsClearArc}
use Rattle.policy_encode.specs.Mirrors.{HasMirror, IsMirrored, Mirrors}
use Rattle.policy_encode.proofs.Mirrors.{part_is_graph}
use Rattle.policy_encode.proofs.Blocking.{IsIn}

abbrev path_of : List Link → LinkPath
path_of links = record { links = links }

same_links : (paths : List (List Link)) → graphs.links_of_paths paths ≡ flat_map (λ (path : LinkPath). path.links) (map path_of paths)
same_links [] = refl
same_links (links ∷ paths) = ap (λ (rest : List Link). links ++ rest) (same_links paths)

rising_numbers : (links : List Link) → AllPairs (λ (k : Link) (l : Link). k.0 < l.0) links → IsStrictlyIncreasing (map (λ (l : Link). l.0) links)
rising_numbers links pairs = λ k low.
    let long : k + 1 < length links = omega (arith, low, length-map links (λ (l : Link). l.0)) in
    let d : Link = record { 0 = 0 } in
    let here = get_or-map (λ (l : Link). l.0) links k d 0 (omega (arith, long)) in
    let next = get_or-map (λ (l : Link). l.0) links (k + 1) d 0 long in
    omega (arith, here, next, pairs k (k + 1) d (omega arith) long)

link_is : (l : ℕ) (link : Link) → l ≡ link.0 → ◌≡◌ {A = Link} (record { 0 = l }) link
link_is l link same = let link_of : ℕ → Link = λ n. record { 0 = n } in ap link_of same

module _ (net : Network) (valid : IsValid net) (ends : Ends) (whole : Class) (are_ends : AreEnds net whole ends) (classes : List Class) (chosen : ℕ → Bool) (q : Question)
    (m : Mirrors net ends classes chosen q)
    (parts : (k : ℕ) (class : Class) → slice_get classes k ≡ Some class → LiesIn class whole) (cover : (p : Packet) → IsOfClass whole p → IsIn classes p)
    (reads : (k : ℕ) → k < length q.classes → (class : Class) × (slice_get classes k ≡ Some class)) where
  -- the network's arcs of a way of routed arcs
  record Way (u : ℕ) (way : List shown.Arc) (v : ℕ) : Type 0 where
    arcs : List Arc
    links : links_of arcs ≡ graphs.links_of way
    leads : Path net ends.to u arcs v

  way_of : (way : List shown.Arc) (u v : ℕ) → graphs.ArcPath (routed_arcs chosen q) u way v → Way u way v
  way_of [] u v path = record { arcs = []; links = refl; leads = path }
  way_of (a ∷ way) u v path =
      let r = from_map bare (filter (is_routed chosen) q.arcs) a path.0 in
      let s = from_filter (is_routed chosen) q.arcs r.0 r.1 in
      let h : HasMirror net ends classes chosen r.0 = m.to_arc r.0 s.0 s.1 in
      let rest : Way a.head way v = way_of way a.head v path.2 in
      let link : Link = record { 0 = h.arc.link } in
      let head : head_router h.arc ≡ a.head = sym h.is_mirror.head ∙ ap (λ (b : shown.Arc). b.head) r.2 in
      record {
        arcs = h.arc ∷ rest.arcs;
        links = ap (λ (ls : List Link). link ∷ ls) rest.links ∙ ap (λ (l : Link). l ∷ graphs.links_of way) (link_is h.arc.link r.0.link (sym h.is_mirror.link) ∙ ap (λ (b : shown.Arc). b.link) r.2);
        leads = (h.is_arc, h.routed, sym h.is_mirror.tail ∙ ap (λ (b : shown.Arc). b.tail) r.2 ∙ path.1, subst (λ (w : ℕ). Path net ends.to w rest.arcs v) (sym head) rest.leads);
      }

  path_is : (links : List Link) → graphs.IsArcPath (routed_arcs chosen q) q.source links q.target → IsPath net ends (path_of links)
  path_is links path =
      let way : Way q.source path.way q.target = way_of path.way q.source q.target path.leads in
      let to_target : Path net ends.to q.source way.arcs (target_router ends) = subst (Path net ends.to q.source way.arcs) m.target way.leads in
      record { arcs = way.arcs; links = way.links ∙ path.of_links; leads = subst (λ (u : ℕ). Path net ends.to u way.arcs (target_router ends)) m.source to_target }

  low_of : (p : Packet) (is : IsIn classes p) → is.place < length q.classes
  low_of p is = let l = slice_get_within classes is.place is.class is.at in omega (arith, l, m.count)

  module _ (k : ℕ) where
    all_clear : AreReached chosen q (k + 1) → policies.IsClear net ends whole
    all_clear r = elim (cases_eq (source_router ends) (target_router ends)) [
      | inl same ↦ inl same
      | inr apart ↦ inr (λ arc is_arc routed p of_p.
          let is : IsIn classes p = cover p of_p in
          let shows : IsMirrored net classes chosen q arc = m.from_arc arc is_arc routed in
          let clear : IsClearArc chosen is.place shows.ca = r.clear (λ e. apart (sym m.source ∙ e ∙ m.target)) is.place (low_of p is) shows.ca shows.one shows.routed in
          (shows.is_mirror.permits is.place is.class is.at p is.is_of).1 clear)
    ]

    right_paths : AreReached chosen q (k + 1) → (paths : List (List Link)) → (source_router ends ≢ target_router ends → length paths ≡ k + 1) →
        (source_router ends ≡ target_router ends → length paths ≡ 0) →
        All (λ links. graphs.IsArcPath (routed_arcs chosen q) q.source links q.target) paths → AreDistinct (graphs.links_of_paths paths) → IsRightPaths net ends k whole (map path_of paths)
    right_paths r paths apart together each once = record {
      clear = all_clear r;
      enters = λ p of_p. (let is : IsIn classes p = cover p of_p in (m.enter is.place is.class is.at p is.is_of).1 (r.ends is.place (low_of p is)).enter);
      leaves = λ p of_p. (let is : IsIn classes p = cover p of_p in (m.leave is.place is.class is.at p is.is_of).1 (r.ends is.place (low_of p is)).leave);
      apart = λ e. length-map paths path_of ∙ apart e;
      together = λ e. length-map paths path_of ∙ together e;
      are_paths = All-map (IsPath net ends) path_of paths (λ i d low. path_is (get_or paths i d) (each i d low));
      once = subst AreDistinct (same_links paths) once;
    }

    -- what is reached under the edits is met
    pub reached_meets : AreReached chosen q (k + 1) → MeetsAs net ends whole (kinds.Reach k)
    reached_meets r = elim (cases_eq (source_router ends) (target_router ends)) [
      | inl same ↦ (all_clear r, right_paths_reach net valid ends k whole [] (right_paths r [] (λ e. absurd (e same)) (λ e. refl) (All-nil _) (AllPairs-none (λ (x : Link) (y : Link). x ≢ y))))
      | inr apart ↦
          let have : HavePaths (routed_arcs chosen q) q.source q.target (k + 1) = r.paths (λ e. apart (sym m.source ∙ e ∙ m.target)) in
          (all_clear r, right_paths_reach net valid ends k whole (map path_of have.0) (right_paths r have.0 (λ e. have.1.count) (λ e. absurd (apart e)) have.1.each have.1.disjoint))
    ]

    module _ (met : MeetsAs net ends whole (kinds.Reach k)) where
      denied : (class : Class) → LiesIn class whole → ((p : Packet) → IsOfClass class p → Enters net ends p → ¬ Leaves net ends p) → ⊥
      denied class part none = right_denials_break_reach net valid ends k whole class are_ends (record { clear = met.0; part = part; denied = none }) met.1

      passes : (j : ℕ) → j < length q.classes → PassesEnds chosen q j
      passes j low =
          let r = reads j low in
          record {
            enter = true_from_ne_false (comes_true chosen (ends_of q j).enter)
                (λ off. denied r.0 (parts j r.0 r.1) (λ p of_p enters. absurd (false≢true (sym off ∙ (m.enter j r.0 r.1 p of_p).0 enters))));
            leave = true_from_ne_false (comes_true chosen (ends_of q j).leave)
                (λ off. denied r.0 (parts j r.0 r.1) (λ p of_p enters leaves. false≢true (sym off ∙ (m.leave j r.0 r.1 p of_p).0 leaves)));
          }

      clear_of : q.source ≢ q.target → (j : ℕ) → j < length q.classes → (ca : ConditionArc) → Contains q.arcs ca → IsTrue (is_routed chosen ca) → IsClearArc chosen j ca
      clear_of apart j low ca one routed =
          let r = reads j low in
          let h : HasMirror net ends classes chosen ca = m.to_arc ca one routed in
          let p : Packet = first_packet r.0 in
          let of_p : IsOfClass r.0 p = first_is_of r.0 in
          elim met.0 [
            | inl same ↦ absurd (apart (m.source ∙ same ∙ sym m.target))
            | inr permits ↦ (h.is_mirror.permits j r.0 r.1 p of_p).0 (permits h.arc h.is_arc h.routed p (part_of r.0 whole p (parts j r.0 r.1) of_p))
          ]

      -- a cut of the graph is one of the network
      module _ (cut : HaveSmallCut (routed_arcs chosen q) q.source q.target (k + 1)) (apart : source_router ends ≢ target_router ends)
          (nodes : (arc : Arc) → IsArc net arc → (tail_router arc < length net.routers) × (head_router arc < length net.routers)) where
        side : List Bool
        side = map cut.side (range_with_len 0 (length net.routers))

        at_router : (router : ℕ) → router < length net.routers → get_or side router false ≡ cut.side router
        unfolding side
        at_router router low = get_or-map-range_with_len cut.side 0 (length net.routers) router router false low (omega arith)

        leaves_side : (l : Link) → Contains cut.links l → (arc : Arc) × (arc.link ≡ l.0) × LeavesSide net ends.to side arc
        leaves_side l one =
            let over : cuts.IsLeftOver (routed_arcs chosen q) cut.side l = All-contains (cuts.IsLeftOver (routed_arcs chosen q) cut.side) cut.links l cut.left_over.only one in
            let r = from_map bare (filter (is_routed chosen) q.arcs) over.arc over.is_arc in
            let s = from_filter (is_routed chosen) q.arcs r.0 r.1 in
            let h : HasMirror net ends classes chosen r.0 = m.to_arc r.0 s.0 s.1 in
            let tail : over.arc.tail ≡ tail_router h.arc = ap (λ (b : shown.Arc). b.tail) (sym r.2) ∙ h.is_mirror.tail in
            let head : over.arc.head ≡ head_router h.arc = ap (λ (b : shown.Arc). b.head) (sym r.2) ∙ h.is_mirror.head in
            let ns = nodes h.arc h.is_arc in (
              h.arc,
              sym h.is_mirror.link ∙ ap (λ (b : shown.Arc). b.link.0) r.2 ∙ ap (λ (k : Link). k.0) over.of_link,
              record {
                is_arc = h.is_arc;
                routed = h.routed;
                tail = at_router (tail_router h.arc) ns.0 ∙ ap cut.side (sym tail) ∙ over.leaves.from_inside;
                head = λ on. false≢true (sym over.leaves.to_outside ∙ ap cut.side head ∙ sym (at_router (head_router h.arc) ns.1) ∙ on);
              },
            )

        has_link : (l : Link) (arc : Arc) → arc.link ≡ l.0 → LeavesSide net ends.to side arc → Contains cut.links l
        has_link l arc of_link leaves =
            let shows : IsMirrored net classes chosen q arc = m.from_arc arc leaves.is_arc leaves.routed in
            let ns = nodes arc leaves.is_arc in
            let one : Contains (routed_arcs chosen q) (bare shows.ca) = Contains-map bare (filter (is_routed chosen) q.arcs) shows.ca
            (Contains-filter (is_routed chosen) q.arcs shows.ca shows.one shows.routed) in
            let inside : cut.side shows.ca.tail ≡ true = ap cut.side shows.is_mirror.tail ∙ sym (at_router (tail_router arc) ns.0) ∙ leaves.tail in
            let outside : cut.side shows.ca.head ≡ false = false_from_ne_true (cut.side shows.ca.head)
            (λ on. leaves.head (at_router (head_router arc) ns.1 ∙ ap cut.side (sym shows.is_mirror.head) ∙ on)) in
            subst (λ (k : Link). Contains cut.links k) (sym (link_is l.0 shows.ca.link (sym of_link ∙ sym shows.is_mirror.link)) ∙ link_is l.0 l refl)
            (cut.left_over.each (bare shows.ca) one (record { from_inside = inside; to_outside = outside }))

        right_cut : IsRightCut net ends k whole cut.links side
        unfolding side
        right_cut = record {
          apart = apart;
          clear = met.0;
          flags = length-map-range_with_len cut.side 0 (length net.routers);
          source = at_router (source_router ends) (subst (λ n. n < length net.routers) m.source m.source_node) ∙ ap cut.side (sym m.source) ∙ cut.separates.source;
          target = λ on. false≢true (sym cut.separates.target ∙ ap cut.side m.target ∙ sym (at_router (target_router ends) (subst (λ n. n < length net.routers) m.target m.target_node)) ∙ on);
          rising = rising_numbers cut.links cut.left_over.rising;
          cut = λ l. (leaves_side l, λ one. has_link l one.0 one.1 one.2);
          few = omega (arith, cut.few);
        }

        pub no_cut : ⊥
        no_cut = right_cuts_break_reach net valid ends k whole cut.links side are_ends right_cut met.1

      -- what is met is reached under the edits
      pub meets_reached : ((arc : Arc) → IsArc net arc → (tail_router arc < length net.routers) × (head_router arc < length net.routers)) → AreReached chosen q (k + 1)
      meets_reached nodes = record {
        ends = passes;
        clear = clear_of;
        paths = λ apart. elim (paths_or_cut (record { nodes = length net.routers; arcs = routed_arcs chosen q })
            (part_is_graph (length net.routers) q.arcs (is_routed chosen) m.graph) q.source q.target (k + 1) m.source_node m.target_node apart) [
              | inl have ↦ have
              | inr cut ↦ absurd (no_cut cut (λ e. apart (m.source ∙ e ∙ sym m.target)) nodes)
            ];
      }

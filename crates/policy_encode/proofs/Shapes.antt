-- The arcs of conditions make a graph over the network's routers, and speak of the edits that there are.
use Rattle.std.proofs.Common.{◌≡◌, ◌≢◌, ℕ, ◌<◌, inl, inr, Bool, true, false, not, Option, Some, None, List, [], ◌∷◌, length, map, get_or, refl, sym, ◌∙◌, ap, subst, arith}
use Rattle.std.specs.Prelude.{Contains, AllPairs, slice_get, slice_index_or, if◌then◌else◌}
use Rattle.std.specs.List.{flat_map, list_any}
use Rattle.std.specs.Option.{option_map_or}
use Rattle.std.proofs.lemmas.Bool.{cases_lt}
use Rattle.std.proofs.lemmas.List.{length-map, get_or-map, get_or_past}
use Rattle.std.proofs.lemmas.List.Elements.{All-nil, All-cons}
use Rattle.std.proofs.lemmas.List.Kept.{AllPairs-filter, AllPairs-cons}
use Rattle.std.proofs.lemmas.Option.{same_Some, slice_get_within}
use Rattle.arc_base.specs.declared.place.Face.{Face}
use Rattle.arc_base.specs.declared.place.ListId.{ListId}
use Rattle.arc_base.specs.declared.place.Link.{Link}
use Rattle.arc_base.specs.declared.prefix.Prefix.{Prefix}
use Rattle.arc_base.proofs.Items.{Contains-cases, Contains-none, from_map, from_filter, All-from, AllPairs-among, AllPairs-map, AllPairs-none, AllPairs-single}
use Rattle.graph_flow.specs.declared.arcs.Arc as shown
use Rattle.graph_flow.specs.Paths as graphs
use Rattle.net_model.specs.declared.policies.Class.{Class}
use Rattle.net_model.specs.declared.rows.FaceRow.{FaceRow}
use Rattle.net_model.specs.declared.rows.LinkRow.{LinkRow}
use Rattle.net_model.specs.declared.rows.SessionRow.{SessionRow}
use Rattle.net_model.specs.declared.rows.Network.{Network}
use Rattle.net_model.specs.Decided.{is_open, is_told}
use Rattle.net_model.specs.Routing.{session_at, tail_end, head_end}
use Rattle.net_model.specs.Validity.{IsValid, IsValidFace, IsValidLink}
use Rattle.condition_formula.specs.declared.condition.Condition.{Condition}
use Rattle.condition_formula.specs.declared.condition.Condition.TheVariants.{Always, Never}
use Rattle.condition_formula.specs.declared.condition.ArcLists.{ArcLists}
use Rattle.condition_formula.specs.declared.condition.ClassEnds.{ClassEnds}
use Rattle.condition_formula.specs.declared.network.ConditionArc.{ConditionArc}
use Rattle.condition_formula.specs.Conditions.{IsOfEdits, IsAboutEdits, bare}
use Rattle.edit_list.specs.declared.edit_kinds.Edit.{Edit}
use Rattle.edit_list.specs.declared.edit_kinds.Edit.TheVariants as edits
use Rattle.arc_base.specs.Numbered.{placed}
use Rattle.policy_encode.specs.Answers.{session_condition, filter_condition, route_answer, route_condition, list_condition, packet_answer, inbound_condition, outbound_condition, arc_lists, class_ends}
use Rattle.policy_encode.specs.Questions.{is_able, is_never, tail_row, head_row, arc_over, able_arcs, link_arcs, arcs_to}
use Rattle.policy_encode.specs.Turning.{condition_at, place_of, turned}
use Rattle.edit_list.proofs.Apart.{pieces_apart}
use Rattle.edit_list.proofs.NewListFacts.{placed_apart}
use Rattle.policy_encode.proofs.Arcs.{Comes, comes_from}
use Rattle.policy_encode.proofs.Chosen.{some_place}

-- conditions

at_of : (edits : ℕ) (answer : Bool) (o : Option ℕ) → ((k : ℕ) → o ≡ Some k → k < edits) → IsOfEdits edits (condition_at answer o)
at_of edits true None h = tt
at_of edits false None h = tt
at_of edits true (Some k) h = h k refl
at_of edits false (Some k) h = h k refl

turned_of : (list : List Edit) (e : Edit) (answer : Bool) → IsOfEdits (length list) (turned list e answer)
turned_of list e answer = at_of (length list) answer (place_of list e) (λ k found. (some_place list e k found).0)

module _ (net : Network) (list : List Edit) where
  filter_of : (to : Prefix) (face : Face) (o : Option ListId) → IsOfEdits (length list) (filter_condition net list to face o)
  filter_of to face None = turned_of list (edits.RouteNew face to) true
  filter_of to face (Some id) = turned_of list (edits.RouteList id to) (route_answer net id to)

  route_of : (to : Prefix) (face : Face) (o : Option SessionRow) → IsOfEdits (length list) (route_condition net list to face o)
  route_of to face None = tt
  route_of to face (Some s) = filter_of to face s.filter

  list_of : (class : Class) (id : ListId) → IsOfEdits (length list) (list_condition net list class id)
  list_of class id = turned_of list (edits.PacketList id class) (packet_answer net id class)

  inbound_of : (class : Class) (face : Face) (o : Option ListId) → IsOfEdits (length list) (inbound_condition net list class face o)
  inbound_of class face None = turned_of list (edits.PacketNew face class) true
  inbound_of class face (Some id) = list_of class id

  outbound_of : (class : Class) (o : Option ListId) → IsOfEdits (length list) (outbound_condition net list class o)
  outbound_of class None = tt
  outbound_of class (Some id) = list_of class id

  if_of : (b : Bool) (c : Condition) → IsOfEdits (length list) c → IsOfEdits (length list) (if b then c else Never)
  if_of true c h = h
  if_of false c h = tt

  -- what a map gives, or what stands for what is not there
  mapped_of : {X Y : Type 0} (P : Y → Type 0) (f : X → Y) (xs : List X) (k : ℕ) (d : Y) → ((x : X) → P (f x)) → P d → P (slice_index_or (map f xs) k d)
  mapped_of P f [] k d h e = e
  mapped_of {X} {Y} P f (x ∷ xs) k d h e = elim (cases_lt k (length (x ∷ xs))) [
    | inl low ↦ subst P (sym (get_or-map f (x ∷ xs) k x d low)) (h (get_or (x ∷ xs) k x))
    | inr past ↦ subst P (sym (get_or_past (map f (x ∷ xs)) k d (omega (arith, past, length-map (x ∷ xs) f)))) e
  ]

  pub ends_of_edits : (source : Face) (source_row target : FaceRow) (classes : List Class) (k : ℕ) →
      let ends : ClassEnds = slice_index_or (map (class_ends net list source source_row target) classes) k (record { enter = Always; leave = Always }) in
      IsOfEdits (length list) ends.enter × IsOfEdits (length list) ends.leave
  ends_of_edits source source_row target classes k =
      mapped_of (λ (e : ClassEnds). IsOfEdits (length list) e.enter × IsOfEdits (length list) e.leave) (class_ends net list source source_row target) classes k
      (record { enter = Always; leave = Always })
      (λ class. (
        if_of source_row.up (inbound_condition net list class source source_row.list_in) (inbound_of class source source_row.list_in),
        if_of target.up (outbound_condition net list class target.list_out) (outbound_of class target.list_out),
      ))
      (tt, tt)

  module _ (to : Prefix) (classes : List Class) where
    pub has_edits : (ca : ConditionArc) → Contains (arcs_to net list to classes) ca → IsAboutEdits (length list) ca
    has_edits ca one =
        let from : Comes net list to classes ca = comes_from net list to classes ca one in
        let x : Condition = session_condition net list from.row.a from.a in
        let y : Condition = session_condition net list from.row.b from.b in
        let z : Condition = route_condition net list to (tail_end from.row from.from_a) (session_at net (tail_end from.row from.from_a)) in
        let of_x : IsOfEdits (length list) x = turned_of list (edits.Session from.row.a) (is_open (session_at net from.row.a) from.a) in
        let of_y : IsOfEdits (length list) y = turned_of list (edits.Session from.row.b) (is_open (session_at net from.row.b) from.b) in
        let of_z : IsOfEdits (length list) z = route_of to (tail_end from.row from.from_a) (session_at net (tail_end from.row from.from_a)) in
        subst (IsAboutEdits (length list)) from.is (record {
          routing = All-cons (IsOfEdits (length list)) x (y ∷ z ∷ []) of_x
              (All-cons (IsOfEdits (length list)) y (z ∷ []) of_y (All-cons (IsOfEdits (length list)) z [] of_z (All-nil (IsOfEdits (length list)))));
          lists = λ k. mapped_of (λ (l : ArcLists). IsOfEdits (length list) l.outbound × IsOfEdits (length list) l.inbound)
              (arc_lists net list (tail_row from.a from.b from.from_a) (head_end from.row from.from_a) (head_row from.a from.b from.from_a)) classes k (record { outbound = Always; inbound = Always })
              (λ class. (outbound_of class (tail_row from.a from.b from.from_a).list_out, inbound_of class (head_end from.row from.from_a) (head_row from.a from.b from.from_a).list_in)) (tt, tt);
        })

    pub of_link : (ca : ConditionArc) → Contains (arcs_to net list to classes) ca → ca.link.0 < length net.links
    of_link ca one =
        let from : Comes net list to classes ca = comes_from net list to classes ca one in
        subst (λ (x : ConditionArc). x.link.0 < length net.links) from.is (slice_get_within net.links from.link from.row from.at_link)

    -- the graph

    module _ (valid : IsValid net) where
      joins_rows : (a b : FaceRow) → a.router.0 < length net.routers → b.router.0 < length net.routers → a.router.0 ≢ b.router.0 →
          (link : ℕ × LinkRow) (from_a : Bool) → graphs.Joins (length net.routers) (bare (arc_over net list to classes link a b from_a))
      joins_rows a b in_a in_b apart link true = record { tail_node = in_a; head_node = in_b; apart = apart }
      joins_rows a b in_a in_b apart link false = record { tail_node = in_b; head_node = in_a; apart = λ e. apart (sym e) }

      joins : (ca : ConditionArc) → Contains (arcs_to net list to classes) ca → graphs.Joins (length net.routers) (bare ca)
      joins ca one =
          let from : Comes net list to classes ca = comes_from net list to classes ca one in
          let fa : IsValidFace net from.row.a.0 from.a = valid.faces from.row.a.0 from.a from.at_a in
          let fb : IsValidFace net from.row.b.0 from.b = valid.faces from.row.b.0 from.b from.at_b in
          let is : IsValidLink net from.row = valid.links from.link from.row from.at_link in
          let same_a : is.a ≡ from.a = same_Some is.a from.a (sym is.a_is ∙ from.at_a) in
          let same_b : is.b ≡ from.b = same_Some is.b from.b (sym is.b_is ∙ from.at_b) in
          subst (λ (x : ConditionArc). graphs.Joins (length net.routers) (bare x)) from.is
          (joins_rows from.a from.b fa.router fb.router (λ e. is.routers (ap (λ (f : FaceRow). f.router.0) same_a ∙ e ∙ sym (ap (λ (f : FaceRow). f.router.0) same_b)))
          (from.link, from.row) from.from_a)

      abbrev Share : ConditionArc → ConditionArc → Type 0
      Share x y = graphs.MayShare (bare x) (bare y)

      or_pairs : {X : Type 0} (f : X → List ConditionArc) (o : Option X) → ((x : X) → AllPairs Share (f x)) → AllPairs Share (option_map_or f o [])
      or_pairs f None h = AllPairs-none Share
      or_pairs f (Some x) h = h x

      if_pairs : (b : Bool) (xs : List ConditionArc) → AllPairs Share xs → AllPairs Share (if b then xs else [])
      if_pairs true xs h = h
      if_pairs false xs h = AllPairs-none Share

      two_pairs : (link : ℕ × LinkRow) (a b : FaceRow) → AllPairs Share (able_arcs net list to classes link a b)
      two_pairs link a b =
          let x = arc_over net list to classes link a b true in
          let y = arc_over net list to classes link a b false in
          AllPairs-filter Share (λ (arc : ConditionArc). not (list_any is_never arc.routing)) (x ∷ y ∷ [])
          (AllPairs-cons Share x (y ∷ []) (All-cons (Share x) y [] (record { forth = λ e. refl; back = λ e. refl }) (All-nil (Share x))) (AllPairs-single Share y))

      link_pairs : (link : ℕ × LinkRow) → AllPairs Share (link_arcs net list to classes link)
      link_pairs link =
          or_pairs (λ (a : FaceRow). option_map_or (λ (b : FaceRow). if is_able net link.1 a b then able_arcs net list to classes link a b else []) (slice_get net.faces link.1.b.0) [])
          (slice_get net.faces link.1.a.0)
          (λ a. or_pairs (λ (b : FaceRow). if is_able net link.1 a b then able_arcs net list to classes link a b else []) (slice_get net.faces link.1.b.0)
          (λ b. if_pairs (is_able net link.1 a b) (able_arcs net list to classes link a b) (two_pairs link a b)))

      in_or : {X Y : Type 0} (f : X → List Y) (o : Option X) (y : Y) → Contains (option_map_or f o []) y → (x : X) × Contains (f x) y
      in_or f None y m = absurd (Contains-none y m)
      in_or f (Some x) y m = (x, m)

      in_if : {X : Type 0} (b : Bool) (xs : List X) (x : X) → Contains (if b then xs else []) x → Contains xs x
      in_if true xs x m = m
      in_if false xs x m = absurd (Contains-none x m)

      number_of : (link : ℕ × LinkRow) (ca : ConditionArc) → Contains (link_arcs net list to classes link) ca → ca.link.0 ≡ link.0
      number_of link ca m =
          let at_a = in_or (λ (a : FaceRow). option_map_or (λ (b : FaceRow). if is_able net link.1 a b then able_arcs net list to classes link a b else [])
          (slice_get net.faces link.1.b.0) []) (slice_get net.faces link.1.a.0) ca m in
          let at_b = in_or (λ (b : FaceRow). if is_able net link.1 at_a.0 b then able_arcs net list to classes link at_a.0 b else []) (slice_get net.faces link.1.b.0) ca at_a.1 in
          let able = in_if (is_able net link.1 at_a.0 at_b.0) (able_arcs net list to classes link at_a.0 at_b.0) ca at_b.1 in
          let x = arc_over net list to classes link at_a.0 at_b.0 true in
          let y = arc_over net list to classes link at_a.0 at_b.0 false in
          let kept = from_filter (λ (arc : ConditionArc). not (list_any is_never arc.routing)) (x ∷ y ∷ []) ca able in
          elim (Contains-cases x ca (y ∷ []) kept.0) [
            | inl e ↦ ap (λ (z : ConditionArc). z.link.0) (sym e)
            | inr later ↦ elim (Contains-cases y ca [] later) [
              | inl e ↦ ap (λ (z : ConditionArc). z.link.0) (sym e)
              | inr none ↦ absurd (Contains-none ca none)
            ]
          ]

      all_pairs : AllPairs Share (flat_map (link_arcs net list to classes) (placed net.links))
      all_pairs =
          pieces_apart Share (link_arcs net list to classes) (placed net.links)
          (AllPairs-among (λ (s : ℕ × LinkRow) (t : ℕ × LinkRow). s.0 ≢ t.0)
          (λ (s : ℕ × LinkRow) (t : ℕ × LinkRow). (a b : ConditionArc) → Contains (link_arcs net list to classes s) a → Contains (link_arcs net list to classes t) b → Share a b) (placed net.links)
          (λ s t in_s in_t differ a b in_a in_b.
          let no : a.link ≡ b.link → ⊥ = λ e. differ (sym (number_of s a in_a) ∙ ap (λ (l : Link). l.0) e ∙ number_of t b in_b) in
          record { forth = λ e. absurd (no e); back = λ e. absurd (no e) })
          (placed_apart net.links)) (λ link one. link_pairs link)

      pub is_graph : graphs.IsGraph (record { nodes = length net.routers; arcs = map bare (arcs_to net list to classes) })
      is_graph = record {
        joined = All-from (graphs.Joins (length net.routers)) (map bare (arcs_to net list to classes)) (λ a m.
            let r = from_map bare (arcs_to net list to classes) a m in
            subst (λ (x : shown.Arc). graphs.Joins (length net.routers) x) r.2 (joins r.0 r.1));
        opposite = AllPairs-map graphs.MayShare bare (arcs_to net list to classes) (if_pairs (is_told net to) (flat_map (link_arcs net list to classes) (placed net.links)) all_pairs);
      }

-- The arcs of conditions are those that are routed after some edits, and stand for them.
use Rattle.std.proofs.Common.{◌≡◌, ℕ, ◌↔◌, ◌&&◌, inl, inr, Bool, true, false, not, IsTrue, Option, Some, None, List, [], ◌∷◌, refl, sym, ◌∙◌, ap, subst}
use Rattle.std.specs.Prelude.{Contains, slice_get, if◌then◌else◌}
use Rattle.std.specs.List.{flat_map, list_any, list_all}
use Rattle.std.specs.Option.{option_map_or}
use Rattle.std.proofs.lemmas.Bool.{false≢true, and_parts, and_from}
use Rattle.std.proofs.lemmas.List.{get_or-map}
use Rattle.std.proofs.lemmas.Option.{slice_get_within, get_or_from_slice_get}
use Rattle.arc_base.specs.declared.place.Face.{Face}
use Rattle.arc_base.specs.declared.prefix.Prefix.{Prefix}
use Rattle.arc_base.proofs.Items.{Contains-head, Contains-tail, Contains-cases, Contains-none, Contains-piece, from_piece, Contains-filter, from_filter}
use Rattle.net_model.specs.declared.policies.Class.{Class}
use Rattle.net_model.specs.declared.policies.Document.{Document}
use Rattle.net_model.specs.declared.rows.FaceRow.{FaceRow}
use Rattle.net_model.specs.declared.rows.LinkRow.{LinkRow}
use Rattle.net_model.specs.declared.rows.Protocol.TheVariants.{Bgp}
use Rattle.net_model.specs.declared.rows.Network.{Network}
use Rattle.net_model.specs.Decided.{is_able_end, takes_part, is_told}
use Rattle.net_model.specs.Routing.{Arc, IsArc, IsRouted, IsAbleEnd, IsOpen, FilterPermits, session_at, tail_end, head_end}
use Rattle.net_model.specs.Forwarding.{Ends}
use Rattle.condition_formula.specs.declared.condition.Condition.{Condition}
use Rattle.condition_formula.specs.declared.condition.Condition.TheVariants.{Always, Never, If, Unless}
use Rattle.condition_formula.specs.declared.condition.ArcLists.{ArcLists}
use Rattle.condition_formula.specs.declared.network.ConditionArc.{ConditionArc}
use Rattle.condition_formula.specs.Conditions.{comes_true, lists_of, is_routed, IsClearArc}
use Rattle.condition_formula.specs.Laws.{chosen_in}
use Rattle.edit_list.specs.declared.edit_kinds.Edit.{Edit}
use Rattle.edit_list.specs.After.{IsFaceAfter}
use Rattle.arc_base.specs.Numbered.{placed}
use Rattle.edit_list.specs.Prices.{chosen_of}
use Rattle.edit_list.proofs.RowFacts.{row_was, row_now}
use Rattle.policy_encode.specs.Answers.{session_condition, route_condition, arc_lists}
use Rattle.policy_encode.specs.Laws.{IsEdited}
use Rattle.policy_encode.specs.Questions.{is_able, is_never, routing_of, tail_row, head_row, arc_over, able_arcs, link_arcs, arcs_to}
use Rattle.policy_encode.proofs.Ables.{able_value, told_value}
use Rattle.edit_list.proofs.NewListFacts.{placed_is, placed_there}
use Rattle.policy_encode.specs.Mirrors.{IsMirror, HasMirror}
use Rattle.policy_encode.proofs.Packets.{outbound_value, inbound_value}
use Rattle.policy_encode.proofs.Sessions.{open_value, route_value}

-- where an arc of conditions comes from: its link, the rows at the link's ends, and its direction
pub record Comes (net : Network) (list : List Edit) (to : Prefix) (classes : List Class) (ca : ConditionArc) : Type 0 where
  pub link : ℕ
  pub row : LinkRow
  pub a : FaceRow
  pub b : FaceRow
  pub from_a : Bool
  pub at_link : slice_get net.links link ≡ Some row
  pub at_a : slice_get net.faces row.a.0 ≡ Some a
  pub at_b : slice_get net.faces row.b.0 ≡ Some b
  pub told : is_told net to ≡ true
  pub able : is_able net row a b ≡ true
  pub is : arc_over net list to classes (link, row) a b from_a ≡ ca

module _ (net : Network) (list : List Edit) (to : Prefix) (classes : List Class) where
  in_if : {X : Type 0} (b : Bool) (xs : List X) (x : X) → Contains (if b then xs else []) x → (b ≡ true) × Contains xs x
  in_if true xs x m = (refl, m)
  in_if false xs x m = absurd (Contains-none x m)

  to_if : {X : Type 0} (b : Bool) (xs : List X) (x : X) → b ≡ true → Contains xs x → Contains (if b then xs else []) x
  to_if true xs x e m = m
  to_if false xs x e m = absurd (false≢true e)

  in_or : {X Y : Type 0} (f : X → List Y) (o : Option X) (y : Y) → Contains (option_map_or f o []) y → (x : X) × (o ≡ Some x) × Contains (f x) y
  in_or f None y m = absurd (Contains-none y m)
  in_or f (Some x) y m = (x, refl, m)

  to_or : {X Y : Type 0} (f : X → List Y) (o : Option X) (x : X) (y : Y) → o ≡ Some x → Contains (f x) y → Contains (option_map_or f o []) y
  to_or f o x y e m = subst (λ p. Contains (option_map_or f p []) y) (sym e) m

  -- each arc of conditions comes from an able link
  pub comes_from : (ca : ConditionArc) → Contains (arcs_to net list to classes) ca → Comes net list to classes ca
  comes_from ca m =
      let told = in_if (is_told net to) (flat_map (link_arcs net list to classes) (placed net.links)) ca m in
      let piece = from_piece (link_arcs net list to classes) (placed net.links) ca told.1 in
      let link : ℕ × LinkRow = piece.0 in
      let at_a = in_or (λ (a : FaceRow). option_map_or (λ (b : FaceRow). if is_able net link.1 a b then able_arcs net list to classes link a b else []) (slice_get net.faces link.1.b.0)
      []) (slice_get net.faces link.1.a.0) ca piece.2 in
      let at_b = in_or (λ (b : FaceRow). if is_able net link.1 at_a.0 b then able_arcs net list to classes link at_a.0 b else []) (slice_get net.faces link.1.b.0) ca at_a.2 in
      let able = in_if (is_able net link.1 at_a.0 at_b.0) (able_arcs net list to classes link at_a.0 at_b.0) ca at_b.2 in
      let both = arc_over net list to classes link at_a.0 at_b.0 true ∷ arc_over net list to classes link at_a.0 at_b.0 false ∷ [] in
      let kept = from_filter (λ (arc : ConditionArc). not (list_any is_never arc.routing)) both ca able.1 in
      let make : (from_a : Bool) → arc_over net list to classes link at_a.0 at_b.0 from_a ≡ ca → Comes net list to classes ca = λ from_a e. record {
        link = link.0;
        row = link.1;
        a = at_a.0;
        b = at_b.0;
        from_a = from_a;
        at_link = placed_is net.links link piece.1;
        at_a = at_a.1;
        at_b = at_b.1;
        told = told.0;
        able = able.0;
        is = e;
      } in
      elim (Contains-cases (arc_over net list to classes link at_a.0 at_b.0 true) ca (arc_over net list to classes link at_a.0 at_b.0 false ∷ []) kept.0) [
        | inl e ↦ make true e
        | inr later ↦ elim (Contains-cases (arc_over net list to classes link at_a.0 at_b.0 false) ca [] later) [
          | inl e ↦ make false e
          | inr none ↦ absurd (Contains-none ca none)
        ]
      ]

  in_both : (x y : ConditionArc) (f : Bool → ConditionArc) (from_a : Bool) → x ≡ f true → y ≡ f false → Contains (x ∷ y ∷ []) (f from_a)
  in_both x y f true e g = subst (λ (z : ConditionArc). Contains (x ∷ y ∷ []) z) e (Contains-head x (y ∷ []))
  in_both x y f false e g = subst (λ (z : ConditionArc). Contains (x ∷ y ∷ []) z) g (Contains-tail x y (y ∷ []) (Contains-head y []))

  -- and such an arc is there, unless a condition of it never holds
  pub stands : (link : ℕ) (row : LinkRow) (a b : FaceRow) (from_a : Bool) → slice_get net.links link ≡ Some row → slice_get net.faces row.a.0 ≡ Some a → slice_get net.faces row.b.0 ≡ Some b →
      is_told net to ≡ true → is_able net row a b ≡ true → list_any is_never (routing_of net list to row a b from_a) ≡ false →
      Contains (arcs_to net list to classes) (arc_over net list to classes (link, row) a b from_a)
  stands link row a b from_a at_link at_a at_b told able none =
      let ca = arc_over net list to classes (link, row) a b from_a in
      let both = arc_over net list to classes (link, row) a b true ∷ arc_over net list to classes (link, row) a b false ∷ [] in
      let kept : Contains (able_arcs net list to classes (link, row) a b) ca =
      Contains-filter (λ (arc : ConditionArc). not (list_any is_never arc.routing)) both ca
      (in_both (arc_over net list to classes (link, row) a b true) (arc_over net list to classes (link, row) a b false) (arc_over net list to classes (link, row) a b) from_a refl refl)
      (ap not none) in
      to_if (is_told net to) (flat_map (link_arcs net list to classes) (placed net.links)) ca told
      (Contains-piece (link_arcs net list to classes) (placed net.links) (link, row) ca (placed_there net.links link row at_link)
      (to_or (λ (x : FaceRow). option_map_or (λ (y : FaceRow). if is_able net row x y then able_arcs net list to classes (link, row) x y else []) (slice_get net.faces row.b.0) [])
      (slice_get net.faces row.a.0) a ca at_a
      (to_or (λ (y : FaceRow). if is_able net row a y then able_arcs net list to classes (link, row) a y else []) (slice_get net.faces row.b.0) b ca at_b
      (to_if (is_able net row a b) (able_arcs net list to classes (link, row) a b) ca able kept))))

-- no condition that holds is one that never does
never_fails : (chosen : ℕ → Bool) (cs : List Condition) → list_all (comes_true chosen) cs ≡ true → list_any is_never cs ≡ false
never_fails chosen [] h = refl
never_fails chosen (Always ∷ cs) h = never_fails chosen cs (and_parts true (list_all (comes_true chosen) cs) h).1
never_fails chosen (Never ∷ cs) h = absurd (false≢true (and_parts false (list_all (comes_true chosen) cs) h).0)
never_fails chosen (If e ∷ cs) h = never_fails chosen cs (and_parts (chosen e) (list_all (comes_true chosen) cs) h).1
never_fails chosen (Unless e ∷ cs) h = never_fails chosen cs (and_parts (not (chosen e)) (list_all (comes_true chosen) cs) h).1

three : (a b c : Bool) → (a && (b && (c && true))) ≡ true → (a ≡ true) × (b ≡ true) × (c ≡ true)
three a b c h =
    let one = and_parts a (b && (c && true)) h in
    let two = and_parts b (c && true) one.1 in
    (one.0, two.0, (and_parts c true two.1).0)

all_three : (a b c : Bool) → a ≡ true → b ≡ true → c ≡ true → (a && (b && (c && true))) ≡ true
all_three a b c e f g = and_from a (b && (c && true)) e (and_from b (c && true) f (and_from c true g refl))

module _ (net : Network) (doc : Document) (list : List Edit) (flags : List Bool) (after : Network) (ed : IsEdited net doc list flags after) (ends : Ends) (classes : List Class)
    (known : (k : ℕ) (class : Class) → slice_get classes k ≡ Some class → Contains ed.edits.classes class) where
  -- the rows at the ends of a link, before and after
  record Rows (link : ℕ) (row : LinkRow) (a b c d : FaceRow) : Type 0 where
    at_link : slice_get net.links link ≡ Some row
    at_a : slice_get net.faces row.a.0 ≡ Some a
    at_b : slice_get net.faces row.b.0 ≡ Some b
    now_a : slice_get after.faces row.a.0 ≡ Some c
    now_b : slice_get after.faces row.b.0 ≡ Some d
    is_a : IsFaceAfter net (chosen_of list flags) after row.a.0 a c
    is_b : IsFaceAfter net (chosen_of list flags) after row.b.0 b d

  module _ (link : ℕ) (row : LinkRow) (a b c d : FaceRow) (rows : Rows link row a b c d) where
    abbrev arc_of : Bool → Arc
    arc_of from_a = record { link = link; from_a = from_a; row = row; tail = tail_row c d from_a; head = head_row c d from_a }

    abbrev ca_of : Bool → ConditionArc
    ca_of from_a = arc_over net list ends.to classes (link, row) a b from_a

    is_arc : (from_a : Bool) → IsArc after (arc_of from_a)
    is_arc true = record { link = ap (λ (l : List LinkRow). slice_get l link) ed.is_after.links ∙ rows.at_link; tail = rows.now_a; head = rows.now_b }
    is_arc false = record { link = ap (λ (l : List LinkRow). slice_get l link) ed.is_after.links ∙ rows.at_link; tail = rows.now_b; head = rows.now_a }

    able_a : (is_able_end net (session_at net row.a) a b ≡ true) ↔ IsAbleEnd after (session_at after row.a) c d
    able_a = able_value net (chosen_of list flags) after ed.is_after row.a a c b d row.b.0 rows.is_a rows.is_b

    able_b : (is_able_end net (session_at net row.b) b a ≡ true) ↔ IsAbleEnd after (session_at after row.b) d c
    able_b = able_value net (chosen_of list flags) after ed.is_after row.b b d a c row.a.0 rows.is_b rows.is_a

    -- an able end under BGP has a session
    has_session : (face : Face) (near far : FaceRow) → is_able_end net (session_at net face) near far ≡ true → net.protocol ≡ Bgp → session_at net face ≡ None → ⊥
    has_session face near far able bgp none =
        let parts = and_parts (near.up && _) (takes_part net.protocol net (session_at net face) near far) able in
        false≢true (ap (λ o. takes_part Bgp net o near far) (sym none) ∙ ap (λ q. takes_part q net (session_at net face) near far) (sym bgp) ∙ parts.1)

    module _ (able : is_able net row a b ≡ true) where
      ables : (is_able_end net (session_at net row.a) a b ≡ true) × (is_able_end net (session_at net row.b) b a ≡ true)
      ables = and_parts (is_able_end net (session_at net row.a) a b) (is_able_end net (session_at net row.b) b a) able

      open_a : IsOpen (session_at after row.a) c ↔ IsTrue (comes_true (chosen_in flags) (session_condition net list row.a a))
      open_a = open_value net doc list flags after ed row.a a c rows.is_a rows.at_a (has_session row.a a b ables.0)

      open_b : IsOpen (session_at after row.b) d ↔ IsTrue (comes_true (chosen_in flags) (session_condition net list row.b b))
      open_b = open_value net doc list flags after ed row.b b d rows.is_b rows.at_b (has_session row.b b a ables.1)

      taken : (face : Face) → FilterPermits after (session_at after face) ends.to ↔ IsTrue (comes_true (chosen_in flags) (route_condition net list ends.to face (session_at net face)))
      taken face = route_value net doc list flags after ed ends.to face

      -- the arc is routed after the edits where its conditions hold
      carried : (from_a : Bool) → is_told net ends.to ≡ true → IsTrue (is_routed (chosen_in flags) (ca_of from_a)) → IsRouted after ends.to (arc_of from_a)
      carried true told routed =
          let h = three (comes_true (chosen_in flags) (session_condition net list row.a a)) (comes_true (chosen_in flags) (session_condition net list row.b b))
          (comes_true (chosen_in flags) (route_condition net list ends.to row.a (session_at net row.a))) routed in
          record {
            told = (told_value net (chosen_of list flags) after ed.is_after ends.to).0 told;
            carries = record { able_tail = able_a.0 ables.0; able_head = able_b.0 ables.1; open_tail = open_a.1 h.0; open_head = open_b.1 h.1; filter = (taken row.a).1 h.2 };
          }
      carried false told routed =
          let h = three (comes_true (chosen_in flags) (session_condition net list row.a a)) (comes_true (chosen_in flags) (session_condition net list row.b b))
          (comes_true (chosen_in flags) (route_condition net list ends.to row.b (session_at net row.b))) routed in
          record {
            told = (told_value net (chosen_of list flags) after ed.is_after ends.to).0 told;
            carries = record { able_tail = able_b.0 ables.1; able_head = able_a.0 ables.0; open_tail = open_b.1 h.1; open_head = open_a.1 h.0; filter = (taken row.b).1 h.2 };
          }

      conditions : (from_a : Bool) → IsRouted after ends.to (arc_of from_a) → IsTrue (is_routed (chosen_in flags) (ca_of from_a))
      conditions true r =
          all_three (comes_true (chosen_in flags) (session_condition net list row.a a)) (comes_true (chosen_in flags) (session_condition net list row.b b)) (comes_true
          (chosen_in flags) (route_condition net list ends.to row.a (session_at net row.a)))
          (open_a.0 r.carries.open_tail) (open_b.0 r.carries.open_head) ((taken row.a).0 r.carries.filter)
      conditions false r =
          all_three (comes_true (chosen_in flags) (session_condition net list row.a a)) (comes_true (chosen_in flags) (session_condition net list row.b b)) (comes_true
          (chosen_in flags) (route_condition net list ends.to row.b (session_at net row.b)))
          (open_a.0 r.carries.open_head) (open_b.0 r.carries.open_tail) ((taken row.b).0 r.carries.filter)

    is_able_now : (from_a : Bool) → IsRouted after ends.to (arc_of from_a) → is_able net row a b ≡ true
    is_able_now true r = and_from (is_able_end net (session_at net row.a) a b) (is_able_end net (session_at net row.b) b a) (able_a.1 r.carries.able_tail) (able_b.1 r.carries.able_head)
    is_able_now false r = and_from (is_able_end net (session_at net row.a) a b) (is_able_end net (session_at net row.b) b a) (able_a.1 r.carries.able_head) (able_b.1 r.carries.able_tail)

    -- the lists of the arc
    lists_are : (from_a : Bool) (k : ℕ) (class : Class) → slice_get classes k ≡ Some class →
        lists_of (ca_of from_a) k ≡ arc_lists net list (tail_row a b from_a) (head_end row from_a) (head_row a b from_a) class
    lists_are from_a k class at =
        get_or-map (arc_lists net list (tail_row a b from_a) (head_end row from_a) (head_row a b from_a)) classes k class (record { outbound = Always; inbound = Always })
        (slice_get_within classes k class at) ∙
        ap (arc_lists net list (tail_row a b from_a) (head_end row from_a) (head_row a b from_a)) (get_or_from_slice_get classes k class class at)

    permits_as : (from_a : Bool) (k : ℕ) (lists : ArcLists) → lists_of (ca_of from_a) k ≡ lists → {P Q : Type 0} →
        (P ↔ IsTrue (comes_true (chosen_in flags) lists.outbound)) → (Q ↔ IsTrue (comes_true (chosen_in flags) lists.inbound)) →
        (P × Q) ↔ IsClearArc (chosen_in flags) k (ca_of from_a)
    permits_as from_a k lists e out ins =
        let O : ArcLists → Type 0 = λ l. IsTrue (comes_true (chosen_in flags) l.outbound) in
        let I : ArcLists → Type 0 = λ l. IsTrue (comes_true (chosen_in flags) l.inbound) in (
          λ h. record { outbound = subst O (sym e) (out.0 h.0); inbound = subst I (sym e) (ins.0 h.1) },
          λ h. (out.1 (subst O e h.outbound), ins.1 (subst I e h.inbound)),
        )

    mirrors : (from_a : Bool) → IsMirror after classes (chosen_in flags) (ca_of from_a) (arc_of from_a)
    mirrors true = record {
      link = refl;
      tail = sym (ap (λ (f : FaceRow). f.router.0) rows.is_a.same);
      head = sym (ap (λ (f : FaceRow). f.router.0) rows.is_b.same);
      waypoint = refl;
      permits = λ k class at p of_p. permits_as true k (arc_lists net list a row.b b class) (lists_are true k class at)
          (outbound_value net doc list flags after ed class (known k class at) p of_p a.list_out c.list_out rows.is_a.list_out)
          (inbound_value net doc list flags after ed class (known k class at) p of_p row.b b rows.at_b d.list_in rows.is_b.list_in);
    }
    mirrors false = record {
      link = refl;
      tail = sym (ap (λ (f : FaceRow). f.router.0) rows.is_b.same);
      head = sym (ap (λ (f : FaceRow). f.router.0) rows.is_a.same);
      waypoint = refl;
      permits = λ k class at p of_p. permits_as false k (arc_lists net list b row.a a class) (lists_are false k class at)
          (outbound_value net doc list flags after ed class (known k class at) p of_p b.list_out d.list_out rows.is_b.list_out)
          (inbound_value net doc list flags after ed class (known k class at) p of_p row.a a rows.at_a c.list_in rows.is_a.list_in);
    }

  -- an arc of conditions that all hold stands for a routed arc
  pub to_arc : (ca : ConditionArc) → Contains (arcs_to net list ends.to classes) ca → IsTrue (is_routed (chosen_in flags) ca) → HasMirror after ends classes (chosen_in flags) ca
  to_arc ca one routed =
      let from : Comes net list ends.to classes ca = comes_from net list ends.to classes ca one in
      let c = row_now (IsFaceAfter net (chosen_of list flags) after) net.faces after.faces ed.is_after.faces from.row.a.0 from.a from.at_a in
      let d = row_now (IsFaceAfter net (chosen_of list flags) after) net.faces after.faces ed.is_after.faces from.row.b.0 from.b from.at_b in
      let rows : Rows from.link from.row from.a from.b c.0 d.0 = record { at_link = from.at_link; at_a = from.at_a; at_b = from.at_b; now_a = c.1; now_b = d.1; is_a = c.2; is_b = d.2 } in
      record {
        arc = arc_of from.link from.row from.a from.b c.0 d.0 rows from.from_a;
        is_arc = is_arc from.link from.row from.a from.b c.0 d.0 rows from.from_a;
        routed = carried from.link from.row from.a from.b c.0 d.0 rows from.able from.from_a from.told (subst (λ (x : ConditionArc). IsTrue (is_routed (chosen_in flags) x)) (sym from.is) routed);
        is_mirror = subst (λ (x : ConditionArc). IsMirror after classes (chosen_in flags) x (arc_of from.link from.row from.a from.b c.0 d.0 rows from.from_a)) from.is
            (mirrors from.link from.row from.a from.b c.0 d.0 rows from.from_a);
      }

  -- what stands for a routed arc
  pub record Stands (arc : Arc) : Type 0 where
    pub ca : ConditionArc
    pub one : Contains (arcs_to net list ends.to classes) ca
    pub routed : IsTrue (is_routed (chosen_in flags) ca)
    pub is_mirror : IsMirror after classes (chosen_in flags) ca arc

  stands_for : (link : ℕ) (row : LinkRow) (a b c d : FaceRow) (rows : Rows link row a b c d) (from_a : Bool) →
      IsRouted after ends.to (arc_of link row a b c d rows from_a) → Stands (arc_of link row a b c d rows from_a)
  stands_for link row a b c d rows from_a routed =
      let able : is_able net row a b ≡ true = is_able_now link row a b c d rows from_a routed in
      let told : is_told net ends.to ≡ true = (told_value net (chosen_of list flags) after ed.is_after ends.to).1 routed.told in
      let held : IsTrue (is_routed (chosen_in flags) (ca_of link row a b c d rows from_a)) = conditions link row a b c d rows able from_a routed in
      record {
        ca = ca_of link row a b c d rows from_a;
        one = stands net list ends.to classes link row a b from_a rows.at_link rows.at_a rows.at_b told able (never_fails (chosen_in flags) (routing_of net list ends.to row a b from_a) held);
        routed = held;
        is_mirror = mirrors link row a b c d rows from_a;
      }

  -- and each routed arc has one
  pub from_arc : (arc : Arc) → IsArc after arc → IsRouted after ends.to arc → Stands arc
  from_arc arc is routed = by arc.from_a refl
    where
      link_at : slice_get net.links arc.link ≡ Some arc.row
      link_at = ap (λ (l : List LinkRow). slice_get l arc.link) (sym ed.is_after.links) ∙ is.link

      by : (f : Bool) → arc.from_a ≡ f → Stands arc
      by true e =
          let tail : slice_get after.faces arc.row.a.0 ≡ Some arc.tail = ap (λ (f : Bool). slice_get after.faces (tail_end arc.row f).0) (sym e) ∙ is.tail in
          let head : slice_get after.faces arc.row.b.0 ≡ Some arc.head = ap (λ (f : Bool). slice_get after.faces (head_end arc.row f).0) (sym e) ∙ is.head in
          let a = row_was (IsFaceAfter net (chosen_of list flags) after) net.faces after.faces ed.is_after.faces arc.row.a.0 arc.tail tail in
          let b = row_was (IsFaceAfter net (chosen_of list flags) after) net.faces after.faces ed.is_after.faces arc.row.b.0 arc.head head in
          let rows : Rows arc.link arc.row a.0 b.0 arc.tail arc.head = record { at_link = link_at; at_a = a.1; at_b = b.1; now_a = tail; now_b = head; is_a = a.2; is_b = b.2 } in
          let turned_arc : Bool → Arc = λ f. record { link = arc.link; from_a = f; row = arc.row; tail = arc.tail; head = arc.head } in
          let same : turned_arc true ≡ arc = ap turned_arc (sym e) in
          subst Stands same (stands_for arc.link arc.row a.0 b.0 arc.tail arc.head rows true (subst (IsRouted after ends.to) (sym same) routed))
      by false e =
          let tail : slice_get after.faces arc.row.b.0 ≡ Some arc.tail = ap (λ (f : Bool). slice_get after.faces (tail_end arc.row f).0) (sym e) ∙ is.tail in
          let head : slice_get after.faces arc.row.a.0 ≡ Some arc.head = ap (λ (f : Bool). slice_get after.faces (head_end arc.row f).0) (sym e) ∙ is.head in
          let b = row_was (IsFaceAfter net (chosen_of list flags) after) net.faces after.faces ed.is_after.faces arc.row.b.0 arc.tail tail in
          let a = row_was (IsFaceAfter net (chosen_of list flags) after) net.faces after.faces ed.is_after.faces arc.row.a.0 arc.head head in
          let rows : Rows arc.link arc.row a.0 b.0 arc.head arc.tail = record { at_link = link_at; at_a = a.1; at_b = b.1; now_a = head; now_b = tail; is_a = a.2; is_b = b.2 } in
          let turned_arc : Bool → Arc = λ f. record { link = arc.link; from_a = f; row = arc.row; tail = arc.tail; head = arc.head } in
          let same : turned_arc false ≡ arc = ap turned_arc (sym e) in
          subst Stands same (stands_for arc.link arc.row a.0 b.0 arc.head arc.tail rows false (subst (IsRouted after ends.to) (sym same) routed))

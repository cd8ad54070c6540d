-- The open arcs of the graph of all routed arcs are a class's graph.
use Rattle.std.proofs.Common.{◌≡◌, ◌≢◌, ◌↔◌, ℕ, ◌<◌, ◌≤◌, Bool, true, false, IsTrue, List, Some, length, get_or, inl, inr, refl, sym, ap, ◌∙◌, subst, arith}
use Rattle.std.specs.Prelude.{slice_get, if◌then◌else◌}
use Rattle.std.proofs.lemmas.Bool.{cases_Bool, cases_lt, lt-ltb, le-ltb}
use Rattle.std.proofs.lemmas.Option.{slice_get_within, slice_get-get_or}
use Rattle.arc_base.specs.declared.prefix.Prefix.{Prefix}
use Rattle.graph_flow.specs.declared.arcs.Arc as shown
use Rattle.graph_flow.specs.declared.arcs.OpenLink.{OpenLink}
use Rattle.graph_flow.specs.OpenLinks.{is_open_way, row_of, open_arcs}
use Rattle.graph_flow.specs.Paths.{Digraph}
use Rattle.graph_flow.proofs.OpenArcs.{has-open, from-open}
use Rattle.net_model.specs.declared.rows.FaceRow.{FaceRow}
use Rattle.net_model.specs.declared.rows.LinkRow.{LinkRow}
use Rattle.net_model.specs.declared.rows.Network.{Network}
use Rattle.net_model.specs.Routing.{Arc, IsArc, tail_router, head_router}
use Rattle.net_model.specs.Validity.{IsValid}
use Rattle.net_model.proofs.Arcs.{IsArc-unique}
use Rattle.class_graph.specs.declared.modes.Mode.{Mode}
use Rattle.class_graph.specs.Answers.{EndsAllow}
use Rattle.class_graph.specs.Building.{Answered}
use Rattle.class_graph.specs.Graphs.{MayUse, IsShown, IsGraphOf, IsAnyArc, Shows}
use Rattle.class_graph.specs.Parts.{Opens, IsOpenAt, AreOpenLinks}
use Rattle.class_graph.proofs.Alike.{may_use_by}
use Rattle.class_graph.proofs.NetworkArcs.{apart_routers}

-- whether a mode takes an arc, by what decides whether it permits packets
pub takes_as : (mode : Mode) (taken permits waypoint : Bool) (Q : Type 0) → IsTrue taken ↔ MayUse mode (IsTrue permits) waypoint → IsTrue permits ↔ Q → IsTrue taken ↔ MayUse mode Q waypoint
takes_as mode taken permits waypoint Q is allows = (
  λ h. may_use_by mode (IsTrue permits) Q waypoint allows.0 (is.0 h),
  λ h. is.1 (may_use_by mode Q (IsTrue permits) waypoint allows.1 h),
)

-- a row of which the one flag is that of the one arc and the other that of the other
as_flag : (taken flag : Bool) (P : Type 0) → flag ≡ taken → IsTrue taken ↔ P → IsTrue flag ↔ P
as_flag taken flag P same is = (λ h. is.0 (sym same ∙ h), λ h. same ∙ is.1 h)

row_up : (up down : Bool) (u v : ℕ) → u < v → is_open_way (record { up = up; down = down }) u v ≡ up
row_up up down u v low = ap (λ (b : Bool). if b then up else down) (lt-ltb u v low)

strictly : (u v : ℕ) → u ≢ v → v ≤ u → v < u
strictly u v apart le = elim (cases_lt v u) [ inl low ↦ low | inr high ↦ absurd (apart (omega (arith, high, le))) ]

row_down : (up down : Bool) (u v : ℕ) → v < u → is_open_way (record { up = up; down = down }) u v ≡ down
row_down up down u v low = ap (λ (b : Bool). if b then up else down) (le-ltb u v (omega arith))

-- a row for the two arcs of a link
module _ (net : Network) (mode : Mode) (answers : List Bool) (k : ℕ) (link : LinkRow) (a b : FaceRow)
    (at_link : slice_get net.links k ≡ Some link) (at_a : slice_get net.faces link.a.0 ≡ Some a) (at_b : slice_get net.faces link.b.0 ≡ Some b) where
  opens_both : (row : OpenLink) →
      (a.router.0 ≢ b.router.0 → IsTrue (is_open_way row a.router.0 b.router.0) ↔ MayUse mode (EndsAllow answers a b) link.waypoint) →
      (b.router.0 ≢ a.router.0 → IsTrue (is_open_way row b.router.0 a.router.0) ↔ MayUse mode (EndsAllow answers b a) link.waypoint) →
      IsOpenAt net mode answers k row
  opens_both row forth back arc is_arc of_link =
      elim (cases_Bool arc.from_a) [
        | inl from_a ↦
            let here : Arc = record { link = k; from_a = true; row = link; tail = a; head = b } in
            subst (λ (x : Arc). Opens mode answers row x)
            (IsArc-unique net here arc (record { link = at_link; tail = at_a; head = at_b }) is_arc (sym of_link) (sym from_a)) forth
        | inr from_b ↦
            let here : Arc = record { link = k; from_a = false; row = link; tail = b; head = a } in
            subst (λ (x : Arc). Opens mode answers row x)
            (IsArc-unique net here arc (record { link = at_link; tail = at_b; head = at_a }) is_arc (sym of_link) (sym from_b)) back
      ]

  pub opens_rising : (forth back : Bool) → IsTrue forth ↔ MayUse mode (EndsAllow answers a b) link.waypoint → IsTrue back ↔ MayUse mode (EndsAllow answers b a) link.waypoint →
      a.router.0 < b.router.0 → IsOpenAt net mode answers k (record { up = forth; down = back })
  opens_rising forth back is_forth is_back low =
      opens_both (record { up = forth; down = back })
      (λ _. as_flag forth _ (MayUse mode (EndsAllow answers a b) link.waypoint) (row_up forth back a.router.0 b.router.0 low) is_forth)
      (λ _. as_flag back _ (MayUse mode (EndsAllow answers b a) link.waypoint) (row_down forth back b.router.0 a.router.0 low) is_back)

  pub opens_falling : (forth back : Bool) → IsTrue forth ↔ MayUse mode (EndsAllow answers a b) link.waypoint → IsTrue back ↔ MayUse mode (EndsAllow answers b a) link.waypoint →
      b.router.0 ≤ a.router.0 → IsOpenAt net mode answers k (record { up = back; down = forth })
  opens_falling forth back is_forth is_back high =
      opens_both (record { up = back; down = forth })
      (λ apart. as_flag forth _ (MayUse mode (EndsAllow answers a b) link.waypoint) (row_down back forth a.router.0 b.router.0 (strictly a.router.0 b.router.0 apart high)) is_forth)
      (λ apart. as_flag back _ (MayUse mode (EndsAllow answers b a) link.waypoint) (row_up back forth b.router.0 a.router.0 (strictly a.router.0 b.router.0 (λ same. apart (sym same)) high)) is_back)

abbrev no_row : OpenLink
no_row = record { up = false; down = false }

-- an arc of a graph is open exactly where the network's arc is of the mode
module _ (net : Network) (valid : IsValid net) (mode : Mode) (answers : List Bool) (table : List OpenLink) (are : AreOpenLinks net mode answers table) where
  open_as : (arc : Arc) → IsArc net arc → (a : shown.Arc) → Shows net arc a → IsTrue (is_open_way (row_of table a.link.0) a.tail a.head) ↔ Answered mode answers arc
  open_as arc is_arc a shows =
      let inside : arc.link < length net.links = slice_get_within net.links arc.link arc.row is_arc.link in
      let at : slice_get table arc.link ≡ Some (get_or table arc.link no_row) = slice_get-get_or table arc.link no_row (omega (arith, inside, are.whole)) in
      let is : IsTrue (is_open_way (row_of table arc.link) (tail_router arc) (head_router arc)) ↔ Answered mode answers arc =
      are.each arc.link (get_or table arc.link no_row) at arc is_arc refl (apart_routers net valid arc is_arc) in
      let same : is_open_way (row_of table a.link.0) a.tail a.head ≡ is_open_way (row_of table arc.link) (tail_router arc) (head_router arc) =
      ap (λ (l : ℕ). is_open_way (row_of table l) a.tail a.head) shows.link ∙ ap (λ (u : ℕ). is_open_way (row_of table arc.link) u a.head) shows.tail
      ∙ ap (λ (v : ℕ). is_open_way (row_of table arc.link) (tail_router arc) v) shows.head in
      (λ h. is.0 (sym same ∙ h), λ h. same ∙ is.1 h)

  -- so the open arcs are those of the mode
  pub open_graph : (to : Prefix) (g : Digraph) → IsGraphOf net to IsAnyArc g → IsGraphOf net to (Answered mode answers) (record { nodes = g.nodes; arcs = open_arcs table g.arcs })
  open_graph to g is = record {
    nodes = is.nodes;
    arcs = λ a. (
      λ has.
          (let from = from-open table g.arcs a has in
          let one : IsShown net to IsAnyArc a = (is.arcs a).0 from.0 in
          record { arc = one.arc; is_arc = one.is_arc; routed = one.routed; fits = (open_as one.arc one.is_arc a one.shows).0 from.1; shows = one.shows }),
      λ one. has-open table g.arcs a
          ((is.arcs a).1 (record { arc = one.arc; is_arc = one.is_arc; routed = one.routed; fits = tt; shows = one.shows }))
          ((open_as one.arc one.is_arc a one.shows).1 one.fits),
    );
  }

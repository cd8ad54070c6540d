-- The side of the routers that the packets of a class get to.
use Rattle.std.proofs.Common.{◌≡◌, ℕ, zero, suc, ◌<◌, Bool, Option, None, List, [], ◌∷◌, ◌++◌, length, map, IsTrue, refl, sym, ◌∙◌, subst, arith}
use Rattle.std.specs.Prelude.{IsSome, is_some, slice_index_or, Contains}
use Rattle.std.proofs.lemmas.Bool.{false≢true}
use Rattle.std.proofs.lemmas.List.{length-map}
use Rattle.arc_base.specs.declared.place.Link.{Link}
use Rattle.graph_flow.specs.declared.arcs.Arc as shown
use Rattle.graph_flow.specs.Paths as graphs
use Rattle.net_model.specs.declared.lists.Packet.{Packet}
use Rattle.net_model.specs.declared.policies.Class.{Class}
use Rattle.net_model.specs.declared.policies.PolicyKind.{PolicyKind}
use Rattle.net_model.specs.declared.rows.FaceRow.{FaceRow}
use Rattle.net_model.specs.declared.rows.Network.{Network}
use Rattle.net_model.specs.Packets.{IsOfClass, first_packet}
use Rattle.net_model.specs.Routing.{Arc, IsArc, IsRouted, tail_router, head_router, head_face}
use Rattle.net_model.specs.Forwarding.{Ends, Enters, Leaves, source_router, target_router, ArcPermitsEach}
use Rattle.net_model.specs.Validity.{IsValid}
use Rattle.net_model.specs.Witnesses.{IsOn, IsClosed, MayBreak, IsUniformFor}
use Rattle.class_graph.specs.Graphs.{IsShown, Fits, IsClassGraph}
use Rattle.class_graph.specs.declared.building.ClassGraph.{ClassGraph}
use Rattle.net_model.proofs.Packets.{first_is_of}
use Rattle.class_graph.proofs.Alike.{arc_alike, lists_alike}
use Rattle.class_graph.proofs.NetworkArcs.{router_within}
use Rattle.net_model.proofs.Readings.{place_of_item}
use Rattle.verdicts.specs.Fixed.{IsLeastClosed}
use Rattle.verdicts.specs.Judged.{mode_of}
use Rattle.verdicts.specs.Sides.{IsReached}
use Rattle.verdicts.proofs.Ways.{one_further, shown_arc}
use Rattle.verdicts.proofs.Walks.{fits_permits, fits_breaks, fits_by}

-- a router is on the side of the reached ones where it is reached
pub on_reached : (reached : List (Option (List Link))) (node : ℕ) → IsOn (map is_some reached) node → IsSome (slice_index_or reached node None)
on_reached [] node on = on
on_reached (r ∷ reached) zero on = on
on_reached (r ∷ reached) (suc node) on = on_reached reached node on

pub reached_on : (reached : List (Option (List Link))) (node : ℕ) → IsSome (slice_index_or reached node None) → IsOn (map is_some reached) node
reached_on [] node some = some
reached_on (r ∷ reached) zero some = some
reached_on (r ∷ reached) (suc node) some = reached_on reached node some

on_within : (reached : List (Option (List Link))) (node : ℕ) → IsSome (slice_index_or reached node None) → node < length reached
on_within [] node some = absurd (false≢true some)
on_within (r ∷ reached) zero some = omega arith
on_within (r ∷ reached) (suc node) some = omega (arith, on_within reached node some)

pub end_within : (net : Network) → IsValid net → (face : FaceRow) → Contains net.faces face → face.router.0 < length net.routers
end_within net valid face one = let here = place_of_item net.faces face one in router_within net valid (here.0) face (here.1)

-- what of one packet of the class holds holds of each
all_enter : (net : Network) (class : Class) → IsUniformFor net class → (ends : Ends) (p : Packet) → IsOfClass class p → Enters net ends p → (q : Packet) → IsOfClass class q → Enters net ends q
all_enter net class uniform ends p of_p enters q of_q = (enters.0, lists_alike net class uniform p q of_p of_q ends.source.list_in (enters.1))

all_leave : (net : Network) (class : Class) → IsUniformFor net class → (ends : Ends) (p : Packet) → IsOfClass class p → Leaves net ends p → (q : Packet) → IsOfClass class q → Leaves net ends q
all_leave net class uniform ends p of_p leaves q of_q = (leaves.0, lists_alike net class uniform p q of_p of_q ends.target.list_out (leaves.1))

-- the arc over which packets go on stands in the graph
graph_has : (net : Network) (ends : Ends) (kind : PolicyKind) (class : Class) (graph : ClassGraph) → IsClassGraph net ends class (mode_of kind) graph →
    (arc : Arc) → IsArc net arc → IsRouted net ends.to arc → ArcPermitsEach net class arc → MayBreak kind arc → Contains graph.graph.arcs (shown_arc net arc)
graph_has net ends kind class graph is arc is_arc routed permits may =
    (is.arcs.arcs (shown_arc net arc)).1 (record {
      arc = arc;
      is_arc = is_arc;
      routed = routed;
      fits = fits_by kind net class arc permits may;
      shows = record { link = refl; tail = refl; head = refl; cost_is = refl };
    })

goes_on : (arcs : List shown.Arc) (s : ℕ) (a : shown.Arc) → graphs.Leads arcs s a.tail → Contains arcs a → graphs.Leads arcs s a.head
goes_on arcs s a led one = (led.0 ++ a ∷ [], one_further arcs (led.0) s a (led.1) one)

-- the side is closed
pub side_is_closed : (net : Network) → IsValid net → (ends : Ends) → Contains net.faces ends.source → (kind : PolicyKind) (class : Class) → IsUniformFor net class → (graph : ClassGraph) →
    IsClassGraph net ends class (mode_of kind) graph → (reached : List (Option (List Link))) → IsReached graph reached →
    (IsTrue graph.leaves → IsSome (slice_index_or reached graph.target.0 None) → ⊥) → IsClosed net ends kind class (map is_some reached)
side_is_closed net valid ends here kind class uniform graph is reached reaches kept = record {
  flags = length-map reached is_some ∙ reaches.room ∙ is.arcs.nodes;
  source = λ p of_p enters.
      (let enter : IsTrue graph.enters = is.enters.1 (all_enter net class uniform ends p of_p enters) in
      let within : source_router ends < length net.routers = end_within net valid ends.source here in
      let led : graphs.Leads graph.graph.arcs graph.source.0 (source_router ends) = ([], is.source) in
      reached_on reached (source_router ends) ((reaches.led (source_router ends) (omega (arith, within, is.arcs.nodes))).1 (enter, led)));
  arcs = λ arc is_arc routed may on p of_p permits.
      (let all : ArcPermitsEach net class arc = λ q of_q. arc_alike net class uniform p q of_p of_q arc permits in
      let one : Contains graph.graph.arcs (shown_arc net arc) = graph_has net ends kind class graph is arc is_arc routed all may in
      let at : IsSome (slice_index_or reached (tail_router arc) None) = on_reached reached (tail_router arc) on in
      let low : tail_router arc < graph.graph.nodes = omega (arith, on_within reached (tail_router arc) at, reaches.room) in
      let led = (reaches.led (tail_router arc) low).0 at in
      let within : head_router arc < length net.routers = router_within net valid (head_face arc).0 arc.head is_arc.head in
      reached_on reached (head_router arc) ((reaches.led (head_router arc) (omega (arith, within, is.arcs.nodes))).1
      (led.0, goes_on graph.graph.arcs graph.source.0 (shown_arc net arc) (led.1) one)));
  target = λ on p of_p leaves. kept (is.leaves.1 (all_leave net class uniform ends p of_p leaves))
      (subst (λ (t : ℕ). IsSome (slice_index_or reached t None)) (sym is.target) (on_reached reached (target_router ends) on));
}

-- a closed side holds each router that the graph's arcs lead to from one of its routers
way_stays : (net : Network) (ends : Ends) (kind : PolicyKind) (class : Class) (graph : ClassGraph) → IsClassGraph net ends class (mode_of kind) graph →
    (side : List Bool) → IsClosed net ends kind class side → (way : List shown.Arc) (u v : ℕ) → graphs.ArcPath graph.graph.arcs u way v → IsOn side u → IsOn side v
way_stays net ends kind class graph is side closed [] u v path on = subst (IsOn side) path on
way_stays net ends kind class graph is side closed (a ∷ way) u v path on =
    let one : IsShown net ends.to (Fits (mode_of kind) net class) a = (is.arcs.arcs a).0 (path.0) in
    let tail : IsOn side (tail_router one.arc) = subst (IsOn side) (sym (path.1) ∙ one.shows.tail) on in
    let head : IsOn side (head_router one.arc) =
    closed.arcs one.arc one.is_arc one.routed (fits_breaks kind net class one.arc one.fits) tail (first_packet class) (first_is_of class)
    (fits_permits kind net class one.arc one.fits (first_packet class) (first_is_of class)) in
    way_stays net ends kind class graph is side closed way a.head v (path.2) (subst (IsOn side) (sym one.shows.head) head)

-- so the side is the least closed one
pub side_is_least : (net : Network) (ends : Ends) (kind : PolicyKind) (class : Class) (graph : ClassGraph) →
    IsClassGraph net ends class (mode_of kind) graph → (reached : List (Option (List Link))) → IsReached graph reached →
    (other : List Bool) → IsClosed net ends kind class other → (router : ℕ) → IsOn (map is_some reached) router → IsOn other router
side_is_least net ends kind class graph is reached reaches other closed router on =
    let at : IsSome (slice_index_or reached router None) = on_reached reached router on in
    let led = (reaches.led router (omega (arith, on_within reached router at, reaches.room))).0 at in
    let source : IsOn other (source_router ends) = closed.source (first_packet class) (first_is_of class) (is.enters.0 (led.0) (first_packet class) (first_is_of class)) in
    way_stays net ends kind class graph is other closed (led.1.0) graph.source.0 router (led.1.1) (subst (IsOn other) (sym is.source) source)

pub least_closed : (net : Network) → IsValid net → (ends : Ends) → Contains net.faces ends.source → (kind : PolicyKind) (class : Class) → IsUniformFor net class → (graph : ClassGraph) →
    IsClassGraph net ends class (mode_of kind) graph → (reached : List (Option (List Link))) → IsReached graph reached →
    (IsTrue graph.leaves → IsSome (slice_index_or reached graph.target.0 None) → ⊥) → (side : List Bool) → side ≡ map is_some reached → IsLeastClosed net ends kind class side
least_closed net valid ends here kind class uniform graph is reached reaches kept side side_is =
    subst (IsLeastClosed net ends kind class) (sym side_is) (record {
      closed = side_is_closed net valid ends here kind class uniform graph is reached reaches kept;
      least = side_is_least net ends kind class graph is reached reaches;
    })

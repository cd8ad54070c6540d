-- The arcs of a network, by their links and directions.
use Rattle.std.proofs.Common.{◌≡◌, ◌≢◌, ℕ, ◌<◌, ◌↔◌, Bool, true, false, Some, IsTrue, length, sym, ap, ◌∙◌, subst}
use Rattle.std.specs.Prelude.{slice_get}
use Rattle.std.proofs.lemmas.Option.{same_Some}
use Rattle.arc_base.specs.declared.place.Face.{Face}
use Rattle.arc_base.specs.declared.prefix.Prefix.{Prefix}
use Rattle.net_model.specs.declared.rows.FaceRow.{FaceRow}
use Rattle.net_model.specs.declared.rows.LinkRow.{LinkRow}
use Rattle.net_model.specs.declared.rows.Network.{Network}
use Rattle.net_model.specs.declared.tables.RoutedLink.{RoutedLink}
use Rattle.net_model.specs.Routing.{Arc, IsArc, IsRouted, IsRoutedLink, tail_face, head_face, tail_end, head_end, tail_router, head_router}
use Rattle.net_model.specs.Tables.{TellsRouted}
use Rattle.net_model.specs.Validity.{IsValid, IsValidFace, IsValidLink}
use Rattle.net_model.proofs.Arcs.{IsArc-unique}
use Rattle.class_graph.specs.Building.{flag}
use Rattle.class_graph.proofs.Readings.{one_item}

-- the two arcs of a link lead where the other comes from
pub opposite : (net : Network) (a b : Arc) → IsArc net a → IsArc net b → a.link ≡ b.link → a.from_a ≡ true → b.from_a ≡ false →
    (a.tail ≡ b.head) × (a.head ≡ b.tail)
opposite net a b of_a of_b link forth back =
    let row : a.row ≡ b.row = one_item net.links a.link b.link a.row b.row link of_a.link of_b.link in
    let tail : (tail_face a).0 ≡ (head_face b).0 =
    ap (λ (f : Bool). (tail_end a.row f).0) forth ∙ ap (λ (r : LinkRow). r.a.0) row ∙ sym (ap (λ (f : Bool). (head_end b.row f).0) back) in
    let head : (head_face a).0 ≡ (tail_face b).0 =
    ap (λ (f : Bool). (head_end a.row f).0) forth ∙ ap (λ (r : LinkRow). r.b.0) row ∙ sym (ap (λ (f : Bool). (tail_end b.row f).0) back) in (
      one_item net.faces (tail_face a).0 (head_face b).0 a.tail b.head tail of_a.tail of_b.head,
      one_item net.faces (head_face a).0 (tail_face b).0 a.head b.tail head of_a.head of_b.tail,
    )

-- the routers of a valid network's arcs are of the network
pub router_within : (net : Network) → IsValid net → (place : ℕ) (face : FaceRow) → slice_get net.faces place ≡ Some face → face.router.0 < length net.routers
router_within net valid place face at = let is : IsValidFace net place face = valid.faces place face at in is.router

apart_ends : (net : Network) → IsValid net → (link : ℕ) (row : LinkRow) → slice_get net.links link ≡ Some row → (from_a : Bool) (tail head : FaceRow) →
    slice_get net.faces (tail_end row from_a).0 ≡ Some tail → slice_get net.faces (head_end row from_a).0 ≡ Some head → tail.router.0 ≢ head.router.0
apart_ends net valid link row at true tail head at_tail at_head same =
    let is : IsValidLink net row = valid.links link row at in
    is.routers (ap (λ (f : FaceRow). f.router.0) (same_Some is.a tail (sym is.a_is ∙ at_tail)) ∙ same ∙ ap (λ (f : FaceRow). f.router.0) (same_Some head is.b (sym at_head ∙ is.b_is)))
apart_ends net valid link row at false tail head at_tail at_head same =
    let is : IsValidLink net row = valid.links link row at in
    is.routers (
    ap (λ (f : FaceRow). f.router.0) (same_Some is.a head (sym is.a_is ∙ at_head)) ∙ sym same ∙
    ap (λ (f : FaceRow). f.router.0) (same_Some tail is.b (sym at_tail ∙ is.b_is))
    )

-- and differ
pub apart_routers : (net : Network) → IsValid net → (arc : Arc) → IsArc net arc → tail_router arc ≢ head_router arc
apart_routers net valid arc is = apart_ends net valid arc.link arc.row is.link arc.from_a arc.tail arc.head is.tail is.head

-- the flags of both directions
pub flag_tells : (net : Network) (link : ℕ) (to : Prefix) (flags : RoutedLink) → TellsRouted net link to flags → (from_a : Bool) →
    IsTrue (flag flags from_a) ↔ IsRoutedLink net link from_a to
flag_tells net link to flags tells true = tells.0
flag_tells net link to flags tells false = tells.1

-- the rows that were read are those of an arc
pub record ReadArc (net : Network) (to : Prefix) (link : ℕ) (from_a : Bool) (row : LinkRow) (tail head : FaceRow) : Type 0 where
  pub is_arc : IsArc net (record { link = link; from_a = from_a; row = row; tail = tail; head = head })
  pub routed : IsRoutedLink net link from_a to → IsRouted net to (record { link = link; from_a = from_a; row = row; tail = tail; head = head })

pub read_arc : (net : Network) (to : Prefix) (link : ℕ) (from_a : Bool) (row : LinkRow) (tail head : Face) (tail_row head_row : FaceRow) →
    slice_get net.links link ≡ Some row → tail ≡ tail_end row from_a → head ≡ head_end row from_a →
    slice_get net.faces tail.0 ≡ Some tail_row → slice_get net.faces head.0 ≡ Some head_row → ReadArc net to link from_a row tail_row head_row
read_arc net to link from_a row tail head tail_row head_row at_link tail_is head_is at_tail at_head =
    let arc : Arc = record { link = link; from_a = from_a; row = row; tail = tail_row; head = head_row } in
    let is_arc : IsArc net arc = record {
      link = at_link;
      tail = subst (λ (f : Face). slice_get net.faces f.0 ≡ Some tail_row) tail_is at_tail;
      head = subst (λ (f : Face). slice_get net.faces f.0 ≡ Some head_row) head_is at_head;
    } in
    record {
      is_arc = is_arc;
      routed = λ routed. subst (IsRouted net to) (IsArc-unique net routed.arc arc routed.is_arc is_arc routed.link_is routed.direction) routed.routed;
    }

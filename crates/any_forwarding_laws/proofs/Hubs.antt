-- A copy with a hub in place of a LAN covers the network.
use Rattle.std.proofs.Common.{◌≡◌, ℕ, inl, inr, Bool, true, false, Some, [], ◌∷◌, refl, sym, subst}
use Rattle.std.specs.Prelude.{IsTrue, not, slice_get}
use Rattle.arc_base.specs.declared.place.Face.{Face}
use Rattle.net_model.specs.declared.lists.Packet.{Packet}
use Rattle.net_model.specs.declared.policies.Class.{Class}
use Rattle.net_model.specs.declared.rows.FaceRow.{FaceRow}
use Rattle.net_model.specs.declared.rows.LinkRow.{LinkRow}
use Rattle.net_model.specs.declared.rows.Network.{Network}
use Rattle.net_model.specs.Packets.{IsOfClass}
use Rattle.net_model.specs.Routing.{Arc, tail_end, head_end, tail_face, head_face, tail_router, head_router}
use Rattle.net_model.specs.Forwarding.{Ends, ListPermits, ArcPermits, Enters, Leaves, source_router, target_router}
use Rattle.net_laws.proofs.PathDistances.{other_tail, other_head}
use Rattle.any_forwarding_laws.specs.Forwardings.{IsUpArc}
use Rattle.any_forwarding_laws.specs.Copies.{HasWay, IsWiderFace, HasWiderFaces}
use Rattle.any_forwarding_laws.specs.Hubs.{HasSpoke, StandsFor, HubsCover}
use Rattle.any_forwarding_laws.proofs.Ways.{OverWaypoint, crosses_one, in_a_row}
use Rattle.any_forwarding_laws.proofs.Wider.{wide_arc, enters_wide, leaves_wide}

module _ (copy : Network) (class : Class) (hub : ℕ) (p : Packet) (of : IsOfClass class p) (place : ℕ) (wide : FaceRow) (at : slice_get copy.faces place ≡ Some wide)
    (may : Type 0) (spoke : HasSpoke copy class hub place may) (up : IsTrue wide.up) where
  at_near : slice_get copy.faces (tail_end spoke.row spoke.inward).0 ≡ Some wide
  at_near = subst (λ (k : ℕ). slice_get copy.faces k ≡ Some wide) (sym spoke.near) at

  -- a spoke leads to the hub what its interface permits outbound
  to_hub : ListPermits copy wide.list_out p → HasWay copy p wide.router.0 hub may
  to_hub permits =
      let arc : Arc = record { link = spoke.link; from_a = spoke.inward; row = spoke.row; tail = wide; head = spoke.far } in
      record {
        arcs = arc ∷ [];
        way = (
          refl,
          record { is_arc = record { link = spoke.at_link; tail = at_near; head = spoke.at_far }; tail = up; head = spoke.at_hub.up },
          (permits, spoke.at_hub.inbound p of),
          spoke.at_hub.router,
        );
        crosses = λ c. spoke.waypoint (crosses_one arc c);
      }

  -- and from the hub what it permits inbound
  from_hub : ListPermits copy wide.list_in p → HasWay copy p hub wide.router.0 may
  from_hub permits =
      let arc : Arc = record { link = spoke.link; from_a = not spoke.inward; row = spoke.row; tail = spoke.far; head = wide } in
      record {
        arcs = arc ∷ [];
        way = (
          spoke.at_hub.router,
          record {
            is_arc = record {
              link = spoke.at_link;
              tail = subst (λ (f : Face). slice_get copy.faces f.0 ≡ Some spoke.far) (sym (other_tail spoke.row spoke.inward)) spoke.at_far;
              head = subst (λ (f : Face). slice_get copy.faces f.0 ≡ Some wide) (sym (other_head spoke.row spoke.inward)) at_near;
            };
            tail = spoke.at_hub.up;
            head = up;
          },
          (spoke.at_hub.outbound p of, permits),
          refl,
        );
        crosses = λ c. spoke.waypoint (crosses_one arc c);
      }

-- of the spokes of a link's two ends, those of an arc over it
tail_spoke : (copy : Network) (class : Class) (hub : ℕ) (row : LinkRow) (from_a : Bool) (may : Type 0) → HasSpoke copy class hub row.a.0 may →
    HasSpoke copy class hub row.b.0 may → HasSpoke copy class hub (tail_end row from_a).0 may
tail_spoke copy class hub row true may a b = a
tail_spoke copy class hub row false may a b = b

head_spoke : (copy : Network) (class : Class) (hub : ℕ) (row : LinkRow) (from_a : Bool) (may : Type 0) → HasSpoke copy class hub row.a.0 may →
    HasSpoke copy class hub row.b.0 may → HasSpoke copy class hub (head_end row from_a).0 may
head_spoke copy class hub row true may a b = b
head_spoke copy class hub row false may a b = a

module _ (copy net : Network) (class : Class) (hub : ℕ) (faces : HasWiderFaces copy net class) (p : Packet) (of : IsOfClass class p) where
  over_hub : (arc : Arc) → IsUpArc net arc → ArcPermits net arc p → HasSpoke copy class hub arc.row.a.0 (OverWaypoint arc) →
      HasSpoke copy class hub arc.row.b.0 (OverWaypoint arc) → HasWay copy p (tail_router arc) (head_router arc) (OverWaypoint arc)
  over_hub arc is permits a b =
      let t : (wide : FaceRow) × (slice_get copy.faces (tail_face arc).0 ≡ Some wide) × IsWiderFace copy wide net arc.tail class =
      faces (tail_face arc).0 arc.tail is.is_arc.tail in
      let h : (wide : FaceRow) × (slice_get copy.faces (head_face arc).0 ≡ Some wide) × IsWiderFace copy wide net arc.head class =
      faces (head_face arc).0 arc.head is.is_arc.head in
      let may : Type 0 = OverWaypoint arc in
      let first : HasWay copy p t.0.router.0 hub may = to_hub copy class hub p of (tail_face arc).0 t.0 t.1 may
      (tail_spoke copy class hub arc.row arc.from_a may a b) (t.2.up is.tail) (t.2.outbound p of permits.0) in
      let second : HasWay copy p hub h.0.router.0 may = from_hub copy class hub p of (head_face arc).0 h.0 h.1 may
      (head_spoke copy class hub arc.row arc.from_a may a b) (h.2.up is.head) (h.2.inbound p of permits.1) in
      in_a_row copy p (tail_router arc) hub (head_router arc) may
      (subst (λ (u : ℕ). HasWay copy p u hub may) (sym t.2.router) first)
      (subst (λ (v : ℕ). HasWay copy p hub v may) (sym h.2.router) second)

  enters_for : (copied ends : Ends) → StandsFor copy copied.source net ends.source class hub → Enters net ends p →
      Enters copy copied p × HasWay copy p (source_router copied) (source_router ends) ⊥
  enters_for copied ends (inl wider) enters = enters_wide copy net copied ends class wider p of enters
  enters_for copied ends (inr stands) enters =
      let w : (wide : FaceRow) × (slice_get copy.faces stands.place ≡ Some wide) × IsWiderFace copy wide net ends.source class =
      faces stands.place ends.source stands.at_place in
      let way : HasWay copy p hub w.0.router.0 ⊥ =
      from_hub copy class hub p of stands.place w.0 w.1 ⊥ stands.spoke (w.2.up enters.0) (w.2.inbound p of enters.1) in (
        (stands.at_hub.up, stands.at_hub.inbound p of),
        subst (λ (u : ℕ). HasWay copy p u (source_router ends) ⊥) (sym stands.at_hub.router)
            (subst (λ (v : ℕ). HasWay copy p hub v ⊥) (sym w.2.router) way),
      )

  leaves_for : (copied ends : Ends) → StandsFor copy copied.target net ends.target class hub → Leaves net ends p →
      Leaves copy copied p × HasWay copy p (target_router ends) (target_router copied) ⊥
  leaves_for copied ends (inl wider) leaves = leaves_wide copy net copied ends class wider p of leaves
  leaves_for copied ends (inr stands) leaves =
      let w : (wide : FaceRow) × (slice_get copy.faces stands.place ≡ Some wide) × IsWiderFace copy wide net ends.target class =
      faces stands.place ends.target stands.at_place in
      let way : HasWay copy p w.0.router.0 hub ⊥ =
      to_hub copy class hub p of stands.place w.0 w.1 ⊥ stands.spoke (w.2.up leaves.0) (w.2.outbound p of leaves.1) in (
        (stands.at_hub.up, stands.at_hub.outbound p of),
        subst (λ (v : ℕ). HasWay copy p (target_router ends) v ⊥) (sym stands.at_hub.router)
            (subst (λ (u : ℕ). HasWay copy p u hub ⊥) (sym w.2.router) way),
      )

pub hubs_cover : HubsCover
hubs_cover copy net copied ends class hub has source target = record {
  place = λ u. u;
  arcs = λ p of arc is permits. elim (has.links arc.link arc.row is.is_arc.link) [
    | inl kept ↦ wide_arc copy net class has.faces p of arc is permits kept.0 kept.1
    | inr spokes ↦ over_hub copy net class hub has.faces p of arc is permits spokes.0 spokes.1
  ];
  enters = λ p of enters. enters_for copy net class hub has.faces p of copied ends source enters;
  leaves = λ p of leaves. leaves_for copy net class hub has.faces p of copied ends target leaves;
}

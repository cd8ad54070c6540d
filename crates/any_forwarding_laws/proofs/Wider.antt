-- A wider copy covers the network.
use Rattle.std.proofs.Common.{◌≡◌, ℕ, Some, List, [], ◌∷◌, refl, sym, subst}
use Rattle.std.specs.Prelude.{slice_get}
use Rattle.net_model.specs.declared.lists.Packet.{Packet}
use Rattle.net_model.specs.declared.policies.Class.{Class}
use Rattle.net_model.specs.declared.rows.FaceRow.{FaceRow}
use Rattle.net_model.specs.declared.rows.LinkRow.{LinkRow}
use Rattle.net_model.specs.declared.rows.Network.{Network}
use Rattle.net_model.specs.Packets.{IsOfClass}
use Rattle.net_model.specs.Routing.{Arc, tail_face, head_face, tail_router, head_router}
use Rattle.net_model.specs.Forwarding.{Ends, ArcPermits, Enters, Leaves, source_router, target_router}
use Rattle.any_forwarding_laws.specs.Forwardings.{IsUpArc}
use Rattle.any_forwarding_laws.specs.Copies.{HasWay, IsWiderFace, HasWiderFaces}
use Rattle.any_forwarding_laws.specs.Laws.{WiderCopiesCover, EachCoversItself, HubsLeadOn}
use Rattle.any_forwarding_laws.proofs.Ways.{OverWaypoint, crosses_none, crosses_one, crosses_two}

module _ (copy net : Network) (class : Class) (faces : HasWiderFaces copy net class) (p : Packet) (of : IsOfClass class p) where
  -- the arc over a link of the same row leads the packet the same way
  pub wide_arc : (arc : Arc) → IsUpArc net arc → ArcPermits net arc p → (link : ℕ) → slice_get copy.links link ≡ Some arc.row →
      HasWay copy p (tail_router arc) (head_router arc) (OverWaypoint arc)
  wide_arc arc is permits link at =
      let t = faces (tail_face arc).0 arc.tail is.is_arc.tail in
      let h = faces (head_face arc).0 arc.head is.is_arc.head in
      let wide : Arc = record { link = link; from_a = arc.from_a; row = arc.row; tail = t.0; head = h.0 } in
      record {
        arcs = wide ∷ [];
        way = (
          sym t.2.router,
          record { is_arc = record { link = at; tail = t.1; head = h.1 }; tail = t.2.up is.tail; head = h.2.up is.head },
          (t.2.outbound p of permits.0, h.2.inbound p of permits.1),
          sym h.2.router,
        );
        crosses = λ c. crosses_one wide c;
      }

module _ (copy net : Network) (copied ends : Ends) (class : Class) where
  pub enters_wide : IsWiderFace copy copied.source net ends.source class → (p : Packet) → IsOfClass class p → Enters net ends p →
      Enters copy copied p × HasWay copy p (source_router copied) (source_router ends) ⊥
  enters_wide wider p of enters = (
    (wider.up enters.0, wider.inbound p of enters.1),
    record { arcs = []; way = sym wider.router; crosses = λ c. crosses_none c },
  )

  pub leaves_wide : IsWiderFace copy copied.target net ends.target class → (p : Packet) → IsOfClass class p → Leaves net ends p →
      Leaves copy copied p × HasWay copy p (target_router ends) (target_router copied) ⊥
  leaves_wide wider p of leaves = (
    (wider.up leaves.0, wider.outbound p of leaves.1),
    record { arcs = []; way = wider.router; crosses = λ c. crosses_none c },
  )

pub wider_copies_cover : WiderCopiesCover
wider_copies_cover copy net copied ends class wider source target = record {
  place = λ u. u;
  arcs = λ p of arc is permits. wide_arc copy net class wider.faces p of arc is permits arc.link
      (subst (λ (links : List LinkRow). slice_get links arc.link ≡ Some arc.row) wider.links is.is_arc.link);
  enters = enters_wide copy net copied ends class source;
  leaves = leaves_wide copy net copied ends class target;
}

same : (net : Network) (face : FaceRow) (class : Class) → IsWiderFace net face net face class
same net face class = record { router = refl; up = λ u. u; inbound = λ p of permits. permits; outbound = λ p of permits. permits }

pub each_covers_itself : EachCoversItself
each_covers_itself net ends class =
    wider_copies_cover net net ends ends class (record { links = refl; faces = λ place face at. (face, at, same net face class) })
    (same net ends.source class) (same net ends.target class)

pub hubs_lead_on : HubsLeadOn
hubs_lead_on copy net class arc over p of permits = record {
  arcs = over.there ∷ over.onward ∷ [];
  way = (
    over.tail,
    over.there_up,
    (over.outbound p of permits.0, (over.at_hub p of).0),
    (over.hub, over.onward_up, ((over.at_hub p of).1, over.inbound p of permits.1), over.head),
  );
  crosses = λ c. over.waypoint (crosses_two over.there over.onward c);
}

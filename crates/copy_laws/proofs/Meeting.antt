-- What holds of a packet in the copy holds of it in the network, where their usable arcs are the same; and so for policies.
use Rattle.std.proofs.Common.{◌≡◌, ℕ, ◌≤◌, inl, inr, List, refl, sym, ◌∙◌, subst}
use Rattle.arc_base.specs.declared.prefix.Prefix.{Prefix}
use Rattle.net_model.specs.declared.lists.Packet.{Packet}
use Rattle.net_model.specs.declared.policies.Class.{Class}
use Rattle.net_model.specs.declared.policies.PolicyKind.{PolicyKind}
use Rattle.net_model.specs.declared.policies.PolicyKind.TheVariants.{Blocked, Through, Reach}
use Rattle.net_model.specs.declared.rows.Network.{Network}
use Rattle.net_model.specs.Packets.{IsOfClass}
use Rattle.net_model.specs.Routing.{Arc, FailureSet, DistanceMap, IsUsable, IsStable}
use Rattle.net_model.specs.Forwarding.{Ends, Walk, Enters, Leaves, IsDelivered, IsStuckAt, IsStuck, source_router, target_router, failures}
use Rattle.net_model.specs.Policies.{CrossesWaypoint, IsClear, Reaches, MeetsAs}
use Rattle.net_laws.specs.Breaking.{no_link, HoldsUnder, ReachesUnder}
use Rattle.copy_laws.specs.Passing.{IsBarring, IsReach, HoldsFor}
use Rattle.copy_laws.proofs.Kin.{IsLike, like_back}
use Rattle.copy_laws.proofs.Mirrors.{Mirrors, stable_there, Carries, walk_there, stuck_there}

-- the ends of a copy with the host network of the network's
abbrev pub to_of : Ends → Prefix → Ends
to_of others to = record { source = others.source; target = others.target; to = to }

-- the ends are of the same routers
pub record AreAlike (ends others : Ends) : Type 0 where
  pub source : source_router ends ≡ source_router others
  pub target : target_router ends ≡ target_router others
  pub to : ends.to ≡ others.to

module _ (net copy : Network) (p : Packet) (failed lost : FailureSet) (ends others : Ends) (alike : AreAlike ends others)
    (m : Mirrors net copy ends.to failed lost) where
  pub stable_moved : (d : DistanceMap) → IsStable net ends.to (target_router ends) failed d → IsStable copy ends.to (target_router others) lost d
  stable_moved d stable =
      subst (λ (t : ℕ). IsStable copy ends.to t lost d) alike.target (stable_there net copy ends.to failed lost m (target_router ends) d stable)

  pub record Found (d : DistanceMap) (arcs : List Arc) : Type 0 where
    pub others_arcs : List Arc
    pub delivered : IsDelivered copy (to_of others ends.to) lost d p others_arcs
    pub crosses : CrossesWaypoint others_arcs → CrossesWaypoint arcs

  -- what is delivered in the network is delivered in the copy
  found : Carries net copy p → (Enters net ends p → Enters copy others p) → (Leaves net ends p → Leaves copy others p) →
      (d : DistanceMap) (arcs : List Arc) → IsDelivered net ends failed d p arcs → Found d arcs
  found carries enters leaves d arcs delivered =
      let way : (over : List Arc) × Walk copy ends.to lost d p (source_router ends) over (target_router ends) × (CrossesWaypoint over → CrossesWaypoint arcs) =
      walk_there net copy ends.to failed lost m d p carries arcs (source_router ends) (target_router ends) delivered.walk in
      record {
        others_arcs = way.0;
        delivered = record {
          enters = enters delivered.enters;
          walk = subst (λ (t : ℕ). Walk copy ends.to lost d p (source_router others) way.0 t) alike.target
              (subst (λ (s : ℕ). Walk copy ends.to lost d p s way.0 (target_router ends)) alike.source way.1);
          leaves = leaves delivered.leaves;
        };
        crosses = way.2;
      }

  barred_to : Carries net copy p → (Enters net ends p → Enters copy others p) → (Leaves net ends p → Leaves copy others p) →
      (kind : PolicyKind) → IsBarring kind → HoldsFor copy (to_of others ends.to) p kind lost → HoldsFor net ends p kind failed
  barred_to carries enters leaves Blocked barring holds = λ d stable arcs delivered.
      let f : Found d arcs = found carries enters leaves d arcs delivered in
      holds d (stable_moved d stable) f.others_arcs f.delivered
  barred_to carries enters leaves Through barring holds = λ d stable arcs delivered.
      let f : Found d arcs = found carries enters leaves d arcs delivered in
      f.crosses (holds d (stable_moved d stable) f.others_arcs f.delivered)
  barred_to carries enters leaves (Reach k) barring holds = absurd barring

  reach_to : Carries copy net p → (Enters copy others p → Enters net ends p) → (Leaves copy others p → Leaves net ends p) →
      (kind : PolicyKind) → IsReach kind → HoldsFor copy (to_of others ends.to) p kind lost → HoldsFor net ends p kind failed
  reach_to carries enters leaves (Reach k) reach holds = λ d stable.
      let got : Enters copy (to_of others ends.to) p × ((arcs : List Arc) → ¬ IsStuck copy (to_of others ends.to) lost d p arcs) =
      holds d (stable_moved d stable) in (
        enters got.0,
        λ arcs stuck.
            let s : (over : List Arc) × (w : ℕ) × Walk copy ends.to lost d p (source_router ends) over w × IsStuckAt copy (to_of others ends.to) lost d p w =
            stuck_there net copy ends.to failed lost m d p carries ends.source ends.target others.source others.target alike.target leaves
            arcs (source_router ends) stuck.router stuck.walk stuck.stuck in
            got.1 s.0 (record {
              router = s.1;
              enters = got.0;
              walk = subst (λ (u : ℕ). Walk copy ends.to lost d p u s.0 s.1) alike.source s.2;
              stuck = s.3;
            }),
      )
  reach_to carries enters leaves other reach holds = absurd reach

-- the ends of the copy with their own host network
pub barred_for : (net copy : Network) (p : Packet) (failed lost : FailureSet) (ends others : Ends) → AreAlike ends others → Mirrors net copy ends.to failed lost →
    Carries net copy p → (Enters net ends p → Enters copy others p) → (Leaves net ends p → Leaves copy others p) →
    (kind : PolicyKind) → IsBarring kind → HoldsFor copy others p kind lost → HoldsFor net ends p kind failed
barred_for net copy p failed lost ends others alike m carries enters leaves kind barring holds =
    barred_to net copy p failed lost ends others alike m carries enters leaves kind barring
    (subst (λ (x : Prefix). HoldsFor copy (to_of others x) p kind lost) (sym alike.to) holds)

pub reach_for : (net copy : Network) (p : Packet) (failed lost : FailureSet) (ends others : Ends) → AreAlike ends others → Mirrors net copy ends.to failed lost →
    Carries copy net p → (Enters copy others p → Enters net ends p) → (Leaves copy others p → Leaves net ends p) →
    (kind : PolicyKind) → IsReach kind → HoldsFor copy others p kind lost → HoldsFor net ends p kind failed
reach_for net copy p failed lost ends others alike m carries enters leaves kind reach holds =
    reach_to net copy p failed lost ends others alike m carries enters leaves kind reach
    (subst (λ (x : Prefix). HoldsFor copy (to_of others x) p kind lost) (sym alike.to) holds)

-- what holds of a class under a failure set holds of each packet of it
pub each_packet : (net : Network) (ends : Ends) (class : Class) (kind : PolicyKind) (failed : FailureSet) → HoldsUnder net ends class kind failed →
    (p : Packet) → IsOfClass class p → HoldsFor net ends p kind failed
each_packet net ends class Blocked failed holds p of = λ d stable. holds d stable p of
each_packet net ends class Through failed holds p of = λ d stable. holds d stable p of
each_packet net ends class (Reach k) failed holds p of = λ d stable. holds d stable p of

pub all_packets : (net : Network) (ends : Ends) (class : Class) (kind : PolicyKind) (failed : FailureSet) →
    ((p : Packet) → IsOfClass class p → HoldsFor net ends p kind failed) → HoldsUnder net ends class kind failed
all_packets net ends class Blocked failed each = λ d stable p of. each p of d stable
all_packets net ends class Through failed each = λ d stable p of. each p of d stable
all_packets net ends class (Reach k) failed each = λ d stable p of. each p of d stable

-- a clear class is clear in the network too
pub clear_there : (net copy : Network) (class : Class) (lost : FailureSet) (ends others : Ends) → AreAlike ends others → Mirrors net copy ends.to no_link lost →
    ((p : Packet) → IsOfClass class p → Carries copy net p) → IsClear copy others class → IsClear net ends class
clear_there net copy class lost ends others alike m carries clear =
    let clear_to : IsClear copy (to_of others ends.to) class = subst (λ (x : Prefix). IsClear copy (to_of others x) class) (sym alike.to) clear in
    elim clear_to [
      | inl together ↦ inl (alike.source ∙ together ∙ sym alike.target)
      | inr permit ↦ inr (λ arc is_arc routed p of.
          let u : IsUsable net ends.to no_link arc = record { is_arc = is_arc; routed = routed; left = refl } in
          let t : (other : Arc) × IsUsable copy ends.to lost other × IsLike net copy arc other = m.there arc u in
          carries p of t.0 arc t.1.is_arc is_arc (like_back net copy arc t.0 t.2) (permit t.0 t.1.is_arc t.1.routed p of))
    ]

-- policies that bar: met in the network where they hold there under each failure set whose like holds in the copy
pub barred_as : (net copy : Network) (class : Class) (ends others : Ends) (kind : PolicyKind) → IsBarring kind → (lost : FailureSet → FailureSet) →
    ((failed : FailureSet) → HoldsUnder copy others class kind (lost failed) → HoldsUnder net ends class kind failed) →
    MeetsAs copy others class kind → MeetsAs net ends class kind
barred_as net copy class ends others (Reach k) barring lost each meets = absurd barring
barred_as net copy class ends others other barring lost each meets = λ failed. each failed (meets (lost failed))

pub reach_as : (net copy : Network) (class : Class) (ends others : Ends) (k j : ℕ) (lost : FailureSet → FailureSet) →
    ((failed : FailureSet) → failures net failed ≤ k → failures copy (lost failed) ≤ j) →
    ((failed : FailureSet) → ReachesUnder copy others class (lost failed) → ReachesUnder net ends class failed) →
    Reaches copy others class j → Reaches net ends class k
reach_as net copy class ends others k j lost few each reaches = λ failed d little stable p of.
    each failed (λ e stable_e q of_q. reaches (lost failed) e (few failed little) stable_e q of_q) d stable p of

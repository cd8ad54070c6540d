-- Where a router has a modelled route it forwards as the model does: so what the model says of packets holds, whatever the others do.
use Rattle.std.proofs.Common.{◌≡◌, ℕ, zero, suc, ◌+◌, ◌<◌, ◌≤◌, inl, inr, Some, None, List, [], ◌∷◌, ◌++◌, length, ap, refl, sym, ◌∙◌, subst, arith}
use Rattle.std.specs.Prelude.{IsTrue}
use Rattle.std.proofs.lemmas.Bool.Decides.{eqb_tells}
use Rattle.std.proofs.lemmas.Option.{same_Some}
use Rattle.arc_base.specs.declared.prefix.Prefix.{Prefix}
use Rattle.net_model.specs.declared.lists.Packet.{Packet}
use Rattle.net_model.specs.declared.policies.Class.{Class}
use Rattle.net_model.specs.declared.rows.Network.{Network}
use Rattle.net_model.specs.Routing.{Arc, FailureSet, DistanceMap, IsStable, Offers, cost, tail_router, head_router}
use Rattle.net_model.specs.Forwarding.{Ends, AreEnds, Attains, ArcPermits, Walk, Enters, Leaves, IsStuck, source_router, target_router}
use Rattle.copy_laws.proofs.Sound.{IsSound, sound_valid, costs_one, head_within, source_within, offer_of}
use Rattle.copy_laws.specs.Passing.{HoldsFor}
use Rattle.net_model.specs.declared.policies.PolicyKind.TheVariants.{Reach}
use Rattle.net_laws.proofs.Existence.{apart}
use Rattle.net_laws.proofs.RightCuts.{stuck_at_source}
use Rattle.net_laws.proofs.StableMaps.{value_of}
use Rattle.copy_laws.proofs.Mirrors.{arc_decided, leaves_decided}
use Rattle.copy_laws.specs.Beyond.{NextHops, AgreesWhereKnown, NoneComesBack, WalkBy, SendsOn, IsSureFrom, IsSure, PacketIsSure, DeliversAsModel, ReachIsSure, BlockedStays, ThroughStays}

module _ (net : Network) (to : Prefix) (failed : FailureSet) (d : DistanceMap) (sends : NextHops) (agrees : AgreesWhereKnown net to failed d sends)
    (back : NoneComesBack d sends) (p : Packet) where
  -- from a router without a distance a packet gets to none with one
  stays_lost : (arcs : List Arc) (u v : ℕ) → WalkBy net sends p u arcs v → d u ≡ None → d v ≡ None
  stays_lost [] u v walk none = subst (λ (k : ℕ). d k ≡ None) walk none
  stays_lost (arc ∷ arcs) u v walk none =
      stays_lost arcs (head_router arc) v walk.3 (back arc walk.1 (subst (λ (k : ℕ). d k ≡ None) (sym walk.0) none))

  -- so a walk to a router with a distance is one of the model
  modelled : (arcs : List Arc) (u v n : ℕ) → d v ≡ Some n → WalkBy net sends p u arcs v → Walk net to failed d p u arcs v
  modelled [] u v n known walk = walk
  modelled (arc ∷ arcs) u v n known walk = elim (value_of (d (tail_router arc))) [
    | inl none ↦ absurd (apart (d v) n (stays_lost arcs (head_router arc) v walk.3 (back arc walk.1 none)) known)
    | inr some ↦ (walk.0, agrees.only arc some.0 some.1 walk.1, walk.2, modelled arcs (head_router arc) v n known walk.3)
  ]

-- from a router with a distance each walk is one of the model
known_walk : (net : Network) (to : Prefix) (failed : FailureSet) (d : DistanceMap) (sends : NextHops) → AgreesWhereKnown net to failed d sends →
    (p : Packet) (arcs : List Arc) (u v n : ℕ) → d u ≡ Some n → WalkBy net sends p u arcs v → Walk net to failed d p u arcs v
known_walk net to failed d sends agrees p [] u v n known walk = walk
known_walk net to failed d sends agrees p (arc ∷ arcs) u v n known walk =
    let attains : Attains net to failed d arc = agrees.only arc n (ap d walk.0 ∙ known) walk.1 in
    (walk.0, attains, walk.2, known_walk net to failed d sends agrees p arcs (head_router arc) v attains.rest attains.head walk.3)

pub model_delivers : DeliversAsModel
model_delivers net ends failed d stable sends agrees away p arcs delivered = record {
  enters = delivered.enters;
  walk = elim (value_of (d (source_router ends))) [
    | inl none ↦ modelled net ends.to failed d sends agrees (away none) p arcs (source_router ends) (target_router ends) 0 stable.at_owner delivered.walk
    | inr some ↦ known_walk net ends.to failed d sends agrees p arcs (source_router ends) (target_router ends) some.0 some.1 delivered.walk
  ];
  leaves = delivered.leaves;
}

pub blocked_stays : BlockedStays
blocked_stays net ends class blocked failed d stable sends agrees back p of arcs delivered =
    blocked failed d stable p of arcs (model_delivers net ends failed d stable sends agrees back p arcs delivered)

pub through_stays : ThroughStays
through_stays net ends class through failed d stable sends agrees back p of arcs delivered =
    through failed d stable p of arcs (model_delivers net ends failed d stable sends agrees back p arcs delivered)

module _ (net : Network) (sound : IsSound net) (ends : Ends) (failed : FailureSet) (d : DistanceMap) (stable : IsStable net ends.to (target_router ends) failed d)
    (sends : NextHops) (agrees : AgreesWhereKnown net ends.to failed d sends) (p : Packet) (enters : Enters net ends p)
    (never : (arcs : List Arc) → ¬ IsStuck net ends failed d p arcs) where
  -- a walk goes on over one arc more
  longer : (arcs : List Arc) (u v : ℕ) → Walk net ends.to failed d p u arcs v → (arc : Arc) → tail_router arc ≡ v → Attains net ends.to failed d arc →
      ArcPermits net arc p → Walk net ends.to failed d p u (arcs ++ (arc ∷ [])) (head_router arc)
  longer [] u v walk arc tail attains permits = (tail ∙ sym walk, attains, permits, refl)
  longer (b ∷ arcs) u v walk arc tail attains permits =
      (walk.0, walk.1, walk.2, longer arcs (head_router b) v walk.3 arc tail attains permits)

  -- no arc that attains the distance denies the packet where it is
  permits_here : (arcs : List Arc) (u : ℕ) → Walk net ends.to failed d p (source_router ends) arcs u → (arc : Arc) → tail_router arc ≡ u →
      Attains net ends.to failed d arc → ArcPermits net arc p
  permits_here arcs u walk arc tail attains = elim (arc_decided net arc p) [
    | inl does ↦ does
    | inr denied ↦ absurd (never arcs (record {
      router = u;
      enters = enters;
      walk = walk;
      stuck = inr (inr (record { arc = arc; attains = attains; tail = tail; denied = denied }));
    }))
  ]

  leaves_here : (arcs : List Arc) (u : ℕ) → Walk net ends.to failed d p (source_router ends) arcs u → u ≡ target_router ends → Leaves net ends p
  leaves_here arcs u walk at = elim (leaves_decided net ends p) [
    | inl does ↦ does
    | inr stays ↦ absurd (never arcs (record { router = u; enters = enters; walk = walk; stuck = inl (at, stays) }))
  ]

  -- from each router that a walk gets to the packet is sure to arrive
  sure_from : (bound u n : ℕ) → n < bound → u < length net.routers → d u ≡ Some n → (arcs : List Arc) →
      Walk net ends.to failed d p (source_router ends) arcs u → IsSureFrom net ends sends p bound u
  sure_from zero u n below within known arcs walk = absurd (omega arith)
  sure_from (suc bound) u n below within known arcs walk =
      elim (eqb_tells u (target_router ends)) [
        | inl at ↦ inl (at.1, leaves_here arcs u walk at.1)
        | inr off ↦
            let o : Offers net ends.to failed d u n = offer_of net ends.to (target_router ends) failed d stable u n within off.1 known in
            let first : Attains net ends.to failed d o.arc = record {
              usable = o.usable;
              rest = o.rest;
              head = o.head;
              tail = ap d o.tail ∙ known ∙ ap Some o.sum;
            } in
            let attains : (arc : Arc) → tail_router arc ≡ u → IsTrue (sends arc) → Attains net ends.to failed d arc =
            λ arc tail sent. agrees.only arc n (ap d tail ∙ known) sent in
            let next : (other : Arc) × (tail_router other ≡ tail_router o.arc) × IsTrue (sends other) = agrees.some o.arc first in
            let on : SendsOn net sends p u = record {
              some = (next.0, next.1 ∙ o.tail, next.2);
              all = λ arc tail sent. permits_here arcs u walk arc tail (attains arc tail sent);
            } in
            inr (
              on,
              λ arc tail sent.
                  let a : Attains net ends.to failed d arc = attains arc tail sent in
                  let n_is : n ≡ cost net arc + a.rest = same_Some n (cost net arc + a.rest) (sym known ∙ sym (ap d tail) ∙ a.tail) in
                  let positive : 1 ≤ cost net arc = costs_one net sound arc a.usable.is_arc in
                  sure_from bound (head_router arc) a.rest (omega (arith, n_is, positive, below)) (head_within net sound arc a.usable.is_arc) a.head
                  (arcs ++ (arc ∷ [])) (longer arcs (source_router ends) u walk arc tail a (permits_here arcs u walk arc tail a)),
            )
      ]

pub sure_packet : (net : Network) → IsSound net → (ends : Ends) (class : Class) → AreEnds net class ends → (failed : FailureSet) (d : DistanceMap) →
    IsStable net ends.to (target_router ends) failed d → (sends : NextHops) → AgreesWhereKnown net ends.to failed d sends → (p : Packet) (k : ℕ) →
    HoldsFor net ends p (Reach k) failed → IsSure net ends sends p
sure_packet net sound ends class are failed d stable sends agrees p k holds =
    let got : Enters net ends p × ((arcs : List Arc) → ¬ IsStuck net ends failed d p arcs) = holds d stable in
    elim (value_of (d (source_router ends))) [
      | inl none ↦ absurd (got.1 [] (stuck_at_source net ends failed d p got.0 none))
      | inr n ↦ record {
        enters = got.0;
        within = n.0 + 1;
        arrives = sure_from net sound ends failed d stable sends agrees p got.0 got.1 (n.0 + 1) (source_router ends) n.0 (omega arith)
            (source_within net sound class ends are) n.1 [] refl;
      }
    ]

pub packet_is_sure : PacketIsSure
packet_is_sure net valid ends class are failed d stable sends agrees p k holds =
    sure_packet net (sound_valid net valid) ends class are failed d stable sends agrees p k holds

pub reach_is_sure : ReachIsSure
reach_is_sure net valid ends class k are reaches failed d few stable sends agrees p of =
    packet_is_sure net valid ends class are failed d stable sends agrees p k (λ e stable_e. reaches failed e few stable_e p of)

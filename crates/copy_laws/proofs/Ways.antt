-- Where fewer packets pass in the copy and one is stuck nowhere there, it takes in the network only ways that it may take in the copy.
use Rattle.std.proofs.Common.{◌≡◌, ℕ, ◌⊎◌, inl, inr, List, [], ◌∷◌, ap, refl, sym, ◌∙◌, subst}
use Rattle.std.specs.Prelude.{map}
use Rattle.arc_base.specs.declared.prefix.Prefix.{Prefix}
use Rattle.net_model.specs.declared.lists.Packet.{Packet}
use Rattle.net_model.specs.declared.rows.Network.{Network}
use Rattle.net_model.specs.Routing.{Arc, FailureSet, DistanceMap, head_router}
use Rattle.net_model.specs.Forwarding.{Ends, Attains, Walk, Enters, Leaves, IsDelivered, IsDenied, IsStuck, source_router, target_router}
use Rattle.net_model.specs.Witnesses.{routers_of}
use Rattle.copy_laws.specs.Passing.{DifferInLists, AreSameEnds, FewerKeepsWays}
use Rattle.copy_laws.proofs.Kin.{IsLike}
use Rattle.copy_laws.proofs.Mirrors.{Mirrors, attains_there, arc_decided, leaves_decided}
use Rattle.copy_laws.proofs.Meeting.{AreAlike, to_of}
use Rattle.copy_laws.proofs.Listless.{kin, mirrors}
use Rattle.copy_laws.proofs.Passed.{alike}

module _ (net copy : Network) (to : Prefix) (failed lost : FailureSet) (m : Mirrors net copy to failed lost) (d : DistanceMap) (p : Packet) where
  -- the same walk in the copy, or one to where the copy denies the packet
  pub record Same (arcs : List Arc) (u v : ℕ) : Type 0 where
    pub others : List Arc
    pub walk : Walk copy to lost d p u others v
    pub heads : map head_router arcs ≡ map head_router others

  pub record Denied (u : ℕ) : Type 0 where
    pub others : List Arc
    pub at : ℕ
    pub walk : Walk copy to lost d p u others at
    pub denied : IsDenied copy to lost d p at

  pub same_or_denied : (arcs : List Arc) (u v : ℕ) → Walk net to failed d p u arcs v → Same arcs u v ⊎ Denied u
  same_or_denied [] u v walk = inl (record { others = []; walk = walk; heads = refl })
  same_or_denied (arc ∷ arcs) u v walk =
      let a : (other : Arc) × Attains copy to lost d other × IsLike net copy arc other = attains_there net copy to failed lost m d arc walk.1 in
      elim (arc_decided copy a.0 p) [
        | inl does ↦ elim (same_or_denied arcs (head_router arc) v walk.3) [
          | inl rest ↦ inl (record {
            others = a.0 ∷ rest.others;
            walk = (sym a.2.tail ∙ walk.0, a.1, does, subst (λ (k : ℕ). Walk copy to lost d p k rest.others v) a.2.head rest.walk);
            heads = ap (λ (k : ℕ). k ∷ map head_router arcs) a.2.head ∙ ap (λ (ks : List ℕ). head_router a.0 ∷ ks) rest.heads;
          })
          | inr stop ↦ inr (record {
            others = a.0 ∷ stop.others;
            at = stop.at;
            walk = (sym a.2.tail ∙ walk.0, a.1, does, subst (λ (k : ℕ). Walk copy to lost d p k stop.others stop.at) a.2.head stop.walk);
            denied = stop.denied;
          })
        ]
        | inr does_not ↦ inr (record {
          others = [];
          at = u;
          walk = refl;
          denied = record { arc = a.0; attains = a.1; tail = sym a.2.tail ∙ walk.0; denied = does_not };
        })
      ]

-- what is delivered over the same routers
abbrev pub Way : Network → Ends → FailureSet → DistanceMap → Packet → ℕ → List Arc → Type 0
Way copy others failed d p s arcs =
    (same : List Arc) × IsDelivered copy others failed d p same × (routers_of s arcs ≡ routers_of (source_router others) same)

way_to : (net copy : Network) (p : Packet) (failed lost : FailureSet) (ends others : Ends) → AreAlike ends others → Mirrors net copy ends.to failed lost → (d : DistanceMap) →
    Enters copy (to_of others ends.to) p → ((arcs : List Arc) → ¬ IsStuck copy (to_of others ends.to) lost d p arcs) →
    (arcs : List Arc) → IsDelivered net ends failed d p arcs → Way copy (to_of others ends.to) lost d p (source_router ends) arcs
way_to net copy p failed lost ends others same m d enters never arcs delivered =
    elim (same_or_denied net copy ends.to failed lost m d p arcs (source_router ends) (target_router ends) delivered.walk) [
      | inl got ↦
          let walk : Walk copy ends.to lost d p (source_router others) got.others (target_router others) =
          subst (λ (t : ℕ). Walk copy ends.to lost d p (source_router others) got.others t) same.target
          (subst (λ (s : ℕ). Walk copy ends.to lost d p s got.others (target_router ends)) same.source got.walk) in
          let gone : Leaves copy (to_of others ends.to) p = elim (leaves_decided copy (to_of others ends.to) p) [
            | inl does ↦ does
            | inr does_not ↦ absurd (never got.others (record { router = target_router others; enters = enters; walk = walk; stuck = inl (refl, does_not) }))
          ] in (
            got.others,
            record { enters = enters; walk = walk; leaves = gone },
            ap (λ (k : ℕ). k ∷ map head_router arcs) same.source ∙ ap (λ (ks : List ℕ). source_router others ∷ ks) got.heads,
          )
      | inr stop ↦
          let walk : Walk copy ends.to lost d p (source_router others) stop.others stop.at =
          subst (λ (s : ℕ). Walk copy ends.to lost d p s stop.others stop.at) same.source stop.walk in
          absurd (never stop.others (record { router = stop.at; enters = enters; walk = walk; stuck = inr (inr stop.denied) }))
    ]

-- for one packet, whatever the lists permit of others
pub ways_for : (net copy : Network) → DifferInLists net copy → (ends others : Ends) → AreSameEnds net copy ends others → (failed : FailureSet) (d : DistanceMap) (p : Packet) →
    Enters copy others p → ((arcs : List Arc) → ¬ IsStuck copy others failed d p arcs) → (arcs : List Arc) → IsDelivered net ends failed d p arcs →
    Way copy others failed d p (source_router ends) arcs
ways_for net copy e ends others same failed d p enters never arcs delivered =
    let like : AreAlike ends others = alike net copy (kin net copy e) ends others same in
    let Goal : Prefix → Type 0 = λ x. Enters copy (to_of others x) p → ((over : List Arc) → ¬ IsStuck copy (to_of others x) failed d p over) →
    Way copy (to_of others x) failed d p (source_router ends) arcs in
    let here : Goal ends.to = λ got nowhere. way_to net copy p failed failed ends others like (mirrors net copy e ends.to failed) d got nowhere arcs delivered in
    let moved : Goal others.to = subst Goal like.to here in
    moved enters never

pub fewer_ways : FewerKeepsWays
fewer_ways net copy fewer ends others same failed d p enters never arcs delivered =
    ways_for net copy (sym fewer.alike) ends others same failed d p enters never arcs delivered

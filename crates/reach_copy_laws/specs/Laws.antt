-- Copies that permit fewer packets, for failed routers and for preferred lists of routers.
use Rattle.std.specs.Prelude.{ℕ, List}
use Rattle.arc_base.specs.declared.place.Router.{Router}
use Rattle.net_model.specs.declared.lists.Packet.{Packet}
use Rattle.net_model.specs.declared.policies.Class.{Class}
use Rattle.net_model.specs.declared.policies.Policy.{Policy}
use Rattle.net_model.specs.declared.policies.PolicyKind.TheVariants.{Reach}
use Rattle.net_model.specs.declared.rows.Network.{Network}
use Rattle.net_model.specs.Packets.{IsOfClass, subject}
use Rattle.net_model.specs.Routing.{DistanceMap, IsStable}
use Rattle.net_model.specs.Forwarding.{Ends, AreEnds, target_router}
use Rattle.copy_laws.specs.Passing.{PermitsFewer, RealPacket, RealNetwork, PermitsFewerReally}
use Rattle.copy_laws.specs.Passing.{HoldsFor}
use Rattle.copy_laws.specs.Adjacencies.{reach_of}
use Rattle.arc_nodecut.specs.RouterFailures.{RouterSet, links_down, MayFail, MeetsPast}
use Rattle.arc_prefer.specs.Preferred.{none_failed, KeepsTo, Prefers}

-- over a copy that permits fewer, reach under failed routers is met only where the network meets it
abbrev pub FewerKeepsPast : Type 0
FewerKeepsPast =
    (net copy : Network) → PermitsFewer net copy →
    (policy : Policy) → MeetsPast copy policy → MeetsPast net policy

-- and a list of routers is preferred only where the network prefers it
abbrev pub FewerKeepsPreferred : Type 0
FewerKeepsPreferred =
    (net copy : Network) → PermitsFewer net copy →
    (policy : Policy) (wanted : List Router) →
    Prefers copy policy wanted → Prefers net policy wanted

-- the network carries the packet from end to end of its class whichever K routers fail
pub record MeetsPastFor (net : Network) (class : Class) (k : ℕ) (p : Packet) : Type 0 where
  pub ends : Ends
  pub are_ends : AreEnds net class ends
  pub holds : (down : RouterSet) → MayFail net ends k down →
      HoldsFor net ends p (Reach k) (links_down net down)

-- so a yes of reach under failed routers over a copy that permits fewer is true of the network as
-- it is
abbrev pub FewerKeepsPastReally : Type 0
FewerKeepsPastReally =
    (real : RealNetwork) (copy : Network) → PermitsFewerReally real copy →
    (class : Class) (k : ℕ) → MeetsPast copy (reach_of class k) →
    (x : RealPacket) → IsOfClass class x.seen → MeetsPastFor (real x) class k x.seen

-- the network prefers the list for the packet of the policy: with no link failed it keeps to it
pub record PrefersForOne (net : Network) (policy : Policy) (wanted : List Router)
    (p : Packet) : Type 0 where
  pub ends : Ends
  pub are_ends : AreEnds net (subject policy) ends
  pub keeps : (d : DistanceMap) → IsStable net ends.to (target_router ends) none_failed d →
      KeepsTo net ends d wanted p

-- and so is a yes of a preferred list
abbrev pub FewerKeepsPreferredReally : Type 0
FewerKeepsPreferredReally =
    (real : RealNetwork) (copy : Network) → PermitsFewerReally real copy →
    (policy : Policy) (wanted : List Router) → Prefers copy policy wanted →
    (x : RealPacket) → IsOfClass (subject policy) x.seen →
    PrefersForOne (real x) policy wanted x.seen

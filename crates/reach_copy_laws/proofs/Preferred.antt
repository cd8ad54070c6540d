-- Over a copy that permits fewer packets, what keeps to a list of routers does so in the network.
use Rattle.std.proofs.Common.{◌∙◌, List, sym, subst}
use Rattle.arc_base.specs.declared.place.Router.{Router}
use Rattle.arc_base.specs.declared.prefix.Prefix.{Prefix}
use Rattle.net_model.specs.declared.lists.Packet.{Packet}
use Rattle.net_model.specs.declared.policies.PolicyKind.TheVariants.{Reach}
use Rattle.net_model.specs.declared.rows.Network.{Network}
use Rattle.net_model.specs.Packets.{subject}
use Rattle.net_model.specs.Routing.{Arc, DistanceMap, IsStable}
use Rattle.net_model.specs.Forwarding.{Ends, Enters, IsStuck, source_router, target_router}
use Rattle.copy_laws.specs.Passing.{DifferInLists, PermitsWhere, AreSameEnds}
use Rattle.copy_laws.proofs.Kin.{Moved, moved}
use Rattle.copy_laws.proofs.Meeting.{AreAlike, stable_moved}
use Rattle.copy_laws.proofs.Listless.{kin, mirrors}
use Rattle.copy_laws.proofs.Passed.{alike, fewer_for}
use Rattle.copy_laws.proofs.Ways.{Way, ways_for}
use Rattle.arc_prefer.specs.Preferred.{none_failed, KeepsTo}
use Rattle.reach_copy_laws.specs.Laws.{FewerKeepsPreferred, FewerKeepsPreferredReally}

-- for one packet
keeps_for : (net copy : Network) → DifferInLists net copy → (p : Packet) → PermitsWhere copy net p → (ends others : Ends) → AreSameEnds net copy ends others →
    (wanted : List Router) →
    ((d : DistanceMap) → IsStable copy others.to (target_router others) none_failed d → KeepsTo copy others d wanted p) →
    (d : DistanceMap) → IsStable net ends.to (target_router ends) none_failed d → KeepsTo net ends d wanted p
keeps_for net copy e p fewer ends others same wanted keeps d stable =
    let like : AreAlike ends others = alike net copy (kin net copy e) ends others same in
    let kept : KeepsTo copy others d wanted p = keeps d
    (subst (λ (x : Prefix). IsStable copy x (target_router others) none_failed d) like.to
    (stable_moved net copy p none_failed none_failed ends others like (mirrors net copy e ends.to none_failed) d stable)) in
    let gets : Enters net ends p × ((arcs : List Arc) → ¬ IsStuck net ends none_failed d p arcs) =
    fewer_for net copy (sym e) p fewer ends others same (Reach 0) tt none_failed (λ f at. ((keeps f at).enters, (keeps f at).never_stuck)) d stable in
    record {
      enters = gets.0;
      never_stuck = gets.1;
      visits = λ arcs delivered.
          let way : Way copy others none_failed d p (source_router ends) arcs =
          ways_for net copy e ends others same none_failed d p kept.enters kept.never_stuck arcs delivered in
          way.2 ∙ kept.visits way.0 way.1;
    }

pub fewer_keeps_preferred : FewerKeepsPreferred
fewer_keeps_preferred net copy fewer policy wanted prefers =
    let e : DifferInLists net copy = sym fewer.alike in
    let to : Moved net copy (subject policy) prefers.ends = moved net copy (kin net copy e) (subject policy) prefers.ends prefers.are_ends in
    record {
      ends = to.ends;
      are_ends = to.are_ends;
      prefers = λ d stable p of. keeps_for net copy e p (fewer.permits p) to.ends prefers.ends to.same wanted
          (λ f at. prefers.prefers f at p of) d stable;
    }

pub fewer_keeps_preferred_really : FewerKeepsPreferredReally
fewer_keeps_preferred_really real copy fewer policy wanted prefers x of =
    let net : Network = real x in
    let e : DifferInLists net copy = sym (fewer x).0 in
    let to : Moved net copy (subject policy) prefers.ends = moved net copy (kin net copy e) (subject policy) prefers.ends prefers.are_ends in
    record {
      ends = to.ends;
      are_ends = to.are_ends;
      keeps = keeps_for net copy e x.seen (fewer x).1 to.ends prefers.ends to.same wanted (λ d stable. prefers.prefers d stable x.seen of);
    }

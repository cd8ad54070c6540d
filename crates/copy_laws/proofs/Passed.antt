-- Over copies on which more packets pass, or fewer, policies are met only where the network meets them.
use Rattle.std.proofs.Common.{◌≡◌, ℕ, ◌≤◌, List, ap, sym, subst}
use Rattle.std.specs.Prelude.{IsTrue}
use Rattle.net_model.specs.declared.lists.Packet.{Packet}
use Rattle.net_model.specs.declared.policies.Class.{Class}
use Rattle.net_model.specs.declared.policies.Policy.{Policy}
use Rattle.net_model.specs.declared.policies.PolicyKind.{PolicyKind}
use Rattle.net_model.specs.declared.policies.PolicyKind.TheVariants.{Reach}
use Rattle.net_model.specs.declared.rows.LinkRow.{LinkRow}
use Rattle.net_model.specs.declared.rows.Network.{Network}
use Rattle.net_model.specs.Packets.{IsOfClass, subject}
use Rattle.net_model.specs.Routing.{FailureSet}
use Rattle.net_model.specs.Forwarding.{Ends, Enters, Leaves, failures}
use Rattle.net_model.specs.Policies.{MeetsAs, Meets}
use Rattle.net_laws.specs.Breaking.{no_link, SpeaksOf}
use Rattle.net_laws.proofs.FailedSets.{holds_under_each}
use Rattle.net_laws.proofs.RightVerdicts.{meets_holds}
use Rattle.copy_laws.specs.Passing.{DifferInLists, PermitsWhere, PermitsFewer, IsBarring, IsReach, MoreKeepsBarred}
use Rattle.copy_laws.specs.Passing.{FewerKeepsReach, AreSameEnds, MoreKeepsBarredUnder, FewerKeepsReachUnder, HoldsFor, MoreKeepsBarredReally, FewerKeepsReachReally}
use Rattle.copy_laws.proofs.Kin.{Core, AreKin, same_core, carry, Moved, moved}
use Rattle.copy_laws.proofs.Listless.{kin, mirrors}
use Rattle.copy_laws.proofs.Meeting.{AreAlike, barred_for, reach_for, each_packet, all_packets, clear_there, barred_as, reach_as}

-- ends at the same places are of the same routers, and packets that enter and leave in the one do in the other where it permits more
pub alike : (net copy : Network) → AreKin net copy → (ends others : Ends) → AreSameEnds net copy ends others → AreAlike ends others
alike net copy k ends others same = record {
  source = ap (λ (c : Core). c.router) (same_core net copy k same.source ends.source others.source same.source_here same.source_there);
  target = ap (λ (c : Core). c.router) (same_core net copy k same.target ends.target others.target same.target_here same.target_there);
  to = same.to;
}

pub enters_there : (net copy : Network) → AreKin net copy → (p : Packet) → PermitsWhere net copy p → (ends others : Ends) → AreSameEnds net copy ends others →
    Enters net ends p → Enters copy others p
enters_there net copy k p more ends others same enters = (
  subst (λ (c : Core). IsTrue c.up) (same_core net copy k same.source ends.source others.source same.source_here same.source_there) enters.0,
  more.inbound same.source ends.source others.source same.source_here same.source_there enters.1,
)

pub leaves_there : (net copy : Network) → AreKin net copy → (p : Packet) → PermitsWhere net copy p → (ends others : Ends) → AreSameEnds net copy ends others →
    Leaves net ends p → Leaves copy others p
leaves_there net copy k p more ends others same leaves = (
  subst (λ (c : Core). IsTrue c.up) (same_core net copy k same.target ends.target others.target same.target_here same.target_there) leaves.0,
  more.outbound same.target ends.target others.target same.target_here same.target_there leaves.1,
)

pub same_back : (net copy : Network) (ends others : Ends) → AreSameEnds net copy ends others → AreSameEnds copy net others ends
same_back net copy ends others same = record {
  source = same.source;
  source_here = same.source_there;
  source_there = same.source_here;
  target = same.target;
  target_here = same.target_there;
  target_there = same.target_here;
  to = sym same.to;
}

-- for one packet
more_for : (net copy : Network) → DifferInLists net copy → (p : Packet) → PermitsWhere net copy p → (ends others : Ends) → AreSameEnds net copy ends others →
    (kind : PolicyKind) → IsBarring kind → (failed : FailureSet) → HoldsFor copy others p kind failed → HoldsFor net ends p kind failed
more_for net copy e p more ends others same kind barring failed holds =
    let k : AreKin net copy = kin net copy e in
    barred_for net copy p failed failed ends others (alike net copy k ends others same) (mirrors net copy e ends.to failed)
    (carry net copy p more) (enters_there net copy k p more ends others same) (leaves_there net copy k p more ends others same) kind barring holds

pub fewer_for : (net copy : Network) → DifferInLists copy net → (p : Packet) → PermitsWhere copy net p → (ends others : Ends) → AreSameEnds net copy ends others →
    (kind : PolicyKind) → IsReach kind → (failed : FailureSet) → HoldsFor copy others p kind failed → HoldsFor net ends p kind failed
fewer_for net copy e p fewer ends others same kind reach failed holds =
    let k : AreKin net copy = kin net copy (sym e) in
    let b : AreKin copy net = kin copy net e in
    let back : AreSameEnds copy net others ends = same_back net copy ends others same in
    reach_for net copy p failed failed ends others (alike net copy k ends others same) (mirrors net copy (sym e) ends.to failed)
    (carry copy net p fewer) (enters_there copy net b p fewer others ends back) (leaves_there copy net b p fewer others ends back) kind reach holds

pub more_under : MoreKeepsBarredUnder
more_under net copy more ends others same class kind barring failed holds =
    all_packets net ends class kind failed (λ p of.
    more_for net copy more.alike p (more.permits p) ends others same kind barring failed (each_packet copy others class kind failed holds p of))

pub fewer_under : FewerKeepsReachUnder
fewer_under net copy fewer ends others same class kind reach failed holds =
    all_packets net ends class kind failed (λ p of.
    fewer_for net copy fewer.alike p (fewer.permits p) ends others same kind reach failed (each_packet copy others class kind failed holds p of))

pub more_keeps : MoreKeepsBarred
more_keeps net copy more policy barring meets =
    let to : Moved net copy (subject policy) meets.ends = moved net copy (kin net copy more.alike) (subject policy) meets.ends meets.are_ends in
    record {
      ends = to.ends;
      are_ends = to.are_ends;
      meets = barred_as net copy (subject policy) to.ends meets.ends policy.kind barring (λ failed. failed)
          (λ failed holds. more_under net copy more to.ends meets.ends to.same (subject policy) policy.kind barring failed holds) meets.meets;
    }

-- the failures are counted over the same links
same_count : (net copy : Network) → net.links ≡ copy.links → (failed : FailureSet) (k : ℕ) → failures net failed ≤ k → failures copy failed ≤ k
same_count net copy links failed k few =
    subst (λ (n : ℕ). n ≤ k) (ap (λ (ls : List LinkRow). failures (record net { links = ls }) failed) links) few

fewer_as : (net copy : Network) → PermitsFewer net copy → (ends others : Ends) → AreSameEnds net copy ends others → (class : Class) (kind : PolicyKind) → IsReach kind →
    MeetsAs copy others class kind → MeetsAs net ends class kind
fewer_as net copy fewer ends others same class (Reach k) reach meets =
    let e : DifferInLists net copy = sym fewer.alike in (
      clear_there net copy class no_link ends others (alike net copy (kin net copy e) ends others same) (mirrors net copy e ends.to no_link)
          (λ p of. carry copy net p (fewer.permits p)) meets.0,
      reach_as net copy class ends others k k (λ failed. failed) (λ failed few. same_count net copy (kin net copy e).links failed k few)
          (λ failed holds. fewer_under net copy fewer ends others same class (Reach k) reach failed holds) meets.1,
    )
fewer_as net copy fewer ends others same class other reach meets = absurd reach

pub fewer_keeps : FewerKeepsReach
fewer_keeps net copy fewer policy reach meets =
    let to : Moved net copy (subject policy) meets.ends = moved net copy (kin net copy (sym fewer.alike)) (subject policy) meets.ends meets.are_ends in
    record {
      ends = to.ends;
      are_ends = to.are_ends;
      meets = fewer_as net copy fewer to.ends meets.ends to.same (subject policy) policy.kind reach meets.meets;
    }

spoken : (net copy : Network) → net.links ≡ copy.links → (kind : PolicyKind) (failed : FailureSet) → SpeaksOf net kind failed → SpeaksOf copy kind failed
spoken net copy links (Reach k) failed speaks = same_count net copy links failed k speaks
spoken net copy links other failed speaks = speaks

under : (net copy : Network) → net.links ≡ copy.links → (policy : Policy) (meets : Meets copy policy) (p : Packet) → IsOfClass (subject policy) p →
    (failed : FailureSet) → SpeaksOf net policy.kind failed → HoldsFor copy meets.ends p policy.kind failed
under net copy links policy meets p of failed speaks =
    each_packet copy meets.ends (subject policy) policy.kind failed
    ((holds_under_each copy meets.ends (subject policy) policy.kind).0 (meets_holds copy meets.ends (subject policy) policy.kind meets.meets) failed
    (spoken net copy links policy.kind failed speaks)) p of

pub more_really : MoreKeepsBarredReally
more_really real copy more policy barring meets x of =
    let net : Network = real x in
    let e : DifferInLists net copy = (more x).0 in
    let to : Moved net copy (subject policy) meets.ends = moved net copy (kin net copy e) (subject policy) meets.ends meets.are_ends in
    record {
      ends = to.ends;
      are_ends = to.are_ends;
      holds = λ failed speaks. more_for net copy e x.seen (more x).1 to.ends meets.ends to.same policy.kind barring failed
          (under net copy (kin net copy e).links policy meets x.seen of failed speaks);
    }

pub fewer_really : FewerKeepsReachReally
fewer_really real copy fewer policy reach meets x of =
    let net : Network = real x in
    let e : DifferInLists copy net = (fewer x).0 in
    let to : Moved net copy (subject policy) meets.ends = moved net copy (kin net copy (sym e)) (subject policy) meets.ends meets.are_ends in
    record {
      ends = to.ends;
      are_ends = to.are_ends;
      holds = λ failed speaks. fewer_for net copy e x.seen (fewer x).1 to.ends meets.ends to.same policy.kind reach failed
          (under net copy (kin net copy (sym e)).links policy meets x.seen of failed speaks);
    }

-- Lists first, then adjacencies, and then routers that know more.
use Rattle.std.proofs.Common.{sym}
use Rattle.net_model.specs.declared.lists.Packet.{Packet}
use Rattle.net_model.specs.declared.policies.PolicyKind.{PolicyKind}
use Rattle.net_model.specs.declared.policies.PolicyKind.TheVariants.{Blocked, Through, Reach}
use Rattle.net_model.specs.declared.rows.Network.{Network}
use Rattle.net_model.specs.Routing.{FailureSet, DistanceMap, IsStable}
use Rattle.net_model.specs.Forwarding.{Ends, target_router}
use Rattle.copy_laws.specs.Passing.{IsBarring, HoldsFor, MeetsFor}
use Rattle.copy_laws.specs.Adjacencies.{reach_of}
use Rattle.copy_laws.specs.Beyond.{NextHops, AgreesWhereKnown, StayAway}
use Rattle.copy_laws.specs.Together.{BothKeepBarred, BothCostReach, HoldsBy, AllKeepBarred, AllCostReach}
use Rattle.copy_laws.proofs.Passed.{more_really, fewer_really}
use Rattle.copy_laws.proofs.Listless.{kin}
use Rattle.copy_laws.proofs.Downs.{kin_idle, fewer_links_keep, fewer_links_cost}
use Rattle.copy_laws.proofs.Sound.{IsSound, sound_valid, sound_kin}
use Rattle.copy_laws.proofs.Known.{model_delivers, sure_packet}

pub both_keep : BothKeepBarred
both_keep real between copy down more fewer policy barring meets =
    more_really real between more policy barring (fewer_links_keep between copy down fewer policy barring meets)

pub both_cost : BothCostReach
both_cost real between copy down lists fewer L few class k meets =
    fewer_really real between lists (reach_of class k) tt (fewer_links_cost between copy down fewer L few class k meets)

-- what bars a packet in the model bars it by next hops from which none comes back
barred_by : (net : Network) (ends : Ends) (p : Packet) (kind : PolicyKind) → IsBarring kind → (failed : FailureSet) → HoldsFor net ends p kind failed →
    (d : DistanceMap) → IsStable net ends.to (target_router ends) failed d → (sends : NextHops) → AgreesWhereKnown net ends.to failed d sends →
    StayAway ends d sends → HoldsBy net ends sends p kind
barred_by net ends p Blocked barring failed holds d stable sends agrees away = λ arcs delivered.
    holds d stable arcs (model_delivers net ends failed d stable sends agrees away p arcs delivered)
barred_by net ends p Through barring failed holds d stable sends agrees away = λ arcs delivered.
    holds d stable arcs (model_delivers net ends failed d stable sends agrees away p arcs delivered)
barred_by net ends p (Reach k) barring failed holds d stable sends agrees away = absurd barring

pub all_keep : AllKeepBarred
all_keep real between copy down more fewer policy barring meets x of =
    let m : MeetsFor (real x) policy x.seen = both_keep real between copy down more fewer policy barring meets x of in
    record {
      ends = m.ends;
      are_ends = m.are_ends;
      holds = λ failed spoken d stable sends agrees away.
          barred_by (real x) m.ends x.seen policy.kind barring failed (m.holds failed spoken) d stable sends agrees away;
    }

pub all_cost : AllCostReach
all_cost real between copy down valid lists fewer L few class k meets x of =
    let m : MeetsFor (real x) (reach_of class k) x.seen = both_cost real between copy down lists fewer L few class k meets x of in
    let sound : IsSound (real x) =
    sound_kin (real x) between (kin (real x) between (sym (lists x).0)) (sound_kin between copy (kin_idle between copy fewer.alike) (sound_valid copy valid)) in
    record {
      ends = m.ends;
      are_ends = m.are_ends;
      holds = λ failed spoken d stable sends agrees one.
          sure_packet (real x) sound m.ends class m.are_ends failed d stable sends agrees x.seen k (m.holds failed spoken);
    }

-- With the links of a right cut failed the source has no distance, and packets of a denied class are stuck at their target.
use Rattle.std.proofs.Common.{◌≡◌, ℕ, zero, suc, ◌+◌, ◌*◌, ◌<◌, ◌≤◌, inl, inr, Bool, true, false, Option, Some, None, List, [], ◌∷◌, length, ap, refl, sym, ◌∙◌, subst, arith}
use Rattle.std.specs.Prelude.{Contains, ◌==◌, ◌||◌, slice_get, is_some}
use Rattle.std.proofs.lemmas.Bool.{false≢true, eq-eqb, ne_eqb}
use Rattle.std.proofs.lemmas.Bool.Decides.{eqb_tells}
use Rattle.std.proofs.lemmas.Option.{slice_get-get_or}
use Rattle.std.proofs.Math.Bool.{or-true}
use Rattle.arc_base.specs.declared.place.Link.{Link}
use Rattle.arc_base.specs.declared.prefix.Prefix.{Prefix}
use Rattle.net_model.specs.declared.lists.Packet.{Packet}
use Rattle.net_model.specs.declared.policies.Class.{Class}
use Rattle.net_model.specs.declared.rows.Network.{Network}
use Rattle.net_model.specs.Packets.{IsOfClass, first_packet}
use Rattle.net_model.specs.Routing.{Arc, IsArc, IsRouted, IsStable, Offers, cost, head_router}
use Rattle.net_model.specs.Forwarding.{Ends, AreEnds, Enters, Leaves, Attains, ArcPermits, Walk, IsStuck, failures, source_router, target_router}
use Rattle.net_model.specs.Validity.{IsValid, IsValidFace}
use Rattle.net_model.specs.declared.policies.PolicyKind.TheVariants.{Reach}
use Rattle.net_model.specs.Witnesses.{IsOn, LeavesSide, IsRightCut, IsRightDenied, among}
use Rattle.net_model.proofs.Packets.{first_is_of}
use Rattle.net_laws.specs.Laws.{RightCutsSeparate, RightCutsBreakReach, RightDenialsBreakReach}
use Rattle.net_laws.specs.Breaking.{no_link, ReachesUnder, BreaksAs}
use Rattle.net_laws.proofs.Counting.{total, total-sum, total-mono, total-cong, total-const, ind}
use Rattle.net_laws.proofs.FailedLinks.{count-range, times}
use Rattle.net_laws.proofs.StableMaps.{cost-pos, head_in, reached, value_of}
use Rattle.net_laws.proofs.RightWalks.{part_of}
use Rattle.net_laws.proofs.Existence.{some_stable_map}

-- a link that the list contains is among them
among_from : (links : List Link) (l : Link) → Contains links l → among links l.0 ≡ true
among_from [] l at = absurd (omega (arith, at.1))
among_from (m ∷ links) l (zero, within, e) = ap (λ (b : Bool). b || among links l.0) (eq-eqb m.0 l.0 (ap (λ (x : Link). x.0) e))
among_from (m ∷ links) l (suc k, within, e) =
    ap (λ (b : Bool). (m.0 == l.0) || b) (among_from links l (k, omega arith, e)) ∙ or-true (m.0 == l.0)

-- no more links have failed than the list has
pub or_le : (a b : Bool) → ind (a || b) ≤ ind a + ind b
or_le true b = omega arith
or_le false b = omega arith

among_le : (links : List Link) (link : ℕ) → ind (among links link) ≤ times links link
among_le [] link = omega arith
among_le (l ∷ links) link = omega (arith, or_le (l.0 == link) (among links link), among_le links link)

pub one_at_most : (n x : ℕ) → total n (λ k. ind (x == k)) ≤ 1
unfolding total
one_at_most zero x = omega arith
one_at_most (suc n) x =
    elim (eqb_tells x n) [
      | inl at ↦
          let rest : total n (λ k. ind (x == k)) ≡ n * 0 = total-const n 0 (λ k. ind (x == k)) (λ k m. ap ind (ne_eqb x k (λ q. omega (arith, at.1)))) in
          let one : ind (x == n) ≡ 1 = ap ind at.0 in omega (arith, rest, one)
      | inr off ↦ let none : ind (x == n) ≡ 0 = ap ind off.0 in omega (arith, one_at_most n x, none)
    ]

times_le : (n : ℕ) (links : List Link) → total n (times links) ≤ length links
times_le n [] = let none : total n (λ k. 0) ≡ n * 0 = total-const n 0 (λ k. 0) (λ k m. refl) in omega (arith, none)
times_le n (l ∷ links) =
    let split : total n (λ k. ind (l.0 == k) + times links k) ≡ total n (λ k. ind (l.0 == k)) + total n (λ k. times links k) =
    total-sum n (λ k. ind (l.0 == k)) (λ k. times links k) in
    omega (arith, split, one_at_most n l.0, times_le n links)

failures_le : (net : Network) (links : List Link) → failures net (among links) ≤ length links
failures_le net links =
    let count : failures net (among links) ≡ total (length net.links) (λ k. ind (among links (0 + k))) = count-range (among links) 0 (length net.links) in
    let same : total (length net.links) (λ k. ind (among links (0 + k))) ≡ total (length net.links) (λ k. ind (among links k)) =
    total-cong (length net.links) (λ k. ind (among links (0 + k))) (λ k. ind (among links k)) (λ k m. ap (λ (x : ℕ). ind (among links x)) (omega arith)) in
    let few : total (length net.links) (λ k. ind (among links k)) ≤ total (length net.links) (times links) =
    total-mono (length net.links) (times links) (λ k. ind (among links k)) (λ k l. among_le links k) in
    omega (arith, count, same, few, times_le (length net.links) links)

module _ (net : Network) (valid : IsValid net) (ends : Ends) (k : ℕ) (whole : Class) (links : List Link) (side : List Bool) (cut : IsRightCut net ends k whole links side)
    (d : ℕ → Option ℕ) (stable : IsStable net ends.to (target_router ends) (among links) d) where
  -- a router with a distance is not on the side
  off_side : (bound u n : ℕ) → n < bound → u < length net.routers → d u ≡ Some n → IsOn side u → ⊥
  off_side zero u n below within known on = absurd (omega arith)
  off_side (suc bound) u n below within known on =
      elim (eqb_tells u (target_router ends)) [
        | inl at ↦ cut.target (subst (IsOn side) at.1 on)
        | inr off ↦
            let o : Offers net ends.to (among links) d u n = reached net valid ends.to (target_router ends) (among links) d stable u n within off.1 known in
            let positive : 1 ≤ cost net o.arc = cost-pos net valid o.arc o.usable.is_arc in
            let less : o.rest < bound = omega (arith, o.sum) in
            let head_off : IsOn side (head_router o.arc) → ⊥ =
            off_side bound (head_router o.arc) o.rest less (head_in net valid o.arc o.usable.is_arc) o.head in
            let leaving : LeavesSide net ends.to side o.arc = record {
              is_arc = o.usable.is_arc;
              routed = o.usable.routed;
              tail = subst (IsOn side) (sym o.tail) on;
              head = head_off;
            } in
            let link : Link = record { 0 = o.arc.link } in
            let listed : Contains links (record { 0 = o.arc.link }) = (cut.cut (record { 0 = o.arc.link })).1 (o.arc, refl, leaving) in
            false≢true (sym o.usable.left ∙ among_from links (record { 0 = o.arc.link }) listed)
      ]

-- the source is a router of the network
pub source_in : (net : Network) → IsValid net → (class : Class) (ends : Ends) → AreEnds net class ends → source_router ends < length net.routers
source_in net valid class ends are =
    let read : slice_get net.faces are.source.0 ≡ Some ends.source =
    slice_get-get_or net.faces are.source.0 ends.source are.source.1 ∙ ap Some are.source.2 in
    let face : IsValidFace net are.source.0 ends.source = valid.faces are.source.0 ends.source read in face.router

pub right_cuts_separate : RightCutsSeparate
right_cuts_separate net valid ends k whole links side are cut = (
  omega (arith, failures_le net links, cut.few),
  λ d stable. elim (value_of (d (source_router ends))) [
    | inl none ↦ none
    | inr n ↦ absurd (off_side net valid ends k whole links side cut d stable (n.0 + 1) (source_router ends) n.0 (omega arith)
        (source_in net valid whole ends are) n.1 cut.source)
  ],
)

pub stuck_at_source : (net : Network) (ends : Ends) (failed : ℕ → Bool) (d : ℕ → Option ℕ) (p : Packet) → Enters net ends p → d (source_router ends) ≡ None →
    IsStuck net ends failed d p []
stuck_at_source net ends failed d p enters none =
    record { router = source_router ends; enters = enters; walk = refl; stuck = inr (inl (ap is_some none)) }

-- with the links of a right cut failed the class does not reach its target
pub cut_breaks : (net : Network) → IsValid net → (ends : Ends) (k : ℕ) (whole : Class) (links : List Link) (side : List Bool) →
    AreEnds net whole ends → IsRightCut net ends k whole links side → BreaksAs net ends whole (Reach k) (among links)
cut_breaks net valid ends k whole links side are cut =
    let shown : (failures net (among links) ≤ k) × ((d : ℕ → Option ℕ) → IsStable net ends.to (target_router ends) (among links) d → d (source_router ends) ≡ None) =
    right_cuts_separate net valid ends k whole links side are cut in
    let d : (d : ℕ → Option ℕ) × IsStable net ends.to (target_router ends) (among links) d = some_stable_map net valid ends.to (target_router ends) (among links) in
    let p : (p : Packet) × IsOfClass whole p = (first_packet whole, first_is_of whole) in
    record {
      spoken = shown.0;
      broken = λ (reaches : ReachesUnder net ends whole (among links)).
          let reach : Enters net ends p.0 × ((arcs : List Arc) → ¬ IsStuck net ends (among links) d.0 p.0 arcs) = reaches d.0 d.1 p.0 p.1 in
          reach.1 [] (stuck_at_source net ends (among links) d.0 p.0 reach.0 (shown.1 d.0 d.1));
    }

pub right_cuts_break_reach : RightCutsBreakReach
right_cuts_break_reach net valid ends k whole links side are cut reaches =
    let breaks : BreaksAs net ends whole (Reach k) (among links) = cut_breaks net valid ends k whole links side are cut in
    breaks.broken (λ d stable p of. reaches (among links) d breaks.spoken stable p of)

module _ (net : Network) (valid : IsValid net) (to : Prefix) (t : ℕ) (failed : ℕ → Bool) (d : ℕ → Option ℕ) (stable : IsStable net to t failed d) (p : Packet)
    (permit : (arc : Arc) → IsArc net arc → IsRouted net to arc → ArcPermits net arc p) where
  -- from a router with a distance a walk goes to the owner
  pub walk_to : (bound u n : ℕ) → n < bound → u < length net.routers → d u ≡ Some n → (arcs : List Arc) × Walk net to failed d p u arcs t
  walk_to zero u n below within known = absurd (omega arith)
  walk_to (suc bound) u n below within known =
      elim (eqb_tells u t) [
        | inl at ↦ ([], at.1)
        | inr off ↦
            let o : Offers net to failed d u n = reached net valid to t failed d stable u n within off.1 known in
            let positive : 1 ≤ cost net o.arc = cost-pos net valid o.arc o.usable.is_arc in
            let rest : (arcs : List Arc) × Walk net to failed d p (head_router o.arc) arcs t =
            walk_to bound (head_router o.arc) o.rest (omega (arith, o.sum)) (head_in net valid o.arc o.usable.is_arc) o.head in
            let attains : Attains net to failed d o.arc = record { usable = o.usable; rest = o.rest; head = o.head; tail = ap d o.tail ∙ known ∙ ap Some o.sum } in
            (o.arc ∷ rest.0, (o.tail, attains, permit o.arc o.usable.is_arc o.usable.routed, rest.1))
      ]

pub none_failed : (net : Network) → failures net no_link ≡ 0
none_failed net =
    count-range no_link 0 (length net.links) ∙ total-const (length net.links) 0 (λ k. ind false) (λ k m. refl) ∙ (omega arith)

-- with no link failed a denied class does not reach its target
not_reached_when_denied : (net : Network) → IsValid net → (ends : Ends) (whole class : Class) → AreEnds net whole ends → IsRightDenied net ends whole class →
    ReachesUnder net ends whole no_link → ⊥
not_reached_when_denied net valid ends whole class are denial reaches =
    let d : (d : ℕ → Option ℕ) × IsStable net ends.to (target_router ends) no_link d = some_stable_map net valid ends.to (target_router ends) no_link in
    let p : (p : Packet) × IsOfClass class p = (first_packet class, first_is_of class) in
    let of : IsOfClass whole p.0 = part_of class whole p.0 denial.part p.1 in
    let reach : Enters net ends p.0 × ((arcs : List Arc) → ¬ IsStuck net ends no_link d.0 p.0 arcs) = reaches d.0 d.1 p.0 of in
    let stays : ¬ Leaves net ends p.0 = denial.denied p.0 p.1 reach.0 in
    elim (value_of (d.0 (source_router ends))) [
      | inl none ↦ reach.1 [] (stuck_at_source net ends no_link d.0 p.0 reach.0 none)
      | inr n ↦ elim denial.clear [
        | inl together ↦ reach.1 [] (record { router = source_router ends; enters = reach.0; walk = refl; stuck = inl (together, stays) })
        | inr permit ↦
            let way : (arcs : List Arc) × Walk net ends.to no_link d.0 p.0 (source_router ends) arcs (target_router ends) =
            walk_to net valid ends.to (target_router ends) no_link d.0 d.1 p.0 (λ arc is_arc routed. permit arc is_arc routed p.0 of)
            (n.0 + 1) (source_router ends) n.0 (omega arith) (source_in net valid whole ends are) n.1 in
            reach.1 way.0 (record { router = target_router ends; enters = reach.0; walk = way.1; stuck = inl (refl, stays) })
      ]
    ]

pub denial_breaks : (net : Network) → IsValid net → (ends : Ends) (k : ℕ) (whole class : Class) → AreEnds net whole ends → IsRightDenied net ends whole class →
    BreaksAs net ends whole (Reach k) no_link
denial_breaks net valid ends k whole class are denial = record {
  spoken = omega (arith, none_failed net);
  broken = not_reached_when_denied net valid ends whole class are denial;
}

pub right_denials_break_reach : RightDenialsBreakReach
right_denials_break_reach net valid ends k whole class are denial reaches =
    let breaks : BreaksAs net ends whole (Reach k) no_link = denial_breaks net valid ends k whole class are denial in
    breaks.broken (λ d stable p of. reaches no_link d breaks.spoken stable p of)

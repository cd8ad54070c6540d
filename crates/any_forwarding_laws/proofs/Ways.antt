-- Ways in a row, and waypoints on them.
use Rattle.std.proofs.Common.{ℕ, zero, suc, ◌+◌, ◌⊎◌, inl, inr, true, List, [], ◌∷◌, ◌++◌, refl, sym, subst, arith}
use Rattle.std.specs.Prelude.{Any, IsTrue}
use Rattle.net_model.specs.declared.lists.Packet.{Packet}
use Rattle.net_model.specs.declared.rows.Network.{Network}
use Rattle.net_model.specs.Routing.{Arc, head_router}
use Rattle.net_model.specs.Policies.{CrossesWaypoint}
use Rattle.net_laws.proofs.ClosedSides.{Any-here, Any-there}
use Rattle.any_forwarding_laws.specs.Forwardings.{Forwarding, Way, Sends}
use Rattle.any_forwarding_laws.specs.Copies.{HasWay}

-- what holds of some item of two lists in a row holds of one of the first or of the second
pub Any-split : {X : Type 0} (P : X → Type 0) (xs ys : List X) → Any P (xs ++ ys) → Any P xs ⊎ Any P ys
Any-split P [] ys h = inr h
Any-split P (x ∷ xs) ys (zero, y, within, e, p) = inl (Any-here P x xs (subst P (sym e) p))
Any-split P (x ∷ xs) ys (suc k, y, within, e, p) =
    elim (Any-split P xs ys (k, y, omega arith, e, p)) [
      | inl first ↦ inl (Any-there P x xs first)
      | inr second ↦ inr second
    ]

-- arcs over a waypoint link
abbrev pub OverWaypoint : Arc → Type 0
OverWaypoint arc = IsTrue arc.row.waypoint

pub crosses_none : CrossesWaypoint [] → ⊥
crosses_none crosses = absurd (omega (arith, crosses.2))

-- two ways in a row are a way
pub Way-append : (net : Network) (p : Packet) (arcs others : List Arc) (u v w : ℕ) → Way net p u arcs v → Way net p v others w → Way net p u (arcs ++ others) w
Way-append net p [] others u v w first second = subst (λ (x : ℕ). Way net p x others w) (sym first) second
Way-append net p (arc ∷ arcs) others u v w first second =
    (first.0, first.1, first.2, Way-append net p arcs others (head_router arc) v w first.3 second)

-- the forwarding that sends every packet over every arc
abbrev pub everywhere : Forwarding
everywhere moment p arc = true

pub sends_everywhere : (moment : ℕ) (p : Packet) (arcs : List Arc) → Sends everywhere moment p arcs
sends_everywhere moment p [] = tt
sends_everywhere moment p (arc ∷ arcs) = (refl, sends_everywhere (moment + 1) p arcs)

-- one arc crosses a waypoint only if it is over one
pub crosses_one : (arc : Arc) → CrossesWaypoint (arc ∷ []) → OverWaypoint arc
crosses_one arc (zero, x, within, e, over) = subst OverWaypoint (sym e) over
crosses_one arc (suc k, x, within, e, over) = absurd (omega (arith, within))

-- two arcs cross a waypoint only if one of them is over one
pub crosses_two : (arc other : Arc) → CrossesWaypoint (arc ∷ other ∷ []) → OverWaypoint arc ⊎ OverWaypoint other
crosses_two arc other (zero, x, within, e, over) = inl (subst OverWaypoint (sym e) over)
crosses_two arc other (suc k, x, within, e, over) = inr (crosses_one other (k, x, omega arith, e, over))

-- two ways in a row, that cross a waypoint only if they may
pub in_a_row : (net : Network) (p : Packet) (u v w : ℕ) (may : Type 0) → HasWay net p u v may → HasWay net p v w may → HasWay net p u w may
in_a_row net p u v w may first second = record {
  arcs = first.arcs ++ second.arcs;
  way = Way-append net p first.arcs second.arcs u v w first.way second.way;
  crosses = λ (c : CrossesWaypoint (first.arcs ++ second.arcs)). elim (Any-split OverWaypoint first.arcs second.arcs c) [
    | inl here ↦ first.crosses here
    | inr there ↦ second.crosses there
  ];
}

-- what may cross less may cross more
pub more : (net : Network) (p : Packet) (u v : ℕ) (less may : Type 0) → (less → may) → HasWay net p u v less → HasWay net p u v may
more net p u v less may leads has = record { arcs = has.arcs; way = has.way; crosses = λ c. leads (has.crosses c) }

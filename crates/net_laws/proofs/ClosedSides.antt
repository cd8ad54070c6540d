-- No packet of a class gets off a closed side, nor leaves from it.
use Rattle.std.proofs.Common.{◌≡◌, ℕ, suc, ◌⊎◌, inl, inr, Bool, true, false, Option, List, [], ◌∷◌, refl, sym, subst, arith, IsTrue}
use Rattle.std.specs.Prelude.{Any}
use Rattle.std.specs.List.{AllByRecursion}
use Rattle.net_model.specs.declared.lists.Packet.{Packet}
use Rattle.net_model.specs.declared.policies.Class.{Class}
use Rattle.net_model.specs.declared.policies.PolicyKind.{PolicyKind}
use Rattle.net_model.specs.declared.policies.PolicyKind.TheVariants.{Blocked, Through}
use Rattle.net_model.specs.declared.rows.Network.{Network}
use Rattle.net_model.specs.Packets.{IsOfClass}
use Rattle.net_model.specs.Routing.{Arc, tail_router, head_router}
use Rattle.net_model.specs.Forwarding.{Ends, Walk, IsDelivered, source_router, target_router}
use Rattle.net_model.specs.Policies.{CrossesWaypoint}
use Rattle.net_model.specs.declared.verdicts.ClassSide.{ClassSide}
use Rattle.net_model.specs.Witnesses.{IsOn, MayBreak, IsClosed, IsRightSide, IsRightClosed}
use Rattle.net_laws.specs.Laws.{ClosedSidesBlock, ClosedSidesForceThrough}
use Rattle.net_laws.proofs.Cover.{covered}

pub Any-here : {X : Type 0} (P : X → Type 0) (x : X) (xs : List X) → P x → Any P (x ∷ xs)
Any-here P x xs h = (0, x, omega arith, refl, h)

pub Any-there : {X : Type 0} (P : X → Type 0) (x : X) (xs : List X) → Any P xs → Any P (x ∷ xs)
Any-there P x xs h = (suc h.0, h.1, omega (arith, h.2), h.3, h.4)

-- each arc may be used by a walk that breaks the policy, or some arc is over a waypoint link
pub break_or_cross : (arcs : List Arc) → AllByRecursion (MayBreak Through) arcs ⊎ CrossesWaypoint arcs
break_or_cross [] = inl tt
break_or_cross (arc ∷ arcs) =
    let W : Arc → Type 0 = λ (a : Arc). IsTrue a.row.waypoint in
    let either : (arc.row.waypoint ≡ true) ⊎ (arc.row.waypoint ≡ false) =
    elim arc.row.waypoint as (λ (b : Bool). (b ≡ true) ⊎ (b ≡ false)) [ true ↦ inl refl | false ↦ inr refl ] in
    elim either [
      | inl crosses ↦ inr (Any-here W arc arcs crosses)
      | inr plain ↦ elim (break_or_cross arcs) [
        | inl all ↦ inl (plain, all)
        | inr some ↦ inr (Any-there W arc arcs some)
      ]
    ]

pub all_break : (arcs : List Arc) → AllByRecursion (MayBreak Blocked) arcs
all_break [] = tt
all_break (arc ∷ arcs) = (tt, all_break arcs)

module _ (net : Network) (ends : Ends) (kind : PolicyKind) (class : Class) (side : List Bool) (closed : IsClosed net ends kind class side)
    (failed : ℕ → Bool) (d : ℕ → Option ℕ) (p : Packet) (of : IsOfClass class p) where
  -- a walk that begins on the side ends there
  pub stays : (arcs : List Arc) (u v : ℕ) → Walk net ends.to failed d p u arcs v → AllByRecursion (MayBreak kind) arcs → IsOn side u → IsOn side v
  stays [] u v walk breaks on = subst (IsOn side) walk on
  stays (arc ∷ arcs) u v walk breaks on =
      let at_tail : IsOn side (tail_router arc) = subst (IsOn side) (sym walk.0) on in
      let at_head : IsOn side (head_router arc) =
      closed.arcs arc walk.1.usable.is_arc walk.1.usable.routed breaks.0 at_tail p of walk.2 in
      stays arcs (head_router arc) v walk.3 breaks.1 at_head

  -- so it is not delivered
  pub not_delivered : (arcs : List Arc) → AllByRecursion (MayBreak kind) arcs → IsDelivered net ends failed d p arcs → ⊥
  not_delivered arcs breaks delivered =
      let on_source : IsOn side (source_router ends) = closed.source p of delivered.enters in
      let on_target : IsOn side (target_router ends) = stays arcs (source_router ends) (target_router ends) delivered.walk breaks on_source in
      closed.target on_target p of delivered.leaves

-- the side of the packet's class
pub side_of : (net : Network) (ends : Ends) (kind : PolicyKind) (whole : Class) (sides : List ClassSide) → IsRightClosed net ends kind whole sides →
    (p : Packet) → IsOfClass whole p → (c : ClassSide) × IsRightSide net ends kind whole c × IsOfClass c.class p
side_of net ends kind whole sides shown p of =
    covered whole sides (IsRightSide net ends kind whole) shown.disjoint (λ k d l. (shown.right k d l).part) shown.right shown.all p of

pub closed_block : ClosedSidesBlock
closed_block net ends whole sides shown failed d stable p of arcs delivered =
    let c : (c : ClassSide) × IsRightSide net ends Blocked whole c × IsOfClass c.class p = side_of net ends Blocked whole sides shown p of in
    not_delivered net ends Blocked c.0.class c.0.side c.1.closed failed d p c.2 arcs (all_break arcs) delivered

pub closed_force_through : ClosedSidesForceThrough
closed_force_through net ends whole sides shown failed d stable p of arcs delivered =
    let c : (c : ClassSide) × IsRightSide net ends Through whole c × IsOfClass c.class p = side_of net ends Through whole sides shown p of in
    elim (break_or_cross arcs) [
      | inl breaks ↦ absurd (not_delivered net ends Through c.0.class c.0.side c.1.closed failed d p c.2 arcs breaks delivered)
      | inr crosses ↦ crosses
    ]

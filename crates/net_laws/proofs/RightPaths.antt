-- Right paths show that the packets reach their target.
use Rattle.std.proofs.Common.{◌≡◌, ℕ, ◌+◌, ◌<◌, ◌≤◌, inl, inr, Bool, Option, Some, List, [], ◌∷◌, length, ap, refl, sym, ◌∙◌, subst, arith}
use Rattle.std.specs.Prelude.{unwrap_or, is_some}
use Rattle.std.proofs.lemmas.Bool.{false≢true}
use Rattle.std.proofs.lemmas.Bool.Decides.{eqb_tells}
use Rattle.arc_base.specs.declared.prefix.Prefix.{Prefix}
use Rattle.net_model.specs.declared.lists.Packet.{Packet}
use Rattle.net_model.specs.declared.policies.Class.{Class}
use Rattle.net_model.specs.declared.verdicts.LinkPath.{LinkPath}
use Rattle.net_model.specs.declared.rows.Network.{Network}
use Rattle.net_model.specs.Packets.{IsOfClass}
use Rattle.net_model.specs.Routing.{Arc, IsArc, IsStable, Offers, cost, tail_router, head_router, tail_face}
use Rattle.net_model.specs.Forwarding.{Ends, Attains, Walk, Leaves, IsStuck, failures, source_router, target_router}
use Rattle.net_model.specs.Policies.{IsClear}
use Rattle.net_model.specs.Validity.{IsValid, IsValidFace}
use Rattle.net_model.specs.Witnesses.{Path, IsRightPaths}
use Rattle.net_laws.specs.Laws.{RightPathsReach, RefusalsAreRight}
use Rattle.net_laws.proofs.StableMaps.{cost-pos, offered}
use Rattle.net_laws.proofs.FailedLinks.{Alive, Survivor, survivor}

pub tail_in : (net : Network) → IsValid net → (arc : Arc) → IsArc net arc → tail_router arc < length net.routers
tail_in net valid arc is_arc =
    let face : IsValidFace net (tail_face arc).0 arc.tail = valid.faces (tail_face arc).0 arc.tail is_arc.tail in face.router

module _ (net : Network) (valid : IsValid net) (to : Prefix) (t : ℕ) (failed : ℕ → Bool) (d : ℕ → Option ℕ) (stable : IsStable net to t failed d) where
  -- a router with a path of which no link has failed has a distance
  pub known : (arcs : List Arc) (u : ℕ) → Path net to u arcs t → Alive failed arcs → (n : ℕ) × (d u ≡ Some n)
  known [] u path alive = (0, ap d path ∙ stable.at_owner)
  known (arc ∷ arcs) u path alive =
      let next : (n : ℕ) × (d (head_router arc) ≡ Some n) = known arcs (head_router arc) path.3 alive.1 in
      elim (eqb_tells u t) [
        | inl at ↦ (0, ap d at.1 ∙ stable.at_owner)
        | inr off ↦
            let offer : Offers net to failed d u (cost net arc + next.0) = record {
              arc = arc;
              usable = record { is_arc = path.0; routed = path.1; left = alive.0 };
              tail = path.2;
              rest = next.0;
              head = next.1;
              sum = refl;
            } in
            let within : u < length net.routers = subst (λ (k : ℕ). k < length net.routers) path.2 (tail_in net valid arc path.0) in
            let got : (m : ℕ) × (d u ≡ Some m) × (m ≤ cost net arc + next.0) = offered net valid to t failed d stable u (cost net arc + next.0) within off.1 offer in
            (got.0, got.1)
      ]

  -- no arc gives the owner its distance
  pub owner_rests : (arc : Arc) → Attains net to failed d arc → tail_router arc ≡ t → ⊥
  owner_rests arc attains at =
      let positive : 1 ≤ cost net arc = cost-pos net valid arc attains.usable.is_arc in
      let zero_is : 0 ≡ cost net arc + attains.rest =
      ap (λ (o : Option ℕ). unwrap_or o 0) (sym stable.at_owner ∙ sym (ap d at) ∙ attains.tail) in
      omega (arith, positive, zero_is)

  -- along a walk every router has a distance
  pub known_along : (p : Packet) (arcs : List Arc) (u v : ℕ) → Walk net to failed d p u arcs v → ((n : ℕ) × (d u ≡ Some n)) → (n : ℕ) × (d v ≡ Some n)
  known_along p [] u v walk here = (here.0, sym (ap d walk) ∙ here.1)
  known_along p (arc ∷ arcs) u v walk here = known_along p arcs (head_router arc) v walk.3 (walk.1.rest, walk.1.head)

  -- a walk that begins at the owner stays there
  pub stays_at_owner : (p : Packet) (arcs : List Arc) (v : ℕ) → Walk net to failed d p t arcs v → t ≡ v
  stays_at_owner p [] v walk = walk
  stays_at_owner p (arc ∷ arcs) v walk = absurd (owner_rests arc walk.1 walk.0)

-- the source has a distance
source_known : (net : Network) → IsValid net → (ends : Ends) (k : ℕ) (whole : Class) (paths : List LinkPath) → IsRightPaths net ends k whole paths →
    (failed : ℕ → Bool) (d : ℕ → Option ℕ) → failures net failed ≤ k → IsStable net ends.to (target_router ends) failed d → (n : ℕ) × (d (source_router ends) ≡ Some n)
source_known net valid ends k whole paths right failed d few stable =
    elim (eqb_tells (source_router ends) (target_router ends)) [
      | inl at ↦ (0, ap d at.1 ∙ stable.at_owner)
      | inr off ↦
          let s : Survivor net ends failed = survivor net ends failed k paths right.are_paths right.once (right.apart off.1) few in
          known net valid ends.to (target_router ends) failed d stable s.shown.arcs (source_router ends) s.shown.leads s.alive
    ]

-- a packet that is clear and leaves is stuck nowhere on its walks
pub not_stuck : (net : Network) → IsValid net → (ends : Ends) (whole : Class) → IsClear net ends whole → (failed : ℕ → Bool) (d : ℕ → Option ℕ) →
    IsStable net ends.to (target_router ends) failed d → (p : Packet) → IsOfClass whole p → Leaves net ends p → ((n : ℕ) × (d (source_router ends) ≡ Some n)) →
    (arcs : List Arc) → IsStuck net ends failed d p arcs → ⊥
not_stuck net valid ends whole clear failed d stable p of leaves source arcs stuck =
    elim stuck.stuck [
      | inl there ↦ there.1 leaves
      | inr other ↦ elim other [
        | inl none ↦
            let here : (n : ℕ) × (d stuck.router ≡ Some n) =
            known_along net valid ends.to (target_router ends) failed d stable p arcs (source_router ends) stuck.router stuck.walk source in
            false≢true (sym none ∙ ap is_some here.1)
        | inr denied ↦ elim clear [
          | inl together ↦
              let rests : target_router ends ≡ stuck.router =
              stays_at_owner net valid ends.to (target_router ends) failed d stable p arcs stuck.router
              (subst (λ (u : ℕ). Walk net ends.to failed d p u arcs stuck.router) together stuck.walk) in
              owner_rests net valid ends.to (target_router ends) failed d stable denied.arc denied.attains (denied.tail ∙ sym rests)
          | inr permit ↦ denied.denied (permit denied.arc denied.attains.usable.is_arc denied.attains.usable.routed p of)
        ]
      ]
    ]

pub right_paths_reach : RightPathsReach
right_paths_reach net valid ends k whole paths right failed d few stable p of = (
  right.enters p of,
  not_stuck net valid ends whole right.clear failed d stable p of (right.leaves p of) (source_known net valid ends k whole paths right failed d few stable),
)

pub refusals_are_right : RefusalsAreRight
refusals_are_right net ends whole p link right clear =
    elim clear [
      | inl together ↦ right.apart together
      | inr permit ↦ right.denied (permit right.arc right.is_arc right.routed p right.packet)
    ]

-- Cuts of routers, as their check tests them.
use Rattle.std.proofs.Common.{◌≡◌, ◌≢◌, ℕ, ◌≤◌, ◌↔◌, Bool, IsTrue, List, length, map, All, sym, subst}
use Rattle.std.specs.List.Sorted.{IsStrictlyIncreasing}
use Rattle.std.proofs.lemmas.List.Elements.{All-contains}
use Rattle.arc_base.specs.declared.place.Router.{Router}
use Rattle.net_model.specs.declared.rows.Network.{Network}
use Rattle.net_model.specs.declared.policies.Class.{Class}
use Rattle.net_model.specs.Forwarding.{Ends, source_router, target_router}
use Rattle.net_model.specs.Policies.{IsClear}
use Rattle.net_model.specs.Witnesses.{IsOn}
use Rattle.witness_check.specs.Cases.{EachRouted}
use Rattle.arc_nodecut.specs.CutParts.{StaysOn, IsInner, IsOff}
use Rattle.arc_nodecut.specs.NodeWitnesses.{JoinsEnds, PartsAt, IsRightRouterCut}

-- what the check tests makes the cut right
module _ (net : Network) (ends : Ends) (routers : List Router) (side : List Bool) where
  pub parts_if : length side ≡ length net.routers → IsOn side (source_router ends) → (¬ IsOn side (target_router ends)) → All (IsOff side) routers →
      (b : Bool) → (IsTrue b ↔ EachRouted net ends.to (StaysOn routers side)) → IsTrue b ↔ PartsAt net ends routers side
  parts_if flags source target off b tells = (
    λ t. record {
      flags = flags;
      source = source;
      target = target;
      off = λ r has. All-contains (IsOff side) routers r off has;
      closed = λ arc is_arc routed on free. tells.0 t arc (is_arc, routed) on free;
    },
    λ parts. tells.1 (λ arc routed on free. parts.closed arc routed.0 routed.1 on free),
  )

  -- no link joins the ends if the routers separate them
  unjoined : PartsAt net ends routers side → All (λ r. r.0 ≢ target_router ends) routers → (link : ℕ) → ¬ JoinsEnds net ends link
  unjoined parts apart link j =
      parts.target (subst (IsOn side) j.head (parts.closed j.arc j.is_arc j.routed (subst (IsOn side) (sym j.tail) parts.source)
      (λ has. All-contains (λ (r : Router). r.0 ≢ target_router ends) routers j.arc.head.router apart has j.head)))

  pub cut_if : (k : ℕ) (whole of_policy : Class) → whole ≡ of_policy → (source_router ends ≡ target_router ends → ⊥) →
      IsStrictlyIncreasing (map (λ (r : Router). r.0) routers) → All (IsInner net ends) routers →
      length routers ≤ k → PartsAt net ends routers side → (b : Bool) → (IsTrue b ↔ IsClear net ends of_policy) → IsTrue b ↔ IsRightRouterCut net ends k whole routers side
  cut_if k whole of_policy same apart rising inner few parts b tells =
      let not_target : All (λ (r : Router). r.0 ≢ target_router ends) routers = λ i d low. (let at : IsInner net ends _ = inner i d low in at.not_target) in (
        λ t. record {
          apart = apart;
          clear = subst (IsClear net ends) (sym same) (tells.0 t);
          no_link = unjoined parts not_target;
          rising = rising;
          within = λ i d low. (let at : IsInner net ends _ = inner i d low in at.within);
          not_source = λ i d low. (let at : IsInner net ends _ = inner i d low in at.not_source);
          not_target = not_target;
          few = few;
          parts = parts;
        },
        λ right. tells.1 (subst (IsClear net ends) same right.clear),
      )

  pub inner_of : (k : ℕ) (whole : Class) → IsRightRouterCut net ends k whole routers side → All (IsInner net ends) routers
  inner_of k whole right = λ i d low. record { within = right.within i d low; not_source = right.not_source i d low; not_target = right.not_target i d low }

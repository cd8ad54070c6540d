-- Links as they are followed from a router on, over routed arcs.
use Rattle.std.specs.Prelude.{◌≡◌, ◌≢◌, ℕ, List, AllPairs}
use Rattle.std.specs.List.{AllByRecursion}
use Rattle.arc_base.specs.declared.place.Link.{Link}
use Rattle.arc_base.specs.declared.prefix.Prefix.{Prefix}
use Rattle.net_model.specs.declared.policies.Class.{Class}
use Rattle.net_model.specs.declared.policies.PolicyKind.{PolicyKind}
use Rattle.net_model.specs.declared.rows.Network.{Network}
use Rattle.net_model.specs.Routing.{Arc, tail_router, head_router}
use Rattle.net_model.specs.Witnesses.{MayBreak, Path, links_of, routers_of}
use Rattle.net_model.specs.Forwarding.{ArcPermitsEach}
use Rattle.witness_check.specs.Cases.{IsRoutedArc}

-- the arc leads on from the router over the link
pub record IsStep (net : Network) (to : Prefix) (router link : ℕ) (arc : Arc) : Type 0 where
  pub routed : IsRoutedArc net to arc
  pub over : arc.link ≡ link
  pub tail : tail_router arc ≡ router

-- the links are those of arcs that lead from the one router to the other, and what is asked holds
-- of each arc
pub record IsTrail (net : Network) (to : Prefix) (P : Arc → Type 0) (u : ℕ) (links : List Link)
    (v : ℕ) : Type 0 where
  pub arcs : List Arc
  pub over : links_of arcs ≡ links
  pub leads : Path net to u arcs v
  pub each : AllByRecursion P arcs

-- the links are those of arcs that lead from the one router to the other, and no router occurs
-- twice on the way
pub record IsTrailOnce (net : Network) (to : Prefix) (u : ℕ) (links : List Link)
    (v : ℕ) : Type 0 where
  pub arcs : List Arc
  pub over : links_of arcs ≡ links
  pub leads : Path net to u arcs v
  pub once : AllPairs (λ a b. a ≢ b) (routers_of u arcs)

-- the arc may carry each packet of the class on a walk that breaks the policy
abbrev pub MayCarry : Network → PolicyKind → Class → Arc → Type 0
MayCarry net kind class arc = ArcPermitsEach net class arc × MayBreak kind arc

-- the arc does not lead to the router
abbrev pub Avoids : ℕ → Arc → Type 0
Avoids router arc = head_router arc ≢ router

-- any arc will do
abbrev pub AnyArc : Arc → Type 0
AnyArc arc = Unit {0}

-- the links are a walk: those of arcs that lead from the one router to the other, each of which may
-- carry the class, and no router occurs twice on the way
pub record IsWalk (net : Network) (to : Prefix) (kind : PolicyKind) (class : Class) (u : ℕ)
    (links : List Link) (v : ℕ) : Type 0 where
  pub arcs : List Arc
  pub over : links_of arcs ≡ links
  pub leads : Path net to u arcs v
  pub once : AllPairs (λ a b. a ≢ b) (routers_of u arcs)
  pub each : AllByRecursion (MayCarry net kind class) arcs

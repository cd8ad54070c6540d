-- A right walk is delivered where all links but its own have failed.
use Rattle.std.proofs.Common.{◌≡◌, ℕ, zero, suc, inl, inr, Bool, true, not, List, [], ◌∷◌, ap, refl, sym, ◌∙◌, arith}
use Rattle.std.specs.Prelude.{IsFalse, ◌==◌, ◌||◌}
use Rattle.std.specs.List.{AllByRecursion, list_any}
use Rattle.std.proofs.lemmas.Bool.{eq-eqb, false≢true, not-false}
use Rattle.std.proofs.lemmas.Bool.Decides.{eqb_tells}
use Rattle.std.proofs.Math.Bool.{or-true}
use Rattle.arc_base.specs.declared.place.Link.{Link}
use Rattle.net_model.specs.declared.lists.Packet.{Packet}
use Rattle.net_model.specs.declared.policies.Class.{Class}
use Rattle.net_model.specs.declared.policies.PolicyKind.{PolicyKind}
use Rattle.net_model.specs.declared.policies.PolicyKind.TheVariants.{Blocked, Through}
use Rattle.net_model.specs.declared.verdicts.LinkPath.{LinkPath}
use Rattle.net_model.specs.declared.rows.Network.{Network}
use Rattle.net_model.specs.Packets.{IsOfClass, LiesIn, first_packet}
use Rattle.net_model.specs.Routing.{Arc}
use Rattle.net_model.specs.Forwarding.{Ends, source_router, target_router}
use Rattle.net_model.specs.Policies.{CrossesWaypoint}
use Rattle.net_model.specs.Witnesses.{MayBreak, links_of, all_but, IsRightWalk}
use Rattle.net_model.proofs.Packets.{first_is_of}
use Rattle.net_laws.specs.Breaking.{BlockedUnder, ThroughUnder, BreaksAs}
use Rattle.net_laws.specs.Laws.{Delivers, RightWalksAreDelivered, RightWalksUnblock, RightWalksBypass}
use Rattle.net_laws.proofs.PathDistances.{OnPath, Once, Once-from, along, stable, goes_along}

tests_on_path : (arcs : List Arc) (link : ℕ) → OnPath arcs link → list_any (λ (l : Link). l.0 == link) (links_of arcs) ≡ true
tests_on_path [] link on = absurd on
tests_on_path (arc ∷ arcs) link (inl e) = ap (λ (b : Bool). b || list_any (λ (l : Link). l.0 == link) (links_of arcs)) (eq-eqb arc.link link e)
tests_on_path (arc ∷ arcs) link (inr on) =
    ap (λ (b : Bool). (arc.link == link) || b) (tests_on_path arcs link on) ∙ or-true (arc.link == link)

on_path_tests : (arcs : List Arc) (link : ℕ) → list_any (λ (l : Link). l.0 == link) (links_of arcs) ≡ true → OnPath arcs link
on_path_tests [] link e = absurd (false≢true e)
on_path_tests (arc ∷ arcs) link e =
    elim (eqb_tells arc.link link) [
      | inl at ↦ inl at.1
      | inr off ↦ inr (on_path_tests arcs link (sym (ap (λ (b : Bool). b || list_any (λ (l : Link). l.0 == link) (links_of arcs)) off.0) ∙ e))
    ]

module _ (net : Network) (ends : Ends) (kind : PolicyKind) (whole class : Class) (shown : LinkPath) (right : IsRightWalk net ends kind whole class shown) where
  of_links : (link : ℕ) → list_any (λ (l : Link). l.0 == link) (links_of right.path.arcs) ≡ list_any (λ (l : Link). l.0 == link) shown.links
  of_links link = ap (λ (ls : List Link). list_any (λ (l : Link). l.0 == link) ls) right.path.links

  left : (link : ℕ) → IsFalse (all_but shown link) → OnPath right.path.arcs link
  left link e = on_path_tests right.path.arcs link (of_links link ∙ not-false _ e)

  kept : (link : ℕ) → OnPath right.path.arcs link → IsFalse (all_but shown link)
  kept link on = ap not (sym (of_links link) ∙ tests_on_path right.path.arcs link on)

  once : Once (source_router ends) right.path.arcs
  once = Once-from (source_router ends) right.path.arcs right.once

  pub delivers : Delivers net ends class shown right.path.arcs
  delivers = record {
    distances = along net ends.to (target_router ends) right.path.arcs;
    stable = stable net ends.to (target_router ends) (all_but shown) right.path.arcs (source_router ends) right.path.leads once left kept;
    delivered = λ p of. record {
      enters = right.enters p of;
      walk = goes_along net ends.to (target_router ends) (all_but shown) (along net ends.to (target_router ends) right.path.arcs) p
          right.path.arcs (source_router ends) right.path.leads once kept (λ w on. refl) (right.permitted p of);
      leaves = right.leaves p of;
    };
  }

pub right_walks_are_delivered : RightWalksAreDelivered
right_walks_are_delivered net ends kind whole class shown right = delivers net ends kind whole class shown right

pub part_of : (class whole : Class) (p : Packet) → LiesIn class whole → IsOfClass class p → IsOfClass whole p
part_of class whole p lies of = (lies.0 p.from of.0, lies.1 p.to of.1, lies.2 p.service of.2)

-- with every link failed but those of a right walk the class is not blocked
pub walk_breaks_blocked : (net : Network) (ends : Ends) (whole class : Class) (shown : LinkPath) → IsRightWalk net ends Blocked whole class shown →
    BreaksAs net ends whole Blocked (all_but shown)
walk_breaks_blocked net ends whole class shown right =
    let d : Delivers net ends class shown right.path.arcs = delivers net ends Blocked whole class shown right in
    let p : (p : Packet) × IsOfClass class p = (first_packet class, first_is_of class) in
    record {
      spoken = tt;
      broken = λ (blocked : BlockedUnder net ends whole (all_but shown)).
          blocked d.distances d.stable p.0 (part_of class whole p.0 right.part p.1) right.path.arcs (d.delivered p.0 p.1);
    }

pub right_walks_unblock : RightWalksUnblock
right_walks_unblock net ends whole class shown right blocked =
    let breaks : BreaksAs net ends whole Blocked (all_but shown) = walk_breaks_blocked net ends whole class shown right in
    breaks.broken (blocked (all_but shown))

-- arcs over no waypoint link cross none
pub plain : (arcs : List Arc) → AllByRecursion (MayBreak Through) arcs → CrossesWaypoint arcs → ⊥
plain [] breaks crosses = absurd (omega (arith, crosses.2))
plain (arc ∷ arcs) breaks (zero, x, within, e, crosses) = false≢true (sym breaks.0 ∙ ap (λ (a : Arc). a.row.waypoint) e ∙ crosses)
plain (arc ∷ arcs) breaks (suc k, x, within, e, crosses) = plain arcs breaks.1 (k, x, omega arith, e, crosses)

-- and a walk over no waypoint link does not go through a waypoint
pub walk_breaks_through : (net : Network) (ends : Ends) (whole class : Class) (shown : LinkPath) → IsRightWalk net ends Through whole class shown →
    BreaksAs net ends whole Through (all_but shown)
walk_breaks_through net ends whole class shown right =
    let d : Delivers net ends class shown right.path.arcs = delivers net ends Through whole class shown right in
    let p : (p : Packet) × IsOfClass class p = (first_packet class, first_is_of class) in
    record {
      spoken = tt;
      broken = λ (through : ThroughUnder net ends whole (all_but shown)).
          plain right.path.arcs right.breaks
          (through d.distances d.stable p.0 (part_of class whole p.0 right.part p.1) right.path.arcs (d.delivered p.0 p.1));
    }

pub right_walks_bypass : RightWalksBypass
right_walks_bypass net ends whole class shown right through =
    let breaks : BreaksAs net ends whole Through (all_but shown) = walk_breaks_through net ends whole class shown right in
    breaks.broken (through (all_but shown))

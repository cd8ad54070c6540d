-- Of a clear class that reaches its target with all links up each packet enters and leaves.
use Rattle.std.proofs.Common.{◌≡◌, ◌↔◌, ℕ, ◌+◌, inl, inr, Bool, Option, List, [], IsTrue, refl, subst, arith}
use Rattle.net_model.specs.declared.policies.Class.{Class}
use Rattle.net_model.specs.declared.rows.Network.{Network}
use Rattle.net_model.specs.Routing.{Arc, IsStable}
use Rattle.net_model.specs.Forwarding.{Ends, AreEnds, Enters, Walk, IsStuck, source_router, target_router}
use Rattle.net_model.specs.Policies.{IsClear, Reaches}
use Rattle.net_model.specs.Validity.{IsValid}
use Rattle.net_laws.specs.Breaking.{no_link}
use Rattle.net_laws.proofs.Decisions.{leaves_surely}
use Rattle.net_laws.proofs.Existence.{some_stable_map}
use Rattle.net_laws.proofs.RightCuts.{none_failed, source_in, stuck_at_source, walk_to}
use Rattle.net_laws.proofs.StableMaps.{value_of}
use Rattle.class_graph.specs.Passing.{EachPasses}
use Rattle.witness_check.specs.Cases as cases

-- what a case tells of its packets
pub passes_told : (case_net net : Network) (ends : Ends) (class whole : Class) → case_net ≡ net → class ≡ whole → (b : Bool) → (IsTrue b ↔ cases.EachEntersAndLeaves case_net ends class) →
    IsTrue b ↔ EachPasses net ends whole
passes_told case_net net ends class whole net_is whole_is b tells =
    let here : IsTrue b ↔ cases.EachEntersAndLeaves net ends whole =
    subst (λ (w : Class). IsTrue b ↔ cases.EachEntersAndLeaves net ends w) whole_is (subst (λ (n : Network). IsTrue b ↔ cases.EachEntersAndLeaves n ends class) net_is tells) in (
      λ t. λ p of. ((here.0 t).0 p of, (here.0 t).1 p of),
      λ all. here.1 (λ p of. (all p of).0, λ p of. (all p of).1),
    )

pub passes_when_reached : (net : Network) → IsValid net → (ends : Ends) (whole : Class) → AreEnds net whole ends → IsClear net ends whole → Reaches net ends whole 0 → EachPasses net ends whole
passes_when_reached net valid ends whole are clear reaches p of =
    let d : (d : ℕ → Option ℕ) × IsStable net ends.to (target_router ends) no_link d = some_stable_map net valid ends.to (target_router ends) no_link in
    let reach : Enters net ends p × ((arcs : List Arc) → ¬ IsStuck net ends no_link d.0 p arcs) = reaches no_link d.0 (omega (arith, none_failed net)) d.1 p of in (
      reach.0,
      leaves_surely net ends p (λ stays. elim (value_of (d.0 (source_router ends))) [
        | inl none ↦ reach.1 [] (stuck_at_source net ends no_link d.0 p reach.0 none)
        | inr n ↦ elim clear [
          | inl together ↦ reach.1 [] (record { router = source_router ends; enters = reach.0; walk = refl; stuck = inl (together, stays) })
          | inr permit ↦
              let way : (arcs : List Arc) × Walk net ends.to no_link d.0 p (source_router ends) arcs (target_router ends) =
              walk_to net valid ends.to (target_router ends) no_link d.0 d.1 p (λ arc is_arc routed. permit arc is_arc routed p of)
              (n.0 + 1) (source_router ends) n.0 (omega arith) (source_in net valid whole ends are) n.1 in
              reach.1 way.0 (record { router = target_router ends; enters = reach.0; walk = way.1; stuck = inl (refl, stays) })
        ]
      ]),
    )

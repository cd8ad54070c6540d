-- The first denial between the ends of a host pair, by that of its routers.
use Rattle.std.proofs.Common.{◌≡◌, ◌≢◌, Option, Some, None, List, length, sym, ap, ◌∙◌, subst, inr}
use Rattle.arc_base.specs.declared.prefix.Prefix.{Prefix}
use Rattle.net_model.specs.declared.policies.Class.{Class}
use Rattle.net_model.specs.declared.rows.Network.{Network}
use Rattle.net_model.specs.Forwarding.{Ends, source_router, target_router}
use Rattle.class_graph.specs.Barriers.{IsFirstBetween}
use Rattle.class_graph.specs.declared.first_denials.Denial.{Denial}
use Rattle.class_graph.specs.declared.hosts.End.{End}
use Rattle.class_graph.specs.declared.hosts.HostPair.{HostPair}
use Rattle.class_graph.specs.Denials.{HasNoDenial}
use Rattle.class_graph.specs.FirstDenials.{IsFirstDenial, IsLowestDenial}
use Rattle.class_graph.specs.Hosts.{IsHostPair}

-- the ends are at one router where the pair's are
pub together_of : (net : Network) (ends : Ends) (pair : HostPair) → IsHostPair net ends pair → pair.source.router.0 ≡ pair.target.router.0 → source_router ends ≡ target_router ends
together_of net ends pair is same = sym (ap (λ (e : End). e.router.0) is.source) ∙ same ∙ ap (λ (e : End). e.router.0) is.target

pub apart_of : (net : Network) (ends : Ends) (pair : HostPair) → IsHostPair net ends pair → pair.source.router.0 ≢ pair.target.router.0 → source_router ends ≢ target_router ends
apart_of net ends pair is apart same = apart (ap (λ (e : End). e.router.0) is.source ∙ same ∙ sym (ap (λ (e : End). e.router.0) is.target))

pub first_between : (net : Network) (ends : Ends) (pair : HostPair) → IsHostPair net ends pair → pair.source.router.0 ≢ pair.target.router.0 → (classes : List Class) (found : Option Denial) →
    IsFirstDenial net pair.to classes (length classes) found → IsFirstBetween net ends classes found
first_between net ends pair is apart classes None none = inr (subst (λ (to : Prefix). HasNoDenial net to classes (length classes)) is.to none)
first_between net ends pair is apart classes (Some d) denial =
    (apart_of net ends pair is apart, subst (λ (to : Prefix). IsLowestDenial net to classes (length classes) d) is.to denial)

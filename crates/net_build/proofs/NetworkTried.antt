-- The network after its tries: it is valid, and each policy goes from one host network to another.
use Rattle.std.proofs.Common.{◌≡◌, ◌≢◌, ℕ, ◌<◌, ◌≤◌, ◌⊎◌, inl, inr, Option, Some, None, List, length, get_or, sym, subst, arith, Result}
use Rattle.std.specs.Prelude.{All, IfSome, IsSomeAnd, slice_get}
use Rattle.std.proofs.lemmas.Bool.{cases_lt}
use Rattle.std.proofs.lemmas.Option.{slice_get_within}
use Rattle.arc_base.specs.Addresses.{IsInside, AreDisjoint}
use Rattle.arc_base.specs.declared.prefix.Prefix.{Prefix}
use Rattle.arc_base.specs.declared.refusal.Kind.TheVariants as kinds
use Rattle.net_doc.specs.declared.fault.NetFault.{NetFault}
use Rattle.net_model.specs.declared.policies.Document.{Document}
use Rattle.net_model.specs.declared.policies.Policy.{Policy}
use Rattle.net_model.specs.declared.rows.FaceRow.{FaceRow}
use Rattle.net_model.specs.declared.rows.LinkRow.{LinkRow}
use Rattle.net_model.specs.declared.rows.Network.{Network}
use Rattle.net_model.specs.Validity.{IsValid, AreLinked, AreApart}
use Rattle.net_model.specs.Packets.{subject}
use Rattle.net_model.specs.Forwarding.{HasEnds}
use Rattle.net_model.proofs.Hosts.{some_host, one_host}
use Rattle.ios_config.specs.declared.settings.Config.{Config}
use Rattle.net_rules.specs.Forms.{IsWellFormed}
use Rattle.arc_base.specs.Lists.{AreDistinct}
use Rattle.net_rules.specs.Sites.{full_names}
use Rattle.net_rules.specs.Rows.{AreRows}
use Rattle.net_checks.specs.Claims.{ClearBelow}
use Rattle.net_rules.specs.Reasons.{NoRefusal, TriedAlone, InDocument}
use Rattle.net_rules.specs.Routers.{RefusesHostname}
use Rattle.net_rules.specs.Linking.{FitsSubnets, RefusesLinkFace, RefusesLinkSubnets}
use Rattle.net_rules.specs.Addressing.{HasEndpoints, RefusesEndpoint}
use Rattle.net_rules.specs.Limits.{RefusesInterfaces}
use Rattle.net_rules.proofs.Distinct.{Contains-at}
use Rattle.net_rules.proofs.HostNames.{all_named, hosts_differ}
use Rattle.net_rules.proofs.LinksApart.{names_distinct, few_files}
use Rattle.net_checks.proofs.Overlaps.{turn_linked}
use Rattle.net_rules.proofs.SameNetwork.{tried_same, to_link_subnets, from_link_subnets, to_endpoint, from_endpoint}
use Rattle.net_build.proofs.ValidNetwork.{valid}

pub turn_apart : (o q : Option Prefix) → IfSome o (λ p. IfSome q (AreDisjoint p)) → IfSome q (λ p. IfSome o (AreDisjoint p))
turn_apart None None h = tt
turn_apart None (Some q) h = tt
turn_apart (Some p) None h = tt
turn_apart (Some p) (Some q) h = λ address in_q in_p. h address in_p in_q

-- no two interfaces overlap, whichever comes first
apart_both : (net : Network) → ClearBelow net (length net.faces) → (i j : ℕ) (f g : FaceRow) → slice_get net.faces i ≡ Some f → slice_get net.faces j ≡ Some g →
    i ≢ j → AreLinked net i j ⊎ AreApart f g
apart_both net clear i j f g at_i at_j other = elim (cases_lt i j) [
  | inl before ↦ clear i j f g before (slice_get_within net.faces j g at_j) at_i at_j
  | inr not_before ↦
      let after : j < i = strictly i j other not_before in
      elim (clear j i g f after (slice_get_within net.faces i f at_i) at_j at_i) [
        | inl linked ↦ inl (turn_linked net j i linked)
        | inr apart ↦ inr (turn_apart g.subnet f.subnet apart)
      ]
]
  where
    strictly : (i j : ℕ) → i ≢ j → j ≤ i → j < i
    strictly i j other h = elim (cases_lt j i) [ inl less ↦ less | inr more ↦ absurd (other (omega (arith, h, more))) ]

module _ (doc : Document) (configs : List Config) (net : Network) (rows : AreRows doc configs net) where
  pub valid_network : All IsWellFormed configs → NoRefusal (RefusesHostname configs) → NoRefusal (RefusesLinkFace doc configs) → NoRefusal (RefusesInterfaces configs) →
      ClearBelow net (length net.faces) →
      length configs ≤ 256 → length doc.links ≤ 1024 → IsValid net
  valid_network forms own joined few clear few_configs few_links =
      valid doc configs net (record { well_formed = forms; few = few_files configs few; names = names_distinct configs own forms; clear = joined; rows = rows.base })
      (all_named configs own) (hosts_differ configs own) rows few_configs few_links (apart_both net clear)

  module _ (own : NoRefusal (RefusesHostname configs)) (forms : All IsWellFormed configs) where
    distinct : AreDistinct (full_names configs)
    distinct = names_distinct configs own forms

    pub subnets_tried : (result : Result (Unit {0}) NetFault) →
        TriedAlone (InDocument kinds.LinkSubnets (λ (place : ℕ) (link : LinkRow). ¬ FitsSubnets net link) net.links) result → TriedAlone (RefusesLinkSubnets doc configs) result
    subnets_tried result said =
        tried_same (InDocument kinds.LinkSubnets (λ (place : ℕ) (link : LinkRow). ¬ FitsSubnets net link) net.links) (RefusesLinkSubnets doc configs) (λ (done : Unit {0}). Unit {0}) result
        (to_link_subnets doc configs distinct net rows) (from_link_subnets doc configs distinct net rows) said

    pub endpoints_tried : (result : Result (Unit {0}) NetFault) →
        TriedAlone (InDocument kinds.Endpoint (λ (place : ℕ) (policy : Policy). ¬ HasEndpoints net policy.from policy.to) doc.policies) result → TriedAlone (RefusesEndpoint doc configs) result
    endpoints_tried result said =
        tried_same (InDocument kinds.Endpoint (λ (place : ℕ) (policy : Policy). ¬ HasEndpoints net policy.from policy.to) doc.policies) (RefusesEndpoint doc
        configs) (λ (done : Unit {0}). Unit {0}) result
        (to_endpoint doc configs distinct net rows) (from_endpoint doc configs distinct net rows) said

-- a policy between two host networks has ends in the network
pub has_ends : (net : Network) → IsValid net → (policy : Policy) → HasEndpoints net policy.from policy.to → HasEnds net (subject policy)
has_ends net is policy h =
    let to : (q : Prefix) × (h.to.face.host ≡ Some q) × IsInside policy.to q = some_host h.to.face.host policy.to h.to.lies in
    record {
      ends = record { source = h.from.face; target = h.to.face; to = to.0 };
      are_ends = record {
        source = Contains-at net.faces h.source h.from.face h.from.at_place;
        from = h.from.lies;
        target = Contains-at net.faces h.target h.to.face h.to.at_place;
        host = to.1;
        to = to.2;
      };
      apart = λ same. h.apart (one_host net is policy.to h.source h.target
          (record { face = h.from.face; at_place = h.from.at_place; lies = subst (λ (o : Option Prefix). IsSomeAnd o (IsInside policy.to)) (sym same) h.to.lies }) h.to);
    }

-- policies between two host networks have ends in the network
pub all_have_ends : (net : Network) → IsValid net → (policies : List Policy) → All (λ policy. HasEndpoints net policy.from policy.to) policies → All (λ policy. HasEnds net (subject policy)) policies
all_have_ends net is policies all i d l = has_ends net is (get_or policies i d) (all i d l)

-- A document and the settings of its files have one network at most, so that a refusal of some network of theirs is one of any.
use Rattle.std.proofs.Common.{◌≡◌, ℕ, ◌<◌, List, sym, ◌∙◌, subst, arith, Result, Ok, Err}
use Rattle.std.specs.Prelude.{map}
use Rattle.arc_base.specs.declared.refusal.Kind.TheVariants as kinds
use Rattle.net_doc.specs.declared.fault.Refusal.{Refusal}
use Rattle.net_doc.specs.declared.fault.NetFault.{NetFault}
use Rattle.net_doc.specs.declared.fault.NetFault.TheVariants.{Refused, Memory}
use Rattle.net_model.specs.declared.lists.RouteList.{RouteList}
use Rattle.net_model.specs.declared.policies.Document.{Document}
use Rattle.net_model.specs.declared.policies.Policy.{Policy}
use Rattle.net_model.specs.declared.rows.LinkRow.{LinkRow}
use Rattle.net_model.specs.declared.rows.SessionRow.{SessionRow}
use Rattle.net_model.specs.declared.rows.Network.{Network}
use Rattle.net_model.specs.declared.rows.Protocol.{Protocol}
use Rattle.net_model.specs.declared.rows.Protocol.TheVariants.{Ospf, Bgp}
use Rattle.ios_config.specs.declared.settings.Config.{Config}
use Rattle.arc_base.specs.Lists.{AreDistinct}
use Rattle.net_rules.specs.Sites.{full_names}
use Rattle.net_rules.specs.Lists.{route_list_key}
use Rattle.net_rules.specs.Rows.{IsSession, IsSessionBefore, AreSessions, AreRows}
use Rattle.net_rules.specs.Reasons.{Tried, InDocument}
use Rattle.net_rules.specs.Linking.{FitsSubnets, RefusesLinkSubnets}
use Rattle.net_rules.specs.Addressing.{HasEndpoints, RefusesEndpoint}
use Rattle.net_rules.proofs.InOrder.{ordered_once, pairs_one_way}
use Rattle.net_rules.proofs.SameRows.{AreSameRows, same_base_rows}

one_way : (x y : ℕ) → x < y → y < x → ⊥
one_way x y h g = omega (arith, h, g)

same_sessions : (protocol : Protocol) (configs : List Config) (links : List LinkRow) (keys : List (ℕ × List ℕ)) (xs ys : List SessionRow) →
    AreSessions protocol configs links keys xs → AreSessions protocol configs links keys ys → xs ≡ ys
same_sessions Ospf configs links keys xs ys h k = h ∙ sym k
same_sessions Bgp configs links keys xs ys h k =
    ordered_once (IsSessionBefore configs links keys) (IsSession configs links keys)
    (λ x y p q before after. pairs_one_way ◌<◌ one_way (p.session_of.near.router, p.link) (q.session_of.near.router, q.link)
    (before p.link q.link p.from_a q.from_a p.session_of q.session_of) (after q.link p.link q.from_a p.from_a q.session_of p.session_of))
    xs ys h k

pub same_rows : (doc : Document) (configs : List Config) → AreDistinct (full_names configs) → (n m : Network) → AreRows doc configs n → AreRows doc configs m → n ≡ m
same_rows doc configs distinct n m p q =
    let s : AreSameRows n m = same_base_rows doc configs distinct n m p.base q.base in
    let n_sessions : AreSessions m.protocol configs m.links (map route_list_key m.route_lists) n.sessions =
    subst (λ (o : Protocol). AreSessions o configs m.links (map route_list_key m.route_lists) n.sessions) s.protocol
    (subst (λ (l : List LinkRow). AreSessions n.protocol configs l (map route_list_key m.route_lists) n.sessions) s.links
    (subst (λ (l : List RouteList). AreSessions n.protocol configs n.links (map route_list_key l) n.sessions) s.route_lists p.sessions)) in
    let sessions : n.sessions ≡ m.sessions = same_sessions m.protocol configs m.links (map route_list_key m.route_lists) n.sessions m.sessions n_sessions q.sessions in
    λ i. record {
      protocol = s.protocol i;
      routers = s.routers i;
      faces = s.faces i;
      sessions = sessions i;
      links = s.links i;
      packet_lists = s.packet_lists i;
      route_lists = s.route_lists i;
    }

-- tries for reasons that make the same refusals have the same answers
pub tried_same : {X : Type 0} (A B : Refusal → Type 0) (IsRight : X → Type 0) (result : Result X NetFault) → ((r : Refusal) → A r → B r) →
    ((r : Refusal) → B r → A r) → Tried A IsRight result → Tried B IsRight result
tried_same A B IsRight (Ok x) to from said = (λ r bad. said.0 r (from r bad), said.1)
tried_same A B IsRight (Err (Refused r)) to from said = record { made = to r said.made; first = λ other bad. said.first other (from other bad) }
tried_same A B IsRight (Err Memory) to from said = tt

module _ (doc : Document) (configs : List Config) (distinct : AreDistinct (full_names configs)) (net : Network) (rows : AreRows doc configs net) where
  pub to_link_subnets : (r : Refusal) → InDocument kinds.LinkSubnets (λ (place : ℕ) (link : LinkRow). ¬ FitsSubnets net link) net.links r → RefusesLinkSubnets doc configs r
  to_link_subnets r bad = record { net = net; rows = rows; refuses = bad }

  pub from_link_subnets : (r : Refusal) → RefusesLinkSubnets doc configs r → InDocument kinds.LinkSubnets (λ (place : ℕ) (link : LinkRow). ¬ FitsSubnets net link) net.links r
  from_link_subnets r bad =
      subst (λ (n : Network). InDocument kinds.LinkSubnets (λ (place : ℕ) (link : LinkRow). ¬ FitsSubnets n link) n.links r) (same_rows doc configs distinct bad.net net bad.rows rows) bad.refuses

  pub to_endpoint : (r : Refusal) → InDocument kinds.Endpoint (λ (place : ℕ) (policy : Policy). ¬ HasEndpoints net policy.from policy.to) doc.policies r → RefusesEndpoint doc configs r
  to_endpoint r bad = record { net = net; rows = rows; refuses = bad }

  pub from_endpoint : (r : Refusal) → RefusesEndpoint doc configs r → InDocument kinds.Endpoint (λ (place : ℕ) (policy : Policy). ¬ HasEndpoints net policy.from policy.to) doc.policies r
  from_endpoint r bad =
      subst (λ (n : Network). InDocument kinds.Endpoint (λ (place : ℕ) (policy : Policy). ¬ HasEndpoints n policy.from policy.to) doc.policies r) (same_rows doc
      configs distinct bad.net net bad.rows rows) bad.refuses

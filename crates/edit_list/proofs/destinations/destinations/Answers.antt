use Rattle.std.proofs.lemmas.List.Elements.{All-get_or}
use Rattle.std.proofs.Common.{subst, sym, List, All}
use Rattle.net_model.specs.declared.policies.Policy.{Policy}
use Rattle.net_model.specs.Forwarding.{HasHost}
use Rattle.edit_list.proofs.HostNetworks.{destinations_more, few_more}
use Rattle.edit_list.proofs.destinations.destinations.Goals as goal

pub host_network-requires : goal.host_network-requires
host_network-requires c =
    let P : Policy → Type 0 = λ p. HasHost c.args.net.now p.to in
    subst P (sym c.policy-item.is)
    (All-get_or P c.slice-policy-items.result.now c.loop-policy.policy-index c.policy-item.result c.loop-policy-test.true
    (subst (λ (l : List Policy). All P l) (sym c.slice-policy-items.ensures.items) c.requires.hosts))

pub loop-policy-preserved : goal.loop-policy-preserved
loop-policy-preserved c = record {
  are =
      destinations_more c.args.net.now c.slice-policy-items.result.now c.loop-policy.policy-index c.policy-item.result c.host_network.result c.loop-policy.list.items c.add_prefix.new.prefixes.items
      c.loop-policy-test.true c.policy-item.is c.host_network.ensures c.in_ok-add_prefix.ensures c.loop-policy.invariant.are;
  few = few_more c.loop-policy.list.items c.add_prefix.new.prefixes.items c.host_network.result c.loop-policy.policy-index c.in_ok-add_prefix.ensures c.loop-policy.invariant.few;
}

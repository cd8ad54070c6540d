use Rattle.std.proofs.Common.{◌≡◌, subst}
use Rattle.std.specs.Prelude.{IsTrue, ◌↔◌}
use Rattle.net_model.specs.Packets.{subject}
use Rattle.net_model.specs.Forwarding.{Ends}
use Rattle.net_model.specs.Witnesses.{IsRightFor}
use Rattle.net_model.specs.declared.policies.Class.{Class}
use Rattle.net_model.specs.declared.rows.Network.{Network}
use Rattle.witness_check.specs.Cases.{ends_in}
use Rattle.net_model.proofs.Hosts.{one_pair_of_ends}
use Rattle.witness_check.proofs.acceptance.accepts.Goals as goal

pub returns : goal.returns
returns c =
    let there : IsTrue c.is_right.result ↔ IsRightFor c.of.result.net.now (ends_in c.of.result) c.args.policy.now.kind c.of.result.whole c.args.v.now = c.is_right.ensures in
    let at_net : IsTrue c.is_right.result ↔ IsRightFor c.args.net.now (ends_in c.of.result) c.args.policy.now.kind c.of.result.whole c.args.v.now =
    subst (λ (net : Network). IsTrue c.is_right.result ↔ IsRightFor net (ends_in c.of.result) c.args.policy.now.kind c.of.result.whole c.args.v.now) c.of.ensures.net there in
    let at_class : IsTrue c.is_right.result ↔ IsRightFor c.args.net.now (ends_in c.of.result) c.args.policy.now.kind (subject c.args.policy.now) c.args.v.now =
    subst (λ (class : Class). IsTrue c.is_right.result ↔ IsRightFor c.args.net.now (ends_in c.of.result) c.args.policy.now.kind class c.args.v.now) c.of.ensures.whole at_net in (
      λ t. record { ends = ends_in c.of.result; are_ends = c.of.ensures.ends; right = at_class.0 t },
      λ right.
          let same : right.ends ≡ ends_in c.of.result =
          one_pair_of_ends c.args.net.now c.requires.valid (subject c.args.policy.now) right.ends (ends_in c.of.result) right.are_ends c.of.ensures.ends in
          at_class.1 (subst (λ (e : Ends). IsRightFor c.args.net.now e c.args.policy.now.kind (subject c.args.policy.now) c.args.v.now) same right.right),
    )

use Rattle.std.proofs.Common.{◌≡◌, subst}
use Rattle.std.specs.Prelude.{IsTrue, ◌↔◌}
use Rattle.net_model.specs.Policies.{IsClear}
use Rattle.net_model.specs.Packets.{subject}
use Rattle.net_model.specs.Forwarding.{Ends}
use Rattle.net_model.specs.declared.policies.Class.{Class}
use Rattle.net_model.specs.declared.rows.Network.{Network}
use Rattle.witness_check.specs.Cases.{ends_in}
use Rattle.net_model.proofs.Hosts.{one_pair_of_ends}
use Rattle.witness_check.proofs.clearness.clear.Goals as goal

pub returns : goal.returns
returns c ends are =
    let same : ends_in c.of.result ≡ ends = one_pair_of_ends c.args.net.now c.requires.valid (subject c.args.policy.now) (ends_in c.of.result) ends c.of.ensures.ends are in
    let there : IsTrue c.is_clear.result ↔ IsClear c.of.result.net.now (ends_in c.of.result) c.of.result.whole = c.is_clear.ensures in
    let at_net : IsTrue c.is_clear.result ↔ IsClear c.args.net.now (ends_in c.of.result) c.of.result.whole =
    subst (λ (net : Network). IsTrue c.is_clear.result ↔ IsClear net (ends_in c.of.result) c.of.result.whole) c.of.ensures.net there in
    let at_class : IsTrue c.is_clear.result ↔ IsClear c.args.net.now (ends_in c.of.result) (subject c.args.policy.now) =
    subst (λ (class : Class). IsTrue c.is_clear.result ↔ IsClear c.args.net.now (ends_in c.of.result) class) c.of.ensures.whole at_net in
    subst (λ (e : Ends). IsTrue c.is_clear.result ↔ IsClear c.args.net.now e (subject c.args.policy.now)) same at_class

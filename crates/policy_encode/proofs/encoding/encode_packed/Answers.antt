use Rattle.policy_encode.proofs.Making.{small_net}
use Rattle.policy_encode.proofs.encoding.encode_packed.Goals as goal

pub encode-requires-clause-net : goal.encode-requires-clause-net
encode-requires-clause-net c =
    small_net c.args.net.now c.args.doc.now c.args.edits.now c.in_ok-conditions.conditions c.requires.valid c.requires.few c.in_ok-conditions.ensures

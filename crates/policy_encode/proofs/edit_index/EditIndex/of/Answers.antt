use Rattle.policy_encode.proofs.Finding.{index_more}
use Rattle.policy_encode.proofs.edit_index.EditIndex.of.Goals as goal

pub loop-edit-preserved : goal.loop-edit-preserved
loop-edit-preserved c =
    index_more c.args.edits.now c.requires c.loop-edit.edit-index c.edit-item.result c.loop-edit-test.true c.edit-item.is c.loop-edit.keys.keys
    c.insert_full.new.self.keys c.key_of.result c.key_of.ensures
    c.loop-edit.invariant c.in_ok-insert_full.ensures.keys

use Rattle.edit_space.proofs.NameSets.{first_names_more}
use Rattle.edit_space.proofs.names.first_names.Goals as goal

pub loop-n-preserved : goal.loop-n-preserved
loop-n-preserved c = first_names_more c.loop-n.n c.loop-n.names.items c.push.new.self.items c.in_ok-new_name.field-0 c.loop-n.auto.n c.in_ok-new_name.ensures c.loop-n.invariant
    c.in_ok-push.ensures.items

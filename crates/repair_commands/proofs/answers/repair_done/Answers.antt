use Rattle.repair_commands.proofs.FewCopies.{few_changes}
use Rattle.repair_commands.proofs.answers.repair_done.Goals as goal

pub done_with-requires : goal.done_with-requires
done_with-requires c = few_changes _ _ _ _ _ _ c.in_ok-changed.ensures c.requires.routers

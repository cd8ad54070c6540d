use Rattle.line_edit_laws.proofs.Grown.{has-grown}
use Rattle.line_edit_laws.proofs.laws.commands_grow.Goals as goal

pub returns : goal.returns
returns c = has-grown

use Rattle.std.proofs.Common.{sym, ◌∙◌}
use Rattle.sat_search.proofs.Ranges.{value_true}
use Rattle.sat_search.proofs.values.is_true.Goals as goal

pub returns : goal.returns
returns c = c.unwrap_or.ensures ∙ sym (value_true c.args.core.now c.args.lit c.value.result c.requires.sound c.value.ensures)

use Rattle.std.proofs.Common.{◌∙◌, ap}
use Rattle.edit_list.specs.Prices.{none_of}
use Rattle.arc_repair.proofs.repairing.no_flags.Goals as goal

pub returns : goal.returns
returns c = c.in_ok-none.ensures.ok ∙ c.in_ok-flags.ensures ∙ ap none_of c.slice.ensures.items

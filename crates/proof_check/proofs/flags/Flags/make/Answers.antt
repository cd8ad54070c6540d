use Rattle.std.proofs.Common.{ap, ◌∙◌}
use Rattle.proof_check.proofs.Stamps.{flags, none_set}
use Rattle.proof_check.proofs.flags.Flags.make.Goals as goal

pub returns : goal.returns
returns c = ap (flags 1) (c.in_ok-from_elem.ensures.items_if_clones_equal (λ y e. e)) ∙ none_set c.args.count 0

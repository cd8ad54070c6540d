use Rattle.std.proofs.Common.{List, Bool, true, ap, ◌∙◌}
use Rattle.std.specs.Prelude.{slice_set}
use Rattle.proof_check.proofs.Stamps.{one_set}
use Rattle.proof_check.proofs.flags.Flags.set.Goals as goal

pub returns : goal.returns
returns c = one_set c.self.inside.current c.self.inside.stamps.items c.args.place ∙ ap (λ (flags : List Bool). slice_set flags c.args.place true) c.self.view_is

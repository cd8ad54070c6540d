use Rattle.std.proofs.Common.{◌∙◌}
use Rattle.condition_formula.specs.Writing.{used_by}
use Rattle.condition_formula.specs.Reaching.{out_of}
use Rattle.condition_formula.proofs.Adding.{Adds-same, none-map}
use Rattle.condition_formula.proofs.family.Family.none_out_of_target.Goals as goal

pub returns : goal.returns
returns c =
    let used = used_by c.args.self.now in
    let q = c.args.self.now.q.now in
    Adds-same _ _ _ _ (none-map used (out_of q q.target) c.slice.result.now (c.slice.ensures.items ∙ c.in_ok-outs.ensures.variables)) c.in_ok-none_of.ensures

use Rattle.std.proofs.Common.{[], ◌∷◌, List, ap, ◌∙◌}
use Rattle.condition_formula.specs.declared.part.Part.{Part}
use Rattle.condition_formula.specs.Writing.{used_by}
use Rattle.condition_formula.specs.Reaching.{out_of, into}
use Rattle.condition_formula.proofs.Adding.{Adds-same, Adds-then, some-map}
use Rattle.condition_formula.proofs.family.Family.ends.Goals as goal

pub returns : goal.returns
returns c =
    let used = used_by c.args.self.now in
    let q = c.args.self.now.q.now in
    let one = λ (ps : List Part). let cs : List (List Part) = ps ∷ [] in cs in
    Adds-then _ _ _ _ _
    (Adds-same _ _ _ _ (ap one (some-map used (out_of q q.source) c.slice.result.now (c.slice.ensures.items ∙ c.in_ok-outs.ensures.variables))) c.in_ok-some_of.ensures)
    (Adds-same _ _ _ _ (ap one (some-map used (into q q.target) c.slice-2.result.now (c.slice-2.ensures.items ∙ c.in_ok-ins.ensures.variables))) c.in_ok-some_of-2.ensures)

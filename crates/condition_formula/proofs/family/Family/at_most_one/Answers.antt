use Rattle.std.proofs.Common.{ℕ, map, List, ap, ◌∙◌}
use Rattle.condition_formula.specs.Writing.{used_by}
use Rattle.condition_formula.specs.Reaching.{out_of, into}
use Rattle.condition_formula.proofs.Adding.{Adds-same, Adds-then, exclusions-same}
use Rattle.condition_formula.proofs.family.Family.at_most_one.Goals as goal

pub returns : goal.returns
returns c =
    let used = used_by c.args.self.now in
    let q = c.args.self.now.q.now in
    let n = c.args.node in
    Adds-then _ _ _ _ _
    (Adds-same _ _ _ _ (exclusions-same used (out_of q n) c.slice.result.now
    (c.slice.ensures.items ∙ c.in_ok-outs.ensures.variables ∙ ap (λ (ps : List ℕ). map used ps) c.requires.out_of)) c.in_ok-exclusions.ensures)
    (Adds-same _ _ _ _ (exclusions-same used (into q n) c.slice-2.result.now
    (c.slice-2.ensures.items ∙ c.in_ok-ins.ensures.variables ∙ ap (λ (ps : List ℕ). map used ps) c.requires.into)) c.in_ok-exclusions-2.ensures)

use Rattle.std.proofs.Common.{ℕ, map, List, ap, ◌∙◌}
use Rattle.condition_formula.specs.Writing.{used_by}
use Rattle.condition_formula.specs.Reaching.{out_of, into}
use Rattle.condition_formula.proofs.Adding.{Adds-same, Adds-then, implies-map}
use Rattle.condition_formula.proofs.family.Family.conserves.Goals as goal

pub returns : goal.returns
returns c =
    let used = used_by c.args.self.now in
    let q = c.args.self.now.q.now in
    let n = c.args.node in
    let outs = c.in_ok-outs.ensures.variables ∙ ap (λ (ps : List ℕ). map used ps) c.requires.out_of in
    let ins = c.in_ok-ins.ensures.variables ∙ ap (λ (ps : List ℕ). map used ps) c.requires.into in
    Adds-then _ _ _ _ _
    (Adds-same _ _ _ _ (implies-map used (into q n) (out_of q n) c.slice.result.now c.slice-2.result.now (c.slice.ensures.items ∙ ins) (c.slice-2.ensures.items ∙ outs)) c.in_ok-each_implies.ensures)
    (Adds-same _ _ _ _ (implies-map used (out_of q n) (into q n) c.slice-3.result.now c.slice-4.result.now (c.slice-3.ensures.items ∙ outs) (c.slice-4.ensures.items ∙ ins))
    c.in_ok-each_implies-2.ensures)

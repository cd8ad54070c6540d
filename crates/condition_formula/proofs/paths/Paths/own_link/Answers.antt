use Rattle.std.proofs.Common.{ℕ, ◌∙◌}
use Rattle.condition_formula.specs.Formulas.{cell}
use Rattle.condition_formula.specs.Reaching.{over_link}
use Rattle.condition_formula.proofs.Adding.{Adds-same, exclusions-same}
use Rattle.condition_formula.proofs.paths.Paths.own_link.Goals as goal

pub returns : goal.returns
returns c =
    let used = cell c.args.self.now.used.first c.args.self.now.used.columns in
    let q = c.args.self.now.q.now in
    Adds-same _ _ _ _ (exclusions-same {X = ℕ × ℕ} (λ (item : ℕ × ℕ). used item.0 item.1) (over_link q c.args.self.now.many c.args.link) c.deref.result.now
    (c.deref.ensures.value ∙ c.in_ok-variables.ensures.variables)) c.in_ok-exclusions.ensures

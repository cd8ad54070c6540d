use Rattle.std.proofs.Common.{ℕ}
use Rattle.std.specs.List.{flat_map}
use Rattle.condition_formula.specs.Lists.{upto}
use Rattle.condition_formula.specs.Formulas.{cell}
use Rattle.condition_formula.specs.Reaching.{exclusions}
use Rattle.condition_formula.specs.Writing.{Adds}
use Rattle.condition_formula.specs.Reaching.{over_link}
use Rattle.condition_formula.proofs.paths.Paths.own_links.Given as goal

abbrev pub invariant-loop-link : goal.invariant-loop-link
invariant-loop-link l =
    Adds l.fn.out l.out (flat_map (λ (k : ℕ). exclusions {X = ℕ × ℕ} (λ (item : ℕ × ℕ). cell l.self.used.first l.self.used.columns item.0 item.1) (over_link l.self.q.now l.self.many k)) (upto l.link))

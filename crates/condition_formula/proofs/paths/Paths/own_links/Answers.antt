use Rattle.std.proofs.Common.{ℕ}
use Rattle.condition_formula.specs.Formulas.{cell}
use Rattle.condition_formula.specs.Reaching.{exclusions}
use Rattle.condition_formula.specs.declared.pick.Pick.TheVariants.{Over}
use Rattle.condition_formula.specs.Reaching.{over_link}
use Rattle.condition_formula.proofs.Adding.{Adds-more, row-is}
use Rattle.condition_formula.proofs.paths.Paths.own_links.Goals as goal

pub own_link-requires : goal.own_link-requires
own_link-requires c =
    row-is c.args.self.now.q.now Over c.args.self.now.links c.loop-link.link c.args.index.now.over c.requires.over c.loop-link-test.true

pub loop-link-preserved : goal.loop-link-preserved
loop-link-preserved c =
    Adds-more (λ (k : ℕ). exclusions {X = ℕ × ℕ} (λ (item : ℕ × ℕ). cell c.args.self.now.used.first c.args.self.now.used.columns item.0 item.1)
    (over_link c.args.self.now.q.now c.args.self.now.many k)) c.args.out.now c.loop-link.out c.own_link.new.out c.loop-link.link c.loop-link.invariant c.in_ok-own_link.ensures

use Rattle.std.proofs.Common.{ℕ, ◌+◌, Option, sym, subst}
use Rattle.ios_config.specs.declared.settings.Given.{Given}
use Rattle.ios_config.specs.Least.{FindsLeast}
use Rattle.net_rules.specs.Routers.{IsOther}
use Rattle.net_rules.proofs.Leasts.{LinesTo, least_all}
use Rattle.net_checks.proofs.AreaLines.{other_more}
use Rattle.net_checks.proofs.areas.first_other.Goals as goal

pub loop-given-preserved : goal.loop-given-preserved
loop-given-preserved c =
    let d : Given ℕ = record { value = 0; line = 0 } in
    subst (λ (found : Option ℕ). FindsLeast (LinesTo (IsOther c.args.area) c.args.areas.now (c.loop-given.given-index + 1)) found) (sym c.lesser-least.ensures)
    (other_more c.args.area c.args.areas.now c.loop-given.given-index d c.loop-given.least c.line_of_other.result c.loop-given-test.true c.loop-given.invariant c.line_of_other.ensures)

pub returns : goal.returns
returns c = least_all (IsOther c.args.area) c.args.areas.now c.loop-given.given-index c.loop-given.least c.loop-given-test.false c.loop-given.invariant

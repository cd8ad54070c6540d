use Rattle.std.proofs.Common.{ℕ}
use Rattle.ios_config.specs.declared.settings.Given.{Given}
use Rattle.net_checks.proofs.AreaLines.{soonest_more}
use Rattle.net_checks.proofs.areas.soonest.Goals as goal

pub loop-area-preserved : goal.loop-area-preserved
loop-area-preserved c =
    let d : Given ℕ = record { value = 0; line = 0 } in
    soonest_more c.args.areas.now c.loop-area.area-index d c.loop-area.first c.sooner.result c.loop-area-test.true c.loop-area.invariant c.sooner.ensures

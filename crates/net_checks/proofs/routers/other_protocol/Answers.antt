use Rattle.std.proofs.Common.{ℕ, ◌+◌, List, Option, sym, subst}
use Rattle.std.specs.Prelude.{Any}
use Rattle.ios_config.specs.declared.settings.ProcessText.{ProcessText}
use Rattle.ios_config.specs.Least.{FindsLeast}
use Rattle.net_rules.specs.Routers.{RunsOther}
use Rattle.net_rules.proofs.Leasts.{LinesTo, least_more, least_all}
use Rattle.net_checks.proofs.routers.other_protocol.Goals as goal

pub loop-process-preserved : goal.loop-process-preserved
loop-process-preserved c =
    let items : List ProcessText = c.slice-process-items.result.now in
    subst (λ (found : Option ℕ). FindsLeast (LinesTo (RunsOther c.args.protocol) items (c.loop-process.process-index + 1)) found) (sym c.lesser-line.ensures)
    (least_more (RunsOther c.args.protocol) items c.loop-process.process-index c.process-item.result c.loop-process.line c.runs_other.result c.loop-process-test.true c.process-item.is
    c.loop-process.invariant c.runs_other.ensures)

pub returns : goal.returns
returns c =
    subst (λ (processes : List ProcessText). FindsLeast (λ line. Any (RunsOther c.args.protocol line) processes) c.loop-process.line) c.slice-process-items.ensures.items
    (least_all (RunsOther c.args.protocol) c.slice-process-items.result.now c.loop-process.process-index c.loop-process.line c.loop-process-test.false c.loop-process.invariant)

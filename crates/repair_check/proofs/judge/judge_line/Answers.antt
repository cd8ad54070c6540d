use Rattle.repair_check.specs.declared.phases.Phase.TheVariants as phases
use Rattle.repair_check.proofs.Leading.{phase_so}
use Rattle.repair_check.proofs.judge.judge_line.Goals as goal

pub returns-in-Head-clause-leads : goal.returns-in-Head-clause-leads
returns-in-Head-clause-leads c =
    phase_so c.args.net.now c.args.doc.now c.args.list.now c.args.phase phases.Head c.args.number c.args.told _ c.in-Head.is (c.judge_head.ensures c.args.net.now c.args.doc.now c.args.list.now)

pub returns-in-Blocks-clause-leads : goal.returns-in-Blocks-clause-leads
returns-in-Blocks-clause-leads c =
    phase_so c.args.net.now c.args.doc.now c.args.list.now c.args.phase (phases.Blocks c.in-Blocks.blocks) c.args.number c.args.told _ c.in-Blocks.is
    (c.judge_block.ensures c.args.net.now c.args.list.now)

pub returns-in-Ready-clause-leads : goal.returns-in-Ready-clause-leads
returns-in-Ready-clause-leads c =
    phase_so c.args.net.now c.args.doc.now c.args.list.now c.args.phase (phases.Ready c.in-Ready.checker) c.args.number c.args.told _ c.in-Ready.is
    (c.judge_ready.ensures c.args.net.now c.args.doc.now c.args.list.now)

pub returns-in_ok-judge_log-in-Log-clause-leads : goal.returns-in_ok-judge_log-in-Log-clause-leads
returns-in_ok-judge_log-in-Log-clause-leads c =
    phase_so c.args.net.now c.args.doc.now c.args.list.now c.args.phase (phases.Log c.in-Log.needs c.in-Log.checker) c.args.number c.args.told _ c.in-Log.is
    (c.in_ok-judge_log-in-Log.ensures c.args.net.now c.args.doc.now c.args.list.now)

use Rattle.std.proofs.Common.{◌∙◌, ap}
use Rattle.std.specs.Prelude.{Ok}
use Rattle.policy_report.specs.declared.got.Got.TheVariants.{More, Verdict}
use Rattle.repair_check.specs.declared.phases.Phase.TheVariants as phases
use Rattle.repair_check.proofs.Leading.{told_so}
use Rattle.repair_check.proofs.judging.judge_block.Goals as goal

pub returns-in-Ok-More : goal.returns-in-Ok-More
returns-in-Ok-More c net list =
    told_so net c.args.doc.now list (phases.Blocks c.args.blocks) c.args.number c.args.told (Ok More) _ (c.in-Ok-More.is ∙ ap Ok c.in-Ok-More.field-0-is) (c.go_on.ensures net list)

pub returns-in-Ok-Verdict : goal.returns-in-Ok-Verdict
returns-in-Ok-Verdict c net list =
    told_so net c.args.doc.now list (phases.Blocks c.args.blocks) c.args.number c.args.told (Ok (Verdict c.in-Ok-Verdict.which c.in-Ok-Verdict.verdict)) _
    (c.in-Ok-Verdict.is ∙ ap Ok c.in-Ok-Verdict.field-0-is) (c.judge_verdict.ensures net list)

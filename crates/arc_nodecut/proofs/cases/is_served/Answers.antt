use Rattle.witness_check.specs.Cases.{ends_in}
use Rattle.arc_nodecut.proofs.Serving.{served_if, not_served}
use Rattle.arc_nodecut.proofs.cases.is_served.Goals as goal

pub returns : goal.returns
returns c =
    served_if c.args.case.now.net.now (ends_in c.args.case.now) c.args.case.now.whole (c.each_passes.ensures.0 c.if-not-each_passes.false)
    c.is_clear.result c.is_clear.ensures

pub returns-then-not-each_passes : goal.returns-then-not-each_passes
returns-then-not-each_passes c =
    not_served c.args.case.now.net.now (ends_in c.args.case.now) c.args.case.now.whole c.each_passes.result c.each_passes.ensures c.if-not-each_passes.true

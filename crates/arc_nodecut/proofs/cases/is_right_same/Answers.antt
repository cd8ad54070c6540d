use Rattle.std.proofs.lemmas.Bool.{false≢true}
use Rattle.std.proofs.Common.{sym, ◌∙◌}
use Rattle.witness_check.specs.Cases.{ends_in}
use Rattle.arc_nodecut.proofs.Serving.{same_if, not_same}
use Rattle.arc_nodecut.proofs.cases.is_right_same.Goals as goal

pub returns : goal.returns
returns c = same_if c.args.case.now.net.now (ends_in c.args.case.now) c.args.case.now.whole (c.is_local.ensures.0 c.if-not-is_local.false) c.is_served.result c.is_served.ensures

pub returns-then-not-is_local : goal.returns-then-not-is_local
returns-then-not-is_local c = not_same c.args.case.now.net.now (ends_in c.args.case.now) c.args.case.now.whole (λ e. false≢true (sym c.if-not-is_local.true ∙ c.is_local.ensures.1 e))

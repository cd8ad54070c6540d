use Rattle.policy_report.proofs.SameServices.{made_range}
use Rattle.policy_report.proofs.services.range_from.Goals as goal

pub returns : goal.returns
returns c = made_range c.args.low c.args.high c.new.result c.new.ensures.valid c.new.ensures.value

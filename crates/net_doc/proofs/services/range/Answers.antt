use Rattle.net_doc.proofs.SameService.{made_range}
use Rattle.net_doc.proofs.services.range.Goals as goal

pub returns : goal.returns
returns c = made_range c.args.low c.args.high c.new.result c.new.ensures.valid c.new.ensures.value

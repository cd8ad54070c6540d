use Rattle.std.proofs.Common.{ap}
use Rattle.net_model.specs.declared.services.Service.{Service}
use Rattle.net_model.proofs.SameService.{same_facts}
use Rattle.row_making.proofs.lists.entry_of.Goals as goal

pub returns : goal.returns
returns c =
    ap (λ (s : Service). record { permit = c.args.text.now.permit; from = c.args.text.now.from; to = c.args.text.now.to; service = s })
    (same_facts _ c.args.text.now.ordered c.args.text.now.in_range)

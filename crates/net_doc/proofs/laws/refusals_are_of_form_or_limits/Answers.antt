use Rattle.net_doc.proofs.Refused.{of_form_or_limit}
use Rattle.net_doc.proofs.laws.refusals_are_of_form_or_limits.Goals as goal

pub returns : goal.returns
returns c = of_form_or_limit

use Rattle.net_doc.proofs.OldPolicies.{old_policies}
use Rattle.net_doc.proofs.laws.old_policies_speak_of_all_services.Goals as goal

pub returns : goal.returns
returns c = old_policies

use Rattle.net_doc.proofs.OneProtocol.{one_protocol}
use Rattle.net_doc.proofs.laws.policies_speak_of_one_protocol.Goals as goal

pub returns : goal.returns
returns c = one_protocol

-- What a verdict on a policy says.
use Rattle.net_model.specs.declared.policies.Policy.{Policy}
use Rattle.net_model.specs.declared.rows.Network.{Network}
use Rattle.net_model.specs.declared.verdicts.Verdict.{Verdict}
use Rattle.net_model.specs.Forwarding.{Ends, AreEnds}
use Rattle.net_model.specs.Packets.{subject}
use Rattle.net_laws.specs.Laws.{VerdictSays}

-- what a verdict says of its policy is true: a yes that the network meets it, a no that what it
-- asks does not hold, a refusal that it is not clear
pub record IsTrueOf (net : Network) (policy : Policy) (v : Verdict) : Type 0 where
  pub ends : Ends
  pub are_ends : AreEnds net (subject policy) ends
  pub says : VerdictSays net ends (subject policy) policy.kind v

-- Which verdicts other than denials and refusals are right.
use Rattle.std.specs.Prelude.{ℕ}
use Rattle.net_model.specs.declared.policies.Class.{Class}
use Rattle.net_model.specs.declared.rows.Network.{Network}
use Rattle.net_model.specs.Forwarding.{Ends}
use Rattle.arc_nodecut.specs.declared.verdict.NodeVerdict.{NodeVerdict}
use Rattle.arc_nodecut.specs.declared.verdict.NodeVerdict.TheVariants.{Same, Direct, Apart, Denied}
use Rattle.arc_nodecut.specs.declared.verdict.NodeVerdict.TheVariants.{Cut, Refused}
use Rattle.arc_nodecut.specs.NodeWitnesses.{IsRightSame, IsRightDirect, IsRightApart}
use Rattle.arc_nodecut.specs.NodeWitnesses.{IsRightRouterCut}

-- the verdict is neither a denial nor a refusal, and is right
abbrev pub IsShown : Network → Ends → ℕ → Class → NodeVerdict → Type 0
IsShown net ends k whole Same = IsRightSame net ends whole
IsShown net ends k whole (Direct link) = IsRightDirect net ends whole link
IsShown net ends k whole (Apart paths) = IsRightApart net ends k whole paths
IsShown net ends k whole (Cut routers side) = IsRightRouterCut net ends k whole routers side
IsShown net ends k whole (Denied class) = ⊥
IsShown net ends k whole (Refused p link) = ⊥

-- Classes on which lists agree.
use Rattle.std.specs.Prelude.{List, All}
use Rattle.net_model.specs.declared.policies.Class.{Class}
use Rattle.net_model.specs.declared.rows.Network.{Network}
use Rattle.net_model.specs.Witnesses.{IsUniformFor}

-- each packet list of the network is uniform on each of the classes
abbrev pub AreAllUniform : Network → List Class → Type 0
AreAllUniform net classes = All (IsUniformFor net) classes

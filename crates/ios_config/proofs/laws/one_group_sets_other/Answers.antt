use Rattle.ios_config.proofs.BareSettings.{bare-groups-set}
use Rattle.ios_config.proofs.JoinedSettings.{one-sets-other, new-sets-own}
use Rattle.ios_config.proofs.HostnameStays.{hostname-stays}
use Rattle.ios_config.proofs.laws.one_group_sets_other.Goals as goal

pub returns-clause-bare : goal.returns-clause-bare
returns-clause-bare c = bare-groups-set

pub returns-clause-joined : goal.returns-clause-joined
returns-clause-joined c = one-sets-other

pub returns-clause-new : goal.returns-clause-new
returns-clause-new c = new-sets-own

pub returns-clause-hostname : goal.returns-clause-hostname
returns-clause-hostname c = hostname-stays

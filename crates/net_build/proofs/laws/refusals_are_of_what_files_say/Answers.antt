use Rattle.net_build.proofs.OtherKinds.{never_missing, never_too_long}
use Rattle.net_build.proofs.laws.refusals_are_of_what_files_say.Goals as goal

pub returns-clause-never_missing : goal.returns-clause-never_missing
returns-clause-never_missing c = never_missing

pub returns-clause-never_too_long : goal.returns-clause-never_too_long
returns-clause-never_too_long c = never_too_long

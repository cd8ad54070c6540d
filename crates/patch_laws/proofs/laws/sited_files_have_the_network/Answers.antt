use Rattle.patch_laws.proofs.FileJoin.{sited-files-after, files-have-network, sited-files-have}
use Rattle.patch_laws.proofs.laws.sited_files_have_the_network.Goals as goal

pub returns-clause-file : goal.returns-clause-file
returns-clause-file c = sited-files-after

pub returns-clause-files : goal.returns-clause-files
returns-clause-files c = files-have-network

pub returns-clause-network : goal.returns-clause-network
returns-clause-network c = sited-files-have

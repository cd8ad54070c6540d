use Rattle.file_copies.proofs.Patched.{patches_have_the_network}
use Rattle.file_copies.proofs.SomePatches.{patches_are_there}
use Rattle.file_copies.proofs.change_laws.patches_have_the_network.Goals as goal

pub returns-clause-there : goal.returns-clause-there
returns-clause-there c = patches_are_there

pub returns-clause-network : goal.returns-clause-network
returns-clause-network c = patches_have_the_network

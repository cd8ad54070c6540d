use Rattle.net_build.proofs.AskingMore.{changes_no_network, built_the_same}
use Rattle.net_build.proofs.laws.asking_more_changes_no_network.Goals as goal

pub returns-clause-network : goal.returns-clause-network
returns-clause-network c = changes_no_network

pub returns-clause-built : goal.returns-clause-built
returns-clause-built c = built_the_same

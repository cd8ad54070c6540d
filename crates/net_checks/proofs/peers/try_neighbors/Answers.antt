use Rattle.net_checks.proofs.PeersFiles.{tried_known}
use Rattle.net_checks.proofs.peers.try_neighbors.Goals as goal

pub returns : goal.returns
returns c = λ doc base. tried_known doc c.args.configs.now c.args.net.now base c.requires.named c.in_ok-ends.ends.keys c.in_ok-ends.ensures c.try_known.result c.try_known.ensures

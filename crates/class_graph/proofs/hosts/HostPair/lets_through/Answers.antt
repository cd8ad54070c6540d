use Rattle.class_graph.proofs.Through.{through_is}
use Rattle.class_graph.proofs.hosts.HostPair.lets_through.Goals as goal

pub returns : goal.returns
returns c = λ ends is.
    through_is c.args.net.now c.args.class c.requires c.args.self.now c.admits.result c.first_packet.result c.first_packet.ensures c.admits.ensures ends is

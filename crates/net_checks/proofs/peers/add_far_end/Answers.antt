use Rattle.net_checks.proofs.PeersEnds.{adds_none, adds_pair}
use Rattle.net_rules.proofs.PlainKeys.{keys_added, same_parts, same_parts-Decides}
use Rattle.net_checks.proofs.peers.add_far_end.Goals as goal

pub returns-in_default : goal.returns-in_default
returns-in_default c = adds_none c.args.net.now.faces c.args.near c.args.far c.args.ends.now.keys c.in_default.ensures

pub returns-in_ok-insert_full : goal.returns-in_ok-insert_full
returns-in_ok-insert_full c =
    adds_pair c.args.net.now.faces c.args.near c.args.far c.args.ends.now.keys c.insert_full.new.self.keys c.in-Some.pair c.in-Some.ensures.0 c.in-Some.ensures.1
    (λ pair. keys_added same_parts same_parts-Decides c.args.ends.now.keys c.insert_full.new.self.keys c.in-Some.pair pair c.in_ok-insert_full.ensures.keys)

use Rattle.net_rules.proofs.PrefixKeys.{prefix_added}
use Rattle.net_rules.proofs.prefixes.add_prefix.Goals as goal

pub returns : goal.returns
returns c = λ q. prefix_added c.args.prefixes.now.keys c.insert_full.new.self.keys c.args.p.now q c.in_ok-insert_full.ensures.keys

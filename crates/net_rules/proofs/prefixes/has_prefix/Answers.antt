use Rattle.net_rules.proofs.PrefixKeys.{prefix_found}
use Rattle.net_rules.proofs.prefixes.has_prefix.Goals as goal

pub returns : goal.returns
returns c = prefix_found c.args.prefixes.now.keys c.args.p.now c.contains.result c.contains.ensures

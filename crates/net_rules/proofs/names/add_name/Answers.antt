use Rattle.net_rules.proofs.Keys.{same_key, name_at, same_key-Decides, inserted}
use Rattle.net_rules.proofs.names.add_name.Goals as goal

pub returns : goal.returns
returns c =
    inserted same_key name_at same_key-Decides c.args.names.now.keys c.insert_full.new.self.keys (c.args.router, c.args.face) c.in_ok-_place.new
    c.in_ok-_place.ensures.added c.in_ok-_place.ensures.keys

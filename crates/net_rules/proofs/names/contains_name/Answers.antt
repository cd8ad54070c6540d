use Rattle.std.proofs.Common.{sym, ◌∙◌}
use Rattle.ios_config.proofs.StandLists.{any_seen}
use Rattle.net_rules.proofs.Keys.{same_key, name_at, same_key-Decides}
use Rattle.net_rules.proofs.names.contains_name.Goals as goal

pub returns : goal.returns
returns c =
    let said = any_seen same_key name_at same_key-Decides c.args.names.now.keys (c.args.router, c.args.face) in
    (λ t. said.0 (sym c.contains.ensures ∙ t), λ h. c.contains.ensures ∙ said.1 h)

use Rattle.std.proofs.Common.{sym, ◌∙◌}
use Rattle.ios_config.specs.Seen.{stand_seen}
use Rattle.ios_config.proofs.Keys.{eq_stand, eq_stand-Decides}
use Rattle.ios_config.proofs.StandLists.{any_seen}
use Rattle.ios_config.proofs.twice.stands_as.Goals as goal

pub returns : goal.returns
returns c =
    let said = any_seen eq_stand stand_seen eq_stand-Decides c.args.stands.now.keys c.args.stand in
    (λ t. said.0 (sym c.contains.ensures ∙ t), λ h. c.contains.ensures ∙ said.1 h)

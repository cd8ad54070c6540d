use Rattle.ios_config.proofs.Grouping.{gains}
use Rattle.ios_config.proofs.parts.add.Goals as goal

pub returns : goal.returns
returns c = gains c.args.groups.now.items c.args.place c.index_mut-group.result.now c.push.new.self c.args.command c.requires c.index_mut-group.ensures.value c.in_ok-push.ensures.items

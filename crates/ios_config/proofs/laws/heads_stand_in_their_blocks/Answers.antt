use Rattle.ios_config.proofs.OwnBlocks.{own-block}
use Rattle.ios_config.proofs.laws.heads_stand_in_their_blocks.Goals as goal

pub returns : goal.returns
returns c = own-block

use Rattle.ios_lines.proofs.BlockHeads.{blocks-have-heads}
use Rattle.ios_lines.proofs.laws.blocks_have_heads.Goals as goal

pub returns : goal.returns
returns c = blocks-have-heads

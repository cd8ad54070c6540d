use Rattle.patch_laws.proofs.FaceBlocks.{face-blocks}
use Rattle.patch_laws.proofs.laws.faces_have_blocks.Goals as goal

pub returns : goal.returns
returns c = face-blocks

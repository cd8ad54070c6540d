use Rattle.std.proofs.Common.{refl}
use Rattle.arc_recheck.proofs.BlocksTaken.{end_held}
use Rattle.arc_recheck.proofs.held.HeldBlocks.end.Goals as goal

pub returns : goal.returns
returns c net doc text come = end_held net doc text c.args.self come c.args.self.begun refl

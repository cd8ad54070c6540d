use Rattle.run_files.proofs.LinesHanded.{lines_are_handed_out}
use Rattle.run_files.proofs.laws.lines_are_handed_out.Goals as goal

pub returns : goal.returns
returns c = lines_are_handed_out

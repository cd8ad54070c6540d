use Rattle.ios_config.proofs.ProcessBlocks.{process-blocks}
use Rattle.ios_config.proofs.ProcessLines.{process-lines}
use Rattle.ios_config.proofs.laws.process_lines_are_appended.Goals as goal

pub returns-clause-appended : goal.returns-clause-appended
returns-clause-appended c = process-lines

pub returns-clause-blocks : goal.returns-clause-blocks
returns-clause-blocks c = process-blocks

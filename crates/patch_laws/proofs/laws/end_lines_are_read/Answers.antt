use Rattle.patch_laws.proofs.EndLines.{process-lines-read, group-lines-fit, processes-grow, faces-grow}
use Rattle.patch_laws.proofs.laws.end_lines_are_read.Goals as goal

pub returns-clause-process : goal.returns-clause-process
returns-clause-process c = process-lines-read

pub returns-clause-binding : goal.returns-clause-binding
returns-clause-binding c = group-lines-fit

pub returns-clause-processes : goal.returns-clause-processes
returns-clause-processes c = processes-grow

pub returns-clause-faces : goal.returns-clause-faces
returns-clause-faces c = faces-grow

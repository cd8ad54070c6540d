use Rattle.std.proofs.Common.{◌≡◌, ◌++◌, take}
use Rattle.file_copies.specs.Outputs.{wrote_lines}
use Rattle.file_copies.proofs.outputs.push_wrote.Given as goal

abbrev pub invariant-loop-write : goal.invariant-loop-write
invariant-loop-write l = l.text.items ≡ l.initial.text.items ++ wrote_lines (take l.write-index l.writes)

use Rattle.std.proofs.Common.{◌≡◌, take}
use Rattle.std.specs.Prelude.{map}
use Rattle.file_copies.specs.Outputs.{copy_name}
use Rattle.file_copies.proofs.outputs.copy_names.Given as goal

abbrev pub invariant-loop-name : goal.invariant-loop-name
invariant-loop-name l = l.copies.items ≡ map (copy_name l.suffix) (take l.name-index l.names)

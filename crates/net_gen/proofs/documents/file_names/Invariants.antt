use Rattle.std.proofs.Common.{◌≡◌, length}
use Rattle.std.specs.Prelude.{map}
use Rattle.net_gen.specs.Plans.{numbers}
use Rattle.net_gen.specs.RouterFiles.{file_name}
use Rattle.net_gen.proofs.documents.file_names.Given as goal

abbrev pub invariant-loop-place : goal.invariant-loop-place
invariant-loop-place l = record {
  names : l.names ≡ map file_name (numbers l.place);
  long : length l.names ≡ l.place;
}

use Rattle.std.proofs.Common.{◌≡◌, length, take}
use Rattle.std.specs.List.{AllZip}
use Rattle.ios_lines.specs.Lines.{AreLinesOf}
use Rattle.net_build.specs.Networks.{HasSettings}
use Rattle.net_build.proofs.files.read_files.Given as goal

abbrev pub invariant-loop-place : goal.invariant-loop-place
invariant-loop-place l = record {
  lines : AllZip AreLinesOf (take l.place l.text-items) l.lines;
  configs : AllZip HasSettings (take l.place l.text-items) l.configs;
  lines_long : length l.lines ≡ l.place;
  configs_long : length l.configs ≡ l.place;
}

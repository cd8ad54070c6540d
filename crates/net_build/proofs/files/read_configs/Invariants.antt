use Rattle.std.proofs.Common.{◌≡◌, length, take}
use Rattle.std.specs.List.{AllZip}
use Rattle.net_build.specs.Networks.{HasSettings}
use Rattle.net_build.proofs.files.read_configs.Given as goal

abbrev pub invariant-loop-place : goal.invariant-loop-place
invariant-loop-place l = record {
  configs : AllZip HasSettings (take l.place l.text-items) l.configs;
  configs_long : length l.configs ≡ l.place;
}

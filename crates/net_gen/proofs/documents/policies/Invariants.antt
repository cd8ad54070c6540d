use Rattle.std.proofs.Common.{◌≡◌, length}
use Rattle.std.specs.Prelude.{map}
use Rattle.std.specs.List.{AllZip}
use Rattle.net_gen.specs.Plans.{numbers}
use Rattle.net_gen.specs.Generated.{Asks, asked_around}
use Rattle.net_gen.proofs.documents.policies.Given as goal

abbrev pub invariant-loop-place : goal.invariant-loop-place
invariant-loop-place l = record {
  asked : AllZip Asks (map (asked_around l.routers) (numbers l.place)) l.policies;
  long : length l.policies ≡ l.place;
}

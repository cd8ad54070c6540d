use Rattle.std.proofs.Common.{◌≡◌, ◌≤◌, length}
use Rattle.std.specs.Prelude.{filter}
use Rattle.net_gen.specs.Plans.{numbers, has_end}
use Rattle.net_gen.proofs.plans.port.Given as goal

abbrev pub invariant-loop-place : goal.invariant-loop-place
invariant-loop-place l = record {
  counted : l.port ≡ length (filter (has_end l.routers l.router) (numbers l.place));
  few : l.port ≤ l.place;
}

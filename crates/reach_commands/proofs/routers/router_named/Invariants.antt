use Rattle.std.proofs.Common.{ℕ, ◌<◌}
use Rattle.reach_commands.specs.PreferRuns.{IsNamed}
use Rattle.reach_commands.proofs.routers.router_named.Given as goal

abbrev pub invariant-loop-place : goal.invariant-loop-place
invariant-loop-place l = (k : ℕ) → k < l.place → ¬ IsNamed l.net l.name (record { 0 = k })

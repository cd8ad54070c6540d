use Rattle.std.proofs.Common.{◌≡◌, ℕ, ◌<◌, List, length, take}
use Rattle.std.specs.Prelude.{Some, slice_get}
use Rattle.std.specs.List.{AllZip}
use Rattle.arc_base.specs.declared.place.Router.{Router}
use Rattle.reach_commands.specs.PreferRuns.{IsNamed}
use Rattle.reach_commands.proofs.routers.routers_named.Given as goal

abbrev pub invariant-loop-place : goal.invariant-loop-place
invariant-loop-place l = record {
  named : AllZip (IsNamed l.net) (take l.place l.names) l.wanted;
  known : (k : ℕ) (name : List ℕ) → k < l.place → slice_get l.names k ≡ Some name → (router : Router) × IsNamed l.net name router;
  count : length l.wanted ≡ l.place;
}

use Rattle.std.proofs.Common.{◌≡◌, ℕ, length, map, take}
use Rattle.std.specs.List.{range_with_len}
use Rattle.arc_base.specs.Numbered.{EachRow}
use Rattle.edit_space.specs.Working.{IsNamed}
use Rattle.edit_space.proofs.Naming.{counts}
use Rattle.edit_space.proofs.new_lists.named_lists.Given as goal

abbrev pub invariant-loop-router : goal.invariant-loop-router
invariant-loop-router l = record {
  used : l.used.items ≡ map (counts (take l.router-index l.lists)) (range_with_len 0 (length l.net.routers));
  named : EachRow (λ (place : ℕ). IsNamed l.lists l.names) (take l.router-index l.lists) l.named.items;
}

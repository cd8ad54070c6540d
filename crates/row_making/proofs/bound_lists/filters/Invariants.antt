use Rattle.std.proofs.Common.{◌≡◌, ℕ, List, take, nat_eq}
use Rattle.std.specs.Prelude.{option_map}
use denote.Ref.{Bor}
use Rattle.indexmap.specs.IndexMap.{get, IsUnique}
use Rattle.net_rules.specs.Settings.{last_said}
use Rattle.net_rules.specs.Neighbors.{says_filter}
use Rattle.row_making.proofs.bound_lists.filters.Given as goal

abbrev pub invariant-loop-line : goal.invariant-loop-line
invariant-loop-line l = record {
  unique : IsUnique nat_eq l.filters;
  said : (peer : ℕ) → option_map (λ (name : Bor (List ℕ)). name.now) (get nat_eq l.filters peer) ≡ last_said (says_filter peer) (take l.line-index l.lines);
}

use Rattle.std.proofs.Common.{◌≡◌, ℕ, ◌<◌, get_or}
use Rattle.net_model.specs.declared.tables.RoutedLink.{RoutedLink}
use Rattle.class_graph.proofs.last_graph.are_same.Given as goal

abbrev pub invariant-loop-place : goal.invariant-loop-place
invariant-loop-place l = (k : ℕ) → k < l.place → (d : RoutedLink) → get_or l.one k d ≡ get_or l.other k d

use Rattle.std.proofs.Common.{◌≡◌, ℕ, Some, length}
use Rattle.std.specs.Prelude.{slice_get}
use Rattle.net_model.specs.declared.tables.RoutedLink.{RoutedLink}
use Rattle.net_model.specs.Tables.{TellsRouted}
use Rattle.net_model.proofs.rows.Network.routed_links.Given as goal

abbrev pub invariant-loop-place : goal.invariant-loop-place
invariant-loop-place l =
    (length l.table ≡ l.place) ×
    ((link : ℕ) (flags : RoutedLink) → slice_get l.table link ≡ Some flags → TellsRouted l.self link l.to flags)

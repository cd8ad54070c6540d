use Rattle.std.proofs.Common.{◌≡◌, ℕ, Bool, IsFalse, Some, length}
use Rattle.std.specs.Prelude.{slice_get}
use Rattle.class_graph.specs.Listed.{IsUnlisted}
use Rattle.class_graph.proofs.listed.listed_links.Given as goal

abbrev pub invariant-loop-place : goal.invariant-loop-place
invariant-loop-place l =
    (length l.table ≡ l.place) ×
    ((link : ℕ) (flag : Bool) → slice_get l.table link ≡ Some flag → IsFalse flag → IsUnlisted l.net link)

use Rattle.std.proofs.Common.{◌≡◌, ℕ, Some, length}
use Rattle.std.specs.Prelude.{slice_get}
use Rattle.graph_flow.specs.declared.arcs.OpenLink.{OpenLink}
use Rattle.class_graph.specs.Parts.{IsOpenAt}
use Rattle.class_graph.proofs.parts.open_links.Given as goal

abbrev pub invariant-loop-place : goal.invariant-loop-place
invariant-loop-place l =
    (length l.table ≡ l.place) ×
    ((link : ℕ) (row : OpenLink) → slice_get l.table link ≡ Some row → IsOpenAt l.net l.mode l.answers link row)

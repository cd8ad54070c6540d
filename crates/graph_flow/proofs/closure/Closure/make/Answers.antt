use Rattle.std.proofs.Common.{ℕ, ◌∙◌, List, Option, None, replicate, ap}
use Rattle.arc_base.specs.declared.place.Link.{Link}
use Rattle.graph_flow.proofs.Marked.{map-unseen}
use Rattle.graph_flow.proofs.closure.Closure.make.Goals as goal

pub returns : goal.returns
returns c =
    map-unseen _ c.in_ok-make.field-0.marks.items c.nodes.result c.in_ok-make.ensures.marks
    ∙ ap (λ (n : ℕ). let none : Option (List Link) = None in replicate n none) c.nodes.ensures.number

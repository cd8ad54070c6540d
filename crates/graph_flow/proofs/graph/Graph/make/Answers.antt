use Rattle.std.proofs.Common.{◌≡◌, ℕ, [], List, replicate, ap, ◌∙◌, arith}
use Rattle.graph_flow.specs.declared.arcs.Arc.{Arc}
use Rattle.graph_flow.proofs.Rows.{kept-empty}
use Rattle.graph_flow.proofs.graph.Graph.make.Goals as goal

pub invariant_of-result : goal.invariant_of-result
invariant_of-result c =
    let all : c.loop-node._node ≡ c.args.nodes = omega arith in
    kept-empty _ c.args.nodes c.new.ensures.items (c.loop-node.invariant ∙ ap (λ (n : ℕ). let none : List Arc = [] in replicate n none) all) (omega arith)

use Rattle.std.proofs.Common.{◌≡◌, ◌++◌, ◌∷◌, [], length, List, All, sym, subst, ap, ◌∙◌, arith}
use Rattle.std.proofs.lemmas.List.{with_items_is}
use Rattle.graph_flow.specs.declared.arcs.Arc.{Arc}
use Rattle.graph_flow.specs.Paths.{Digraph, Joins, MayShare}
use Rattle.graph_flow.specs.Residual.{with_arc}
use Rattle.graph_flow.proofs.Rows.{kept-more}
use Rattle.graph_flow.proofs.graph.Graph.arc.Goals as goal

pub invariant_of-self-2 : goal.invariant_of-self-2
invariant_of-self-2 c =
    let same = sym c.self.view_is in
    let joins : Joins (length c.self.inside.rows.items) c.args.arc = subst (λ (d : Digraph). Joins d.nodes c.args.arc) same c.requires.joins in
    let share : All (λ (other : Arc). MayShare other c.args.arc) c.self.inside.arcs.items = subst (λ (d : Digraph). All (λ (other : Arc). MayShare other c.args.arc) d.arcs) same c.requires.share in
    let rows : c.add.new.rows ≡ with_arc c.self.inside.rows.items c.args.arc = c.in_ok-add.ensures.ok ∙ ap (λ (rs : List (List Arc)). with_arc rs c.args.arc) c.deref_mut.ensures.value in
    let size : length c.add.new.rows ≡ c.self.inside.rows.len = omega arith in
    kept-more c.self.inside _ c.args.arc c.self.invariant joins share (c.in_ok-push.ensures.items ∙ ap (λ (xs : List Arc). xs ++ c.args.arc ∷ []) c.in_ok-reserve.ensures.items)
    (with_items_is c.self.inside.rows c.add.new.rows size ∙ rows) c.max-self-inside.ensures

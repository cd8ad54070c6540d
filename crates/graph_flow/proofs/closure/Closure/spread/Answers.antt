use Rattle.std.proofs.Common.{List, ◌∙◌, sym, subst}
use Rattle.graph_flow.specs.declared.arcs.Arc.{Arc}
use Rattle.graph_flow.specs.Marks.{IsSpread}
use Rattle.graph_flow.proofs.Marked.{seen-leads, leads-seen, some-seen, is-path, residual-nothing}
use Rattle.graph_flow.proofs.closure.Closure.spread.Goals as goal

pub returns-clause-reached : goal.returns-clause-reached
returns-clause-reached c node l =
    let spread = subst (λ (arcs : List Arc). IsSpread arcs c.args.from c.run.new.self.marks.items) (residual-nothing c.args.g.now.arcs) c.run.ensures.spread in
    (λ some. seen-leads _ _ _ spread node (sym (some-seen c.run.new.self.marks.items node) ∙ some), λ way. some-seen c.run.new.self.marks.items node ∙ leads-seen _ _ _ spread node way)

pub returns-clause-paths : goal.returns-clause-paths
returns-clause-paths c node links e =
    let spread = subst (λ (arcs : List Arc). IsSpread arcs c.args.from c.run.new.self.marks.items) (residual-nothing c.args.g.now.arcs) c.run.ensures.spread in
    is-path _ _ _ spread node links e

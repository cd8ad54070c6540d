use Rattle.std.proofs.Common.{◌∙◌, sym}
use Rattle.graph_flow.proofs.Marked.{seen-leads, leads-seen, some-seen, is-path}
use Rattle.graph_flow.proofs.closure.Closure.spread_open.Goals as goal

pub returns-clause-reached : goal.returns-clause-reached
returns-clause-reached c node l =
    let spread = c.run.ensures.spread in
    (λ some. seen-leads _ _ _ spread node (sym (some-seen c.run.new.self.marks.items node) ∙ some), λ way. some-seen c.run.new.self.marks.items node ∙ leads-seen _ _ _ spread node way)

pub returns-clause-paths : goal.returns-clause-paths
returns-clause-paths c node links e = is-path _ _ _ c.run.ensures.spread node links e

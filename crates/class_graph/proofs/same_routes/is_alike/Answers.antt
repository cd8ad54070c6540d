use Rattle.std.proofs.Common.{sym, ◌∙◌}
use Rattle.class_graph.proofs.same_routes.is_alike.Goals as goal

pub returns-then-agree : goal.returns-then-agree
returns-then-agree c alike =
    let same = c.agree.ensures c.if-agree.true in
    record { told = (λ h. c.requires.told.0 (same ∙ c.requires.last.1 h), λ h. c.requires.last.0 (sym same ∙ c.requires.told.1 h)); lists = c.lists_agree.ensures alike }

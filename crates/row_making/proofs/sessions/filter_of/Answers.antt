use Rattle.std.proofs.Common.{ℕ, List, ap, ◌∙◌}
use Rattle.std.specs.Prelude.{option_map}
use denote.Ref.{Bor}
use Rattle.net_rules.specs.Neighbors.{says_filter}
use Rattle.net_rules.proofs.Lasts.{last_more, map_or}
use Rattle.row_making.proofs.sessions.filter_of.Goals as goal

pub loop-line-preserved : goal.loop-line-preserved
loop-line-preserved c =
    let seen : Bor (List ℕ) → List ℕ = λ name. name.now in
    ap (option_map seen) c.or-last.ensures ∙ map_or seen c.says_filter.result c.loop-line.last ∙
    last_more (says_filter c.args.peer) c.args.lines.now c.loop-line.line-index c.line-item.result (option_map seen c.loop-line.last)
    (option_map seen c.says_filter.result) c.loop-line-test.true c.line-item.is c.loop-line.invariant c.says_filter.ensures

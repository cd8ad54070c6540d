use Rattle.std.proofs.Common.{List, None, ap, ◌∙◌}
use Rattle.std.specs.List.{filter_map, last_or}
use Rattle.std.proofs.lemmas.List.{take_all}
use Rattle.ios_words.specs.declared.commands.Command.{Command}
use Rattle.ios_config.specs.declared.settings.Given.{Given}
use Rattle.net_rules.specs.Linking.{router_id_line}
use Rattle.net_rules.proofs.Lasts.{last_picked}
use Rattle.net_checks.proofs.adjacency.router_id_of.Goals as goal

pub loop-line-preserved : goal.loop-line-preserved
loop-line-preserved c =
    c.or-last.ensures ∙
    last_picked router_id_line c.lines_of-line-items.result.now c.loop-line.line-index c.line-item.result c.loop-line.last c.router_id_line.result c.loop-line-test.true c.line-item.is
    c.loop-line.invariant c.router_id_line.ensures

pub returns : goal.returns
returns c =
    c.loop-line.invariant ∙
    ap (λ (lines : List (Given Command)). last_or None (filter_map router_id_line lines))
    (take_all c.loop-line.line-index c.lines_of-line-items.result.now c.loop-line-test.false ∙ c.lines_of-line-items.ensures)

use Rattle.std.proofs.Common.{List, sym, subst}
use Rattle.net_model.specs.declared.tables.RoutedLink.{RoutedLink}
use Rattle.net_model.specs.Tables.{AreRoutedLinks}
use Rattle.class_graph.proofs.last_graph.build.Goals as goal

pub returns-clause-table : goal.returns-clause-table
returns-clause-table c = record {
  told = c.is_told.ensures.holds;
  table = subst (λ (links : List RoutedLink). AreRoutedLinks c.args.net.now c.args.pair.now.to links) (sym c.in_ok-routed.ensures) c.requires.pair.1.routed;
  graph = c.in_ok-graph.ensures;
  listed = c.in_ok-listed.ensures;
}

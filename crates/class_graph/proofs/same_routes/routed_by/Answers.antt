use Rattle.std.proofs.Common.{List, Option, sym, subst}
use Rattle.std.specs.Prelude.{IfSome}
use Rattle.std.proofs.lemmas.Result.{IfOk-weaker}
use Rattle.net_model.specs.declared.tables.RoutedLink.{RoutedLink}
use Rattle.net_model.specs.Tables.{AreRoutedLinks}
use Rattle.class_graph.specs.declared.last_graph.LastGraph.{LastGraph}
use Rattle.class_graph.specs.LastGraphs.{IsGraphOfTable}
use Rattle.class_graph.proofs.SameRoutes.{same_table}
use Rattle.class_graph.proofs.same_routes.routed_by.Goals as goal

pub returns-then-is_alike : goal.returns-then-is_alike
returns-then-is_alike c =
    let kept : IsGraphOfTable c.args.net.now c.in-Some.last = subst (λ (o : Option LastGraph). IfSome o (IsGraphOfTable c.args.net.now)) c.in-Some.is c.requires.last in
    IfOk-weaker c.copy_of.result _ (AreRoutedLinks c.args.net.now c.args.to)
    (λ copy same. subst (λ (links : List RoutedLink). AreRoutedLinks c.args.net.now c.args.to links) (sym same)
    (same_table c.args.net.now c.in-Some.last.to c.args.to c.in-Some.last.routed (c.is_alike.ensures c.if-is_alike.true) kept.table)) c.copy_of.ensures

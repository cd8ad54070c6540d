use Rattle.std.proofs.Common.{arith}
use Rattle.graph_flow.proofs.Searches.{done}
use Rattle.graph_flow.proofs.search.Search.run.Goals as goal

pub close-requires-clause-search : goal.close-requires-clause-search
close-requires-clause-search c = c.begin.ensures.search _

pub returns-clause-spread : goal.returns-clause-spread
returns-clause-spread c = done _ _ _ _ _ _ c.close.ensures.search (omega arith)

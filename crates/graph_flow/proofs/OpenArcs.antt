-- The arcs that are open, among those of a graph.
use Rattle.std.proofs.Common.{◌≡◌, true, List, Contains, ap, subst, Some, None, Option}
use Rattle.std.specs.Prelude.{if◌then◌else◌}
use Rattle.graph_flow.specs.declared.arcs.Arc.{Arc}
use Rattle.graph_flow.specs.declared.arcs.OpenLink.{OpenLink}
use Rattle.graph_flow.specs.OpenLinks.{is_open_way, row_of, open_of, open_arcs}
use Rattle.graph_flow.proofs.Residuals.{filter_map-member, filter_map-from}
use Rattle.graph_flow.proofs.Extracts.{if-arc}

-- an open arc is given as it is
pub open-is : (table : List OpenLink) (arc found : Arc) → open_of table arc ≡ Some found → (is_open_way (row_of table arc.link.0) arc.tail arc.head ≡ true) × (arc ≡ found)
open-is table arc found e = if-arc (is_open_way (row_of table arc.link.0) arc.tail arc.head) arc found e

-- an arc is among the open ones exactly where it is among all, and is open
pub from-open : (table : List OpenLink) (arcs : List Arc) (arc : Arc) → Contains (open_arcs table arcs) arc → Contains arcs arc × (is_open_way (row_of table arc.link.0) arc.tail arc.head ≡ true)
from-open table arcs arc m =
    let from = filter_map-from (open_of table) arcs arc m in
    let is = open-is table from.0 arc from.2 in
    (subst (λ (x : Arc). Contains arcs x) is.1 from.1, subst (λ (x : Arc). is_open_way (row_of table x.link.0) x.tail x.head ≡ true) is.1 is.0)

pub has-open : (table : List OpenLink) (arcs : List Arc) (arc : Arc) → Contains arcs arc → is_open_way (row_of table arc.link.0) arc.tail arc.head ≡ true → Contains (open_arcs table arcs) arc
has-open table arcs arc m is = filter_map-member (open_of table) arcs arc arc m (ap (λ b. if b then Some arc else None) is)

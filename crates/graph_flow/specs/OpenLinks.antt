-- The part of a graph whose arcs are open, by a table with a row for each link.
use Rattle.std.specs.Prelude.{ℕ, Bool, false, nat_lt, if◌then◌else◌, List, filter_map, Option, Some}
use Rattle.std.specs.Prelude.{None, slice_index_or}
use Rattle.graph_flow.specs.declared.arcs.Arc.{Arc}
use Rattle.graph_flow.specs.declared.arcs.OpenLink.{OpenLink}

-- whether the link's arc from the one node to the other is open: by the one flag if the other node
-- has the higher number, and by the other flag if not
abbrev pub is_open_way : OpenLink → ℕ → ℕ → Bool
is_open_way row tail head = if nat_lt tail head then row.up else row.down

-- the row of the link, and past the table's end one that opens nothing
abbrev pub row_of : List OpenLink → ℕ → OpenLink
row_of table link = slice_index_or table link (record { up = false; down = false })

-- the arc, if it is open
abbrev pub open_of : List OpenLink → Arc → Option Arc
open_of table arc =
    if is_open_way (row_of table arc.link.0) arc.tail arc.head then Some arc else None

-- the open arcs
abbrev pub open_arcs : List OpenLink → List Arc → List Arc
open_arcs table arcs = filter_map (open_of table) arcs

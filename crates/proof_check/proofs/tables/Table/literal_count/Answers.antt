use Rattle.std.proofs.Common.{◌≡◌, ◌-◌, ◌∙◌, sum_by, ap, sym, arith}
use Rattle.proof_check.specs.Places.{size}
use Rattle.proof_check.specs.Rows.{row_size}
use Rattle.proof_check.proofs.RowsOfClauses.{sizes_at_places}
use Rattle.proof_check.proofs.tables.Table.literal_count.Goals as goal

pub returns : goal.returns
returns c =
    let table = c.self.inside in
    let tidy = c.self.invariant in
    let count : c.len.result - table.dropped ≡ sum_by size table.places.items = omega (arith, tidy.room, c.len.ensures) in
    count ∙ sym (sizes_at_places table.lits.items table.places.items tidy.within) ∙ ap (sum_by row_size) c.self.view_is

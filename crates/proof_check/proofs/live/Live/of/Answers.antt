use Rattle.proof_check.proofs.RowsOfClauses.{clause_in_row}
use Rattle.proof_check.proofs.live.Live.of.Goals as goal

pub returns-clause-clauses : goal.returns-clause-clauses
returns-clause-clauses c = λ id. rw (c.into_table.ensures, c.new.ensures.empty) (clause_in_row c.args.rows id)

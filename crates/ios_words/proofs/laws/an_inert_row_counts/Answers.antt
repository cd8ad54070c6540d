use Rattle.ios_words.proofs.Answers.{inert_counts}
use Rattle.ios_words.proofs.laws.an_inert_row_counts.Goals as goal

pub returns : goal.returns
returns c = inert_counts

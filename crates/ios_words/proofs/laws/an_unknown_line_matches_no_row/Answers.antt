use Rattle.ios_words.proofs.Answers.{unknown_none}
use Rattle.ios_words.proofs.laws.an_unknown_line_matches_no_row.Goals as goal

pub returns : goal.returns
returns c = unknown_none

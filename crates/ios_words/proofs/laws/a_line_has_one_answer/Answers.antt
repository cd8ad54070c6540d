use Rattle.ios_words.proofs.Answers.{has_one_answer}
use Rattle.ios_words.proofs.laws.a_line_has_one_answer.Goals as goal

pub returns : goal.returns
returns c = has_one_answer

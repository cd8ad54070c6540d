use Rattle.ios_lines.proofs.RewrittenLines.{a-word-replaced}
use Rattle.ios_lines.proofs.laws.a_word_may_be_replaced.Goals as goal

pub returns : goal.returns
returns c = a-word-replaced

use Rattle.ios_words.proofs.Heads.{heads-top}
use Rattle.ios_words.proofs.laws.heads_are_top_lines.Goals as goal

pub returns : goal.returns
returns c = heads-top

use Rattle.ios_words.proofs.Returns.{returns-say-nothing, heads-have-no-return}
use Rattle.ios_words.proofs.laws.returns_say_nothing.Goals as goal

pub returns-clause-lines : goal.returns-clause-lines
returns-clause-lines c = returns-say-nothing

pub returns-clause-heads : goal.returns-clause-heads
returns-clause-heads c = heads-have-no-return

use Rattle.command_words.proofs.ByManual.{by_manual}
use Rattle.command_words.proofs.laws.words_give_what_the_manual_says.Goals as goal

pub returns : goal.returns
returns c = by_manual

use Rattle.arc_base.proofs.PrefixTexts.{exact}
use Rattle.arc_base.proofs.prefix_text.prefix_texts_are_exact.Goals as goal

pub returns : goal.returns
returns c = exact

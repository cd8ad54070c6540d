use Rattle.number_text_laws.proofs.Exact.{numbers-exact}
use Rattle.number_text_laws.proofs.laws.number_texts_are_exact.Goals as goal

pub returns : goal.returns
returns c = numbers-exact

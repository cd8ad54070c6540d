use Rattle.number_text_laws.proofs.Exact.{addresses-exact}
use Rattle.number_text_laws.proofs.laws.address_texts_are_exact.Goals as goal

pub returns : goal.returns
returns c = addresses-exact

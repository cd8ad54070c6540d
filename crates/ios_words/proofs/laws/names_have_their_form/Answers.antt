use Rattle.ios_words.proofs.NameForms.{names_formed}
use Rattle.ios_words.proofs.laws.names_have_their_form.Goals as goal

pub returns : goal.returns
returns c = names_formed

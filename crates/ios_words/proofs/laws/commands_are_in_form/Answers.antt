use Rattle.ios_words.proofs.Formed.{in_form, addresses_fit}
use Rattle.ios_words.proofs.laws.commands_are_in_form.Goals as goal

pub returns-clause-form : goal.returns-clause-form
returns-clause-form c = in_form

pub returns-clause-addresses : goal.returns-clause-addresses
returns-clause-addresses c = addresses_fit

use Rattle.std.proofs.Common.{◌∙◌, sym}
use Rattle.policy_encode.proofs.Finding.{place_is}
use Rattle.policy_encode.proofs.edit_index.EditIndex.place_of.Goals as goal

pub returns-in-Some : goal.returns-in-Some
returns-in-Some c = λ list is. sym c.in-Some.is ∙ c.get_index_of.ensures.index ∙ place_is list c.args.self.now.keys.keys c.args.edit c.key_of.result c.key_of.ensures is

pub returns-in-None : goal.returns-in-None
returns-in-None c = λ list is. sym c.in-None.is ∙ c.get_index_of.ensures.index ∙ place_is list c.args.self.now.keys.keys c.args.edit c.key_of.result c.key_of.ensures is

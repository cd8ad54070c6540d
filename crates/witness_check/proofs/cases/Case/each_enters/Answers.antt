use Rattle.std.proofs.Common.{sym, ◌∙◌}
use Rattle.std.proofs.lemmas.Bool.{false≢true}
use Rattle.net_model.specs.Packets.{first_packet}
use Rattle.net_model.proofs.Packets.{first_is_of}
use Rattle.witness_check.proofs.cases.Case.each_enters.Goals as goal

pub returns-else-self : goal.returns-else-self
returns-else-self c = (λ t. absurd (false≢true (sym c.if-self.false ∙ t)), λ each. (each (first_packet c.args.class) (first_is_of c.args.class)).0)

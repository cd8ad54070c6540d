use Rattle.formula_text_laws.proofs.Texts.{read-again}
use Rattle.formula_text_laws.proofs.laws.formulas_are_read_again.Goals as goal

pub returns : goal.returns
returns c = read-again

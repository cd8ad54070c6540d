use Rattle.price_descent.proofs.Parts.{all_there}
use Rattle.price_descent.proofs.loading.fill.Goals as goal

pub returns-clause-formula : goal.returns-clause-formula
returns-clause-formula c = all_there c.args.formula.now c.enter_all.new.there c.enter_all.new.core c.in_ok-enter_all.ensures.part c.in_ok-enter_all.ensures.all

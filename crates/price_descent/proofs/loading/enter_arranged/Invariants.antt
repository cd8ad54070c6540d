use Rattle.price_descent.specs.Loading.{HasPart}
use Rattle.price_descent.proofs.loading.enter_arranged.Given as goal

abbrev pub invariant-loop-step : goal.invariant-loop-step
invariant-loop-step l = HasPart l.formula l.there l.core

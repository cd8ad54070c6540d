use Rattle.std.proofs.Common.{sym, subst}
use Rattle.sat_core.specs.States.{State}
use Rattle.sat_search.specs.Orders.{HoldsUnset}
use Rattle.sat_search.proofs.Unset.{waits_released}
use Rattle.sat_search.proofs.order.Order.take_back.Goals as goal

pub returns-clause-waiting : goal.returns-clause-waiting
returns-clause-waiting c = λ waiting.
    subst (λ (s : State). HoldsUnset s.vars s.trail c.release.new.self) (sym c.back_to.ensures)
    (waits_released c.args.core.now.vars c.args.level c.args.core.now.trail c.args.self.now c.release.new.self c.release.ensures.released waiting)

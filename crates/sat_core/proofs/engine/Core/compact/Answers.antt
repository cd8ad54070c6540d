use Rattle.std.proofs.Common.{sym, subst}
use Rattle.clause_pool.specs.Pools.{State}
use Rattle.sat_core.specs.Kept.{IsKeptCore}
use Rattle.sat_core.specs.Placed.{AreToMove}
use Rattle.sat_core.proofs.Anew.{Moves}
use Rattle.sat_core.proofs.Forgets.{kept-compacted}
use Rattle.sat_core.proofs.Placed.{to-move}
use Rattle.sat_core.proofs.engine.Core.compact.Goals as goal

pub invariant_of-self : goal.invariant_of-self
invariant_of-self c =
    let i = c.self.inside in
    subst (λ (p : State). IsKeptCore (record i { pool = p })) (sym c.in_err-compact.ensures.err) c.self.invariant

pub put_anew-requires-clause-moves : goal.put_anew-requires-clause-moves
put_anew-requires-clause-moves c =
    let u = c.self.invariant.underway in
    subst (λ (ms : Moves). AreToMove c.self.inside.store c.compact.new.self ms) (sym c.slice.ensures.items)
    (to-move c.self.inside.store c.self.inside.pool c.compact.new.self _ c.compact.new.moved u.placed c.in_ok-compact.ensures.sound c.make-moved.ensures c.in_ok-compact.ensures.ok)

pub invariant_of-self-2 : goal.invariant_of-self-2
invariant_of-self-2 c = kept-compacted c.self.inside c.put_anew.new.store c.compact.new.self _ _ c.self.invariant c.in_ok-compact.ensures.ok c.in_ok-compact.ensures.sound
    c.put_anew.ensures.clauses c.put_anew.ensures.placed

use Rattle.std.proofs.Common.{◌≡◌, pos, arith}
use Rattle.std.proofs.lemmas.Int.{ints}
use Rattle.cnf_types.proofs.Growing.{closing_is}
use Rattle.cnf_types.proofs.body.Body.take_number.Goals as goal

pub returns-in_ok-take-clause-pieces : goal.returns-in_ok-take-clause-pieces
returns-in_ok-take-clause-pieces g c = λ more.
    let zero_is : c.args.number ≡ pos 0 = omega (arith, ints) in
    closing_is (g.S.ClauseSink.taken c.args.self.now.sink) (g.S.ClauseSink.taken c.take.new.self) c.args.self.now.unclosed.items c.deref.result.now c.clear.new.self.items
    c.args.number more c.in_ok-take.ensures.ok c.deref.ensures.value c.clear.ensures.items zero_is

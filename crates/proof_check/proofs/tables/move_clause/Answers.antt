use Rattle.std.proofs.Common.{◌≤◌, ◌<◌, ◌+◌, ◌-◌, take, ap, ◌∙◌, arith, drop}
use Rattle.proof_check.specs.Places.{size}
use Rattle.proof_check.proofs.Places.{clause_front, clause_back, moved_front, moved_back}
use Rattle.proof_check.proofs.tables.move_clause.Goals as goal

pub returns-clause-front : goal.returns-clause-front
returns-clause-front c = λ p h.
    let lits = c.args.lits.now in
    let some : 0 < c.args.place.stop = omega arith in
    let before : c.args.end ≤ c.args.place.start = c.requires.end some in
    clause_front lits c.copy_within.new.self c.args.end p c.requires.room (omega (arith, c.copy_within.ensures.len))
    (ap (take c.args.end) c.copy_within.ensures.after ∙ moved_front lits c.args.place c.args.end c.requires.place before some) h

pub returns-clause-back : goal.returns-clause-back
returns-clause-back c = λ p h.
    let lits = c.args.lits.now in
    let some : 0 < c.args.place.stop = omega arith in
    let before : c.args.end ≤ c.args.place.start = c.requires.end some in
    let first : c.args.place.start ≤ c.args.place.stop - 1 = c.requires.place.start in
    clause_back lits c.copy_within.new.self (c.args.end + size c.args.place) p
    (ap (drop (c.args.end + size c.args.place)) c.copy_within.ensures.after ∙ moved_back lits c.args.place c.args.end c.requires.place before some)
    (λ stands. let k : c.args.place.stop - 1 ≤ p.start = h stands in omega arith)

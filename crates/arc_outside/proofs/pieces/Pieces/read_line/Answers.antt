use Rattle.std.proofs.Common.{arith, ◌∙◌, ap, ◌==◌, length, length-append}
use Rattle.arc_outside.proofs.LineByLine.{still_unbroken, told_on, told_end}
use Rattle.arc_outside.proofs.pieces.Pieces.read_line.Goals as goal

pub returns-then-n-eq0-clause-told : goal.returns-then-n-eq0-clause-told
returns-then-n-eq0-clause-told g c =
    told_end c.args.name.now (g.S.Store.held c.args.store.now) (g.S.Store.held c.pieces.store) c.pieces.invariant.same c.args.self.now
    (record c.pieces.self { window = c.refill.new.self; line = c.take_front.new.line }) c.pieces.self.window c.pieces.self.line.items c.take_front.new.window c.in-Ok.n c.is_empty.result
    c.pieces.invariant.told c.pieces.invariant.unbroken (rw c.in-Ok-false.field-0-test at c.in-Ok-false.ensures) c.in-Ok.ensures.told c.in-Ok.ensures.count c.if-n-eq0.true
    (omega (arith, c.pieces.self.within, c.pieces.invariant.limit)) (c.is_empty.ensures ∙ ap (λ m. m == 0) (omega arith))

pub pieces-preserved : goal.pieces-preserved
pieces-preserved g c = record {
  told = told_on c.args.name.now (g.S.Store.held c.args.store.now)
      (g.S.Store.held c.pieces.store) c.pieces.invariant.same c.args.self.now c.pieces.self.window c.pieces.self.line.items c.take_front.new.line.items c.take_front.new.window
      c.refill.new.self c.pieces.self.place c.in-Ok.n
      c.pieces.invariant.told (rw c.in-Ok-false.field-0-test at c.in-Ok-false.ensures) c.in-Ok.ensures.told c.in-Ok.ensures.count;
  unbroken = still_unbroken c.pieces.self.line.items c.pieces.self.window c.take_front.new.line.items c.take_front.new.window c.pieces.invariant.unbroken
      (rw c.in-Ok-false.field-0-test at c.in-Ok-false.ensures);
  ahead = omega (
    arith,
    c.pieces.invariant.ahead,
    c.in-Ok.ensures.count,
    ap length (rw c.in-Ok-false.field-0-test at c.in-Ok-false.ensures).1.0,
    length-append c.pieces.self.line.items c.pieces.self.window,
  );
  same = c.refill.ensures.same ∙ c.pieces.invariant.same;
  limit = c.pieces.invariant.limit;
  kept = c.pieces.invariant.kept;
  onward = omega (arith, c.pieces.invariant.onward);
  took = omega (arith, c.pieces.invariant.took, c.pieces.invariant.onward, c.in-Ok.ensures.taken.0);
  no_more = omega (arith, c.pieces.invariant.no_more, c.pieces.invariant.onward, c.in-Ok.ensures.taken.1);
  faults = c.in-Ok.ensures.cause.only (λ is. cc) ∙ c.pieces.invariant.faults;
  absences = c.in-Ok.ensures.absence.only (λ is. cc) ∙ c.pieces.invariant.absences;
}

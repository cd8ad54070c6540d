use Rattle.std.proofs.Common.{arith, refl, ◌∙◌}
use Rattle.arc_outside.proofs.Counting.{carried}
use Rattle.run_files.proofs.ReadPast.{told_end, told_further, told_too_many, told_fault}
use Rattle.run_files.proofs.WhereTold.{told}
use Rattle.run_files.proofs.by_lines.read_past.Goals as goal

pub pieces-init : goal.pieces-init
pieces-init g c = record {
  same = refl;
  few = omega arith;
  room = c.in-Ok.ensures.len;
  taken = omega arith;
  no_more = omega arith;
  reached = told (g.S.Store.held c.args.store.now) (λ files. omega arith);
  faults = refl;
  absences = refl;
}

pub returns-in-Err-read_at-clause-told : goal.returns-in-Err-read_at-clause-told
returns-in-Err-read_at-clause-told g c =
    told_fault c.args.name.now (g.S.Store.held c.args.store.now) (g.S.Store.held c.pieces.store) c.pieces.place c.args.limit c.read_at.new.buf
    c.in-Err-read_at.fault c.pieces.invariant.same c.in-Err-read_at.ensures.told

pub returns-then-n-eq0-clause-told : goal.returns-then-n-eq0-clause-told
returns-then-n-eq0-clause-told g c =
    told_end c.args.name.now (g.S.Store.held c.args.store.now) (g.S.Store.held c.pieces.store) c.pieces.place c.args.limit c.in-Ok-read_at.n c.read_at.new.buf
    c.pieces.invariant.same (omega arith) c.pieces.invariant.few c.pieces.invariant.reached c.in-Ok-read_at.ensures.told

pub returns-then-n-limit-clause-told : goal.returns-then-n-limit-clause-told
returns-then-n-limit-clause-told g c =
    told_too_many c.args.name.now (g.S.Store.held c.args.store.now) (g.S.Store.held c.pieces.store) c.pieces.place c.args.limit c.in-Ok-read_at.n
    c.read_at.new.buf c.pieces.invariant.same (omega arith) c.pieces.invariant.few c.in-Ok-read_at.ensures.told

pub returns-in-Err-read_at-clause-reads : goal.returns-in-Err-read_at-clause-reads
returns-in-Err-read_at-clause-reads g c = record {
  same = c.read_at.ensures.same ∙ c.pieces.invariant.same;
  taken_rise = omega (arith, c.in-Err-read_at.ensures.count);
  too_long = λ is. cc;
  failed = carried _ _ _ c.in-Err-read_at.ensures.cause c.pieces.invariant.faults (λ is. cc) (λ is. cc);
  missing = carried _ _ _ c.in-Err-read_at.ensures.absence c.pieces.invariant.absences (λ is. cc) (λ is. cc);
}

pub returns-then-n-eq0-clause-reads : goal.returns-then-n-eq0-clause-reads
returns-then-n-eq0-clause-reads g c = record {
  same = c.read_at.ensures.same ∙ c.pieces.invariant.same;
  taken_rise = omega (arith, c.in-Ok-read_at.ensures.count.0);
  too_long = λ is. cc;
  failed = carried _ _ _ c.in-Ok-read_at.ensures.cause c.pieces.invariant.faults (λ is. cc) (λ is. cc);
  missing = carried _ _ _ c.in-Ok-read_at.ensures.absence c.pieces.invariant.absences (λ is. cc) (λ is. cc);
}

pub returns-then-n-limit-clause-reads : goal.returns-then-n-limit-clause-reads
returns-then-n-limit-clause-reads g c = record {
  same = c.read_at.ensures.same ∙ c.pieces.invariant.same;
  taken_rise = omega (arith, c.in-Ok-read_at.ensures.count.0);
  too_long = λ is. omega (arith, c.in-Ok-read_at.ensures.count.0);
  failed = carried _ _ _ c.in-Ok-read_at.ensures.cause c.pieces.invariant.faults (λ is. cc) (λ is. cc);
  missing = carried _ _ _ c.in-Ok-read_at.ensures.absence c.pieces.invariant.absences (λ is. cc) (λ is. cc);
}

pub pieces-preserved : goal.pieces-preserved
pieces-preserved g c =
    record {
      same = c.read_at.ensures.same ∙ c.pieces.invariant.same;
      few = omega arith;
      room = c.pieces.invariant.room;
      taken = omega (arith, c.in-Ok-read_at.ensures.count.0);
      no_more = omega (arith, c.in-Ok-read_at.ensures.count.1);
      reached = told_further c.args.name.now (g.S.Store.held c.args.store.now)
          (g.S.Store.held c.pieces.store) c.pieces.place c.in-Ok-read_at.n c.read_at.new.buf c.pieces.invariant.same c.pieces.invariant.reached c.in-Ok-read_at.ensures.told;
      faults = c.in-Ok-read_at.ensures.cause.only (λ is. cc) ∙ c.pieces.invariant.faults;
      absences = c.in-Ok-read_at.ensures.absence.only (λ is. cc) ∙ c.pieces.invariant.absences;
    }

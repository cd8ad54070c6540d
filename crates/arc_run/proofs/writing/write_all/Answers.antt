use Rattle.std.proofs.Common.{arith, ap, List, ℕ, ◌∙◌}
use Rattle.std.specs.Prelude.{option_map}
use Rattle.arc_outside.specs.Files.{with_file}
use Rattle.arc_run.proofs.Writes.{one_written, fails}
use Rattle.arc_run.proofs.writing.write_all.Goals as goal

pub returns-in-Err-clause-stopped : goal.returns-in-Err-clause-stopped
returns-in-Err-clause-stopped g c =
    fails (g.S.Store.held c.args.store.now) (g.S.Store.held c.loop-write.store) (g.S.Store.held c.write_whole.new.self) c.args.writes.now c.loop-write.write-index c.write-item.result
    c.loop-write-test.true c.write-item.is c.loop-write.invariant.written c.in-Err.ensures.others

pub loop-write-preserved : goal.loop-write-preserved
loop-write-preserved g c = record {
  written = one_written (g.S.Store.held c.args.store.now) (g.S.Store.held c.loop-write.store) (g.S.Store.held c.write_whole.new.self) c.args.writes.now c.loop-write.write-index c.write-item.result
      c.loop-write-test.true c.write-item.is c.loop-write.invariant.written
      (c.in-Ok.ensures.written ∙ ap (λ (b : List ℕ). option_map (λ files. with_file files c.write-item.result.0 b) (g.S.Store.held c.loop-write.store)) c.bytes.ensures);
  faults = c.in-Ok.ensures.cause.only (λ is. cc) ∙ c.loop-write.invariant.faults;
  absences = omega (arith, c.loop-write.invariant.absences, c.in-Ok.ensures.absence.later);
  taken = c.write_whole.ensures.taken ∙ c.loop-write.invariant.taken;
}

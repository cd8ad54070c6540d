use Rattle.std.proofs.Common.{arith, refl}
use Rattle.arc_outside.proofs.Counting.{stood}
use Rattle.run_files.proofs.Stops.{any_cause, not_failed}
use Rattle.generate_commands.proofs.Answered.{answers}
use Rattle.arc_run.proofs.top.answer.Goals as goal

pub returns-in-Verify-clause-answer : goal.returns-in-Verify-clause-answer
returns-in-Verify-clause-answer g c = rw c.in-Verify.is c.verify.ensures.answer

pub returns-in-Trace-clause-answer : goal.returns-in-Trace-clause-answer
returns-in-Trace-clause-answer g c = rw c.in-Trace.is c.trace.ensures.answer

pub returns-in-Repair-clause-answer : goal.returns-in-Repair-clause-answer
returns-in-Repair-clause-answer g c = rw c.in-Repair.is c.repair.ensures.answer

pub returns-in-Check-clause-answer : goal.returns-in-Check-clause-answer
returns-in-Check-clause-answer g c = rw c.in-Check.is c.check.ensures.answer

pub returns-in-Apply-clause-answer : goal.returns-in-Apply-clause-answer
returns-in-Apply-clause-answer g c = rw c.in-Apply.is c.apply.ensures.answer

pub returns-in-Solve-clause-answer : goal.returns-in-Solve-clause-answer
returns-in-Solve-clause-answer g c = rw c.in-Solve.is c.solve.ensures.answer

pub returns-in-Lrat-clause-answer : goal.returns-in-Lrat-clause-answer
returns-in-Lrat-clause-answer g c = rw c.in-Lrat.is c.lrat.ensures.answer

pub returns-in-Nodes-clause-answer : goal.returns-in-Nodes-clause-answer
returns-in-Nodes-clause-answer g c = rw c.in-Nodes.is c.nodes.ensures.answer

pub returns-in-Prefers-clause-answer : goal.returns-in-Prefers-clause-answer
returns-in-Prefers-clause-answer g c = rw c.in-Prefers.is c.prefers.ensures.answer

pub returns-in-Recheck-clause-answer : goal.returns-in-Recheck-clause-answer
returns-in-Recheck-clause-answer g c = rw c.in-Recheck.is c.recheck.ensures.answer

pub returns-in-Generate-clause-answer : goal.returns-in-Generate-clause-answer
returns-in-Generate-clause-answer g c = rw c.in-Generate.is (answers c.in-Generate.words (g.S.Store.held c.args.store.now) c.generate.result c.generate.ensures.answer)

pub returns-in-Generate-clause-reads : goal.returns-in-Generate-clause-reads
returns-in-Generate-clause-reads g c = record {
  same = refl;
  cause = any_cause _ _ _ c.generate.result c.generate.ensures.cause;
  failed = stood _ _ refl (not_failed c.generate.result c.generate.ensures.cause);
  absences_rise = omega arith;
  taken_rise = omega arith;
}

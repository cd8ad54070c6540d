use Rattle.std.proofs.Common.{◌∙◌, ap, arith, refl}
use Rattle.std.specs.Prelude.{Err}
use Rattle.arc_outside.proofs.Counting.{carried}
use Rattle.command_words.specs.Commands.{command_of}
use Rattle.arc_run.proofs.Finishing.{failed_before, finished, left}
use Rattle.arc_run.proofs.top.run_defined.Goals as goal

pub returns-in-Ok-clause-runs : goal.returns-in-Ok-clause-runs
returns-in-Ok-clause-runs g c =
    let e = c.finish.ensures in
    let stood = c.in-Ok.ensures.failed.only (λ is. cc) in
    finished (command_of c.args.words.now) c.in-Ok.outcome (g.S.Store.held c.args.store.now) (g.S.Store.held c.perform.new.store) (g.S.Store.held c.finish.new.store)
    (g.K.Sink.written c.args.out.now) (g.K.Sink.written c.finish.new.out) c.finish.result.code
    c.in-Ok.ensures.defined (λ rose. omega (arith, rose, e.absences)) (λ more. omega (arith, more, e.taken)) c.in-Ok.ensures.cause c.in-Ok.ensures.same
    e.ended (λ h. let f = e.store_failed h in (omega (arith, f.0, stood), f.1, f.2, f.3)) e.sink_failed e.memory e.code

pub returns-in-Ok-clause-outcome : goal.returns-in-Ok-clause-outcome
returns-in-Ok-clause-outcome g c below =
    let e = c.finish.ensures in
    let end = e.ended below in (
      end.0,
      left (command_of c.args.words.now) c.in-Ok.outcome (g.S.Store.held c.args.store.now) (g.S.Store.held c.perform.new.store) (g.S.Store.held c.finish.new.store)
          (g.K.Sink.written c.args.out.now) (g.K.Sink.written c.finish.new.out)
          c.in-Ok.ensures.defined (λ rose. omega (arith, rose, e.absences)) (λ more. omega (arith, more, e.taken)) c.in-Ok.ensures.cause c.in-Ok.ensures.same end.1 end.2,
    )

pub returns-in-Ok-clause-store_fault : goal.returns-in-Ok-clause-store_fault
returns-in-Ok-clause-store_fault g c = carried _ _ _ c.finish.ensures.faults (c.in-Ok.ensures.failed.only (λ is. cc)) (λ is. is) (λ is. is)

pub returns-in-Err-Failed-clause-runs : goal.returns-in-Err-Failed-clause-runs
returns-in-Err-Failed-clause-runs g c =
    let is = c.in-Err-Failed.is ∙ ap Err c.in-Err-Failed.field-0-is in
    failed_before (command_of c.args.words.now) (g.S.Store.held c.args.store.now) (g.S.Store.held c.perform.new.store) (g.K.Sink.written c.args.out.now)
    (c.perform.ensures.failed.rose is) (c.perform.ensures.failed_in_command is) c.perform.ensures.same

pub returns-in-Err-Failed-clause-store_fault : goal.returns-in-Err-Failed-clause-store_fault
returns-in-Err-Failed-clause-store_fault g c =
    let is = c.in-Err-Failed.is ∙ ap Err c.in-Err-Failed.field-0-is in
    carried _ _ _ c.perform.ensures.failed refl (λ six. is) (λ failed. refl)

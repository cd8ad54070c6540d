use Rattle.std.proofs.Common.{ℕ, ◌∙◌, ◌∷◌, List, arith, refl}
use Rattle.std.specs.Prelude.{Ok, Err}
use Rattle.arc_outside.specs.Files.{Files}
use Rattle.arc_base.specs.TextLines.{lines}
use Rattle.run_files.specs.LineJudges.{Judges, JudgesText, LeadsOn}
use Rattle.run_files.specs.Refusals.{bytes_at}
use Rattle.run_files.proofs.LineByLine.{begun, left_lines, line_taken}
use Rattle.run_files.proofs.LinesJudged.{from_here, leads_on, stopped}
use Rattle.run_files.proofs.line_judges.judge_lines.Goals as goal

pub lines-init : goal.lines-init
lines-init g c = record {
  told = begun c.args.name.now (λ (text : List ℕ) (ls : List (List ℕ)). LeadsOn g.J.LineJudge.leads_to g.J.LineJudge.refuses c.args.judge (lines text) ls c.args.judge)
      (g.S.Store.held c.args.store.now) c.make-pieces.result (λ text. from_here g.J.LineJudge.leads_to g.J.LineJudge.refuses c.args.judge (lines text)) c.make-pieces.ensures.left;
  room = omega (arith, c.make-pieces.ensures.ahead, c.requires.room);
  can_go_on = c.requires.going;
  limit = c.make-pieces.ensures.limit;
  going = c.make-pieces.ensures.failed;
  same = refl;
  took = omega (arith, c.make-pieces.ensures.place);
  faults = refl;
  absences = omega arith;
}

pub lines-preserved : goal.lines-preserved
lines-preserved g c =
    let next = rw c.in-Ok-Continue.field-0-is at c.in-Ok-Continue.ensures.going in
    record {
      told = line_taken c.args.name.now (λ (text : List ℕ) (ls : List (List ℕ)). LeadsOn g.J.LineJudge.leads_to g.J.LineJudge.refuses c.args.judge (lines text) ls c.lines.judge)
          (g.S.Store.held c.args.store.now) (g.S.Store.held c.lines.store) c.lines.invariant.same c.lines.pieces c.next_line.new.pieces c.lines.invariant.told c.line.result.now c.line.ensures
          (rw c.in-Ok-true.field-0-test at c.in-Ok-true.ensures.told)
          (λ (files : Files). LeadsOn g.J.LineJudge.leads_to g.J.LineJudge.refuses c.args.judge (lines (bytes_at files c.args.name.now))
          (left_lines files c.args.name.now c.next_line.new.pieces) c.in-Ok-Continue.next)
          (λ files come. leads_on g.J.LineJudge.leads_to g.J.LineJudge.refuses c.args.judge c.lines.judge c.in-Ok-Continue.next (lines (bytes_at files c.args.name.now))
          (c.line.result.now ∷ left_lines files c.args.name.now c.next_line.new.pieces) (left_lines files c.args.name.now c.next_line.new.pieces) come
          (rw c.in-Ok-Continue.field-0-is at (c.in-Ok-Continue.ensures.judged (left_lines files c.args.name.now c.next_line.new.pieces))));
      room = omega (arith, c.lines.invariant.room, (rw c.in-Ok-true.field-0-test at c.in-Ok-true.ensures.fewer) refl, next.room_left);
      can_go_on = next.can_go_on;
      limit = c.in-Ok-true.ensures.limit ∙ c.lines.invariant.limit;
      going = c.in-Ok-true.ensures.ok;
      same = c.in-Ok-true.ensures.reads.same ∙ c.lines.invariant.same;
      took = omega (arith, c.lines.invariant.took, c.in-Ok-true.ensures.took, c.in-Ok-true.ensures.onward);
      faults = c.in-Ok-true.ensures.reads.failed.only (λ is. cc) ∙ c.lines.invariant.faults;
      absences = omega (arith, c.lines.invariant.absences, c.in-Ok-true.ensures.reads.absences_rise);
    }

pub returns-in-Ok-Break-clause-told : goal.returns-in-Ok-Break-clause-told
returns-in-Ok-Break-clause-told g c =
    line_taken c.args.name.now (λ (text : List ℕ) (ls : List (List ℕ)). LeadsOn g.J.LineJudge.leads_to g.J.LineJudge.refuses c.args.judge (lines text) ls c.lines.judge)
    (g.S.Store.held c.args.store.now) (g.S.Store.held c.lines.store) c.lines.invariant.same c.lines.pieces c.next_line.new.pieces c.lines.invariant.told c.line.result.now c.line.ensures
    (rw c.in-Ok-true.field-0-test at c.in-Ok-true.ensures.told)
    (λ (files : Files). JudgesText (g.J.LineJudge.leads_to c.args.judge) (g.J.LineJudge.refuses c.args.judge) c.args.limit files c.args.name.now (Ok c.in-Ok-Break.outcome))
    (λ files come. come.outcomes c.in-Ok-Break.outcome (rw c.in-Ok-Break.field-0-is at (c.in-Ok-Break.ensures.judged (left_lines files c.args.name.now c.next_line.new.pieces))))

pub returns-in-Err-line-clause-told : goal.returns-in-Err-line-clause-told
returns-in-Err-line-clause-told g c =
    line_taken c.args.name.now (λ (text : List ℕ) (ls : List (List ℕ)). LeadsOn g.J.LineJudge.leads_to g.J.LineJudge.refuses c.args.judge (lines text) ls c.lines.judge)
    (g.S.Store.held c.args.store.now) (g.S.Store.held c.lines.store) c.lines.invariant.same c.lines.pieces c.next_line.new.pieces c.lines.invariant.told c.line.result.now c.line.ensures
    (rw c.in-Ok-true.field-0-test at c.in-Ok-true.ensures.told)
    (λ (files : Files). JudgesText (g.J.LineJudge.leads_to c.args.judge) (g.J.LineJudge.refuses c.args.judge) c.args.limit files c.args.name.now (Err c.in-Err-line.stop))
    (λ files come. stopped g.J.LineJudge.leads_to g.J.LineJudge.refuses c.args.limit c.args.name.now c.args.judge c.lines.judge
    (c.line.result.now ∷ left_lines files c.args.name.now c.next_line.new.pieces) files come
    (Judges g.J.LineJudge.leads_to g.J.LineJudge.refuses c.lines.judge (c.line.result.now ∷ left_lines files c.args.name.now c.next_line.new.pieces)
    (left_lines files c.args.name.now c.next_line.new.pieces))
    c.in-Err-line.stop (c.in-Err-line.ensures.judged (left_lines files c.args.name.now c.next_line.new.pieces)))

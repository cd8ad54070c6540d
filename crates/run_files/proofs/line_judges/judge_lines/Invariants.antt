use Rattle.std.proofs.Common.{◌≡◌, ◌≤◌, ◌+◌, ◌-◌, ◌^◌, false}
use Rattle.std.specs.Prelude.{IfSome, min}
use Rattle.arc_outside.specs.LinesRead.{ahead}
use Rattle.arc_base.specs.TextLines.{lines}
use Rattle.run_files.specs.LineJudges.{LeadsOn}
use Rattle.run_files.specs.Refusals.{bytes_at}
use Rattle.run_files.proofs.LineByLine.{left_lines}
use Rattle.run_files.proofs.line_judges.judge_lines.Given as goal

abbrev pub invariant-lines : goal.invariant-lines
invariant-lines g l = record {
  told : IfSome (g.S.Store.held l.fn.store)
      (λ files. LeadsOn g.J.LineJudge.leads_to g.J.LineJudge.refuses l.fn.judge (lines (bytes_at files l.name)) (left_lines files l.name l.pieces) l.judge);
  room : ahead l.pieces ≤ g.J.LineJudge.room l.judge;
  can_go_on : g.J.LineJudge.can_go_on l.judge;
  limit : l.pieces.limit ≡ l.limit;
  going : l.pieces.failed ≡ false;
  same : g.S.Store.held l.store ≡ g.S.Store.held l.fn.store;
  took : min (g.S.Store.taken l.fn.store + l.pieces.place) (2 ^ 64 - 1) ≤ g.S.Store.taken l.store;
  faults : g.S.Store.faults l.store ≡ g.S.Store.faults l.fn.store;
  absences : g.S.Store.absences l.fn.store ≤ g.S.Store.absences l.store;
}

abbrev pub decreases-lines : goal.decreases-lines
decreases-lines g l = ahead l.pieces

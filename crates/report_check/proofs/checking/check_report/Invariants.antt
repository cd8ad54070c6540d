use Rattle.std.proofs.Common.{◌+◌, ◌≤◌, length}
use Rattle.arc_base.specs.TextLines.{lines}
use Rattle.report_check.specs.LineByLine.{HasComeTo}
use Rattle.report_check.proofs.checking.check_report.Given as goal

abbrev pub invariant-loop-rest : goal.invariant-loop-rest
invariant-loop-rest l = record {
  come : HasComeTo l.net l.doc l.text (lines l.rest) l.judge;
  number_fits : l.judge.number + length l.rest ≤ 1 + length l.text;
}

abbrev pub decreases-loop-rest : goal.decreases-loop-rest
decreases-loop-rest l = length l.rest

use Rattle.std.proofs.Common.{◌≡◌, ◌+◌, ◌≤◌, length}
use Rattle.arc_base.specs.TextLines.{lines}
use Rattle.cnf_types.specs.Dimacs.{content}
use Rattle.cnf_types.proofs.dimacs.read_header.Given as goal

abbrev pub invariant-loop-rest : goal.invariant-loop-rest
invariant-loop-rest l = record {
  content_is : content l.line (lines l.rest) ≡ content 0 (lines l.text);
  last : l.line + length (lines l.rest) ≡ length (lines l.text);
  size : l.line + length l.rest ≤ length l.text;
}

abbrev pub decreases-loop-rest : goal.decreases-loop-rest
decreases-loop-rest l = length l.rest

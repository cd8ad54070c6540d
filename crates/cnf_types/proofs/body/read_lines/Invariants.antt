use Rattle.std.proofs.Common.{◌≡◌, ◌+◌, ◌≤◌, ◌++◌, List, ℤ, length}
use Rattle.arc_base.specs.TextLines.{lines}
use Rattle.cnf_types.specs.Dimacs.{first_bad, content, numbers, pieces}
use Rattle.cnf_types.specs.Progress.{pieces_after}
use Rattle.cnf_types.proofs.body.read_lines.Given as goal

abbrev pub invariant-loop-rest : goal.invariant-loop-rest
invariant-loop-rest g l = record {
  bad : first_bad l.vars (content l.line (lines l.rest)) ≡ first_bad l.vars (content l.before (lines l.text));
  pieces_are : (more : List ℤ) → pieces_after (g.S.ClauseSink.taken l.body.sink) l.body.unclosed.items (numbers l.vars (content l.line (lines l.rest)) ++ more) ≡ pieces
      (numbers l.vars (content l.before (lines l.text)) ++ more);
  last : l.line + length (lines l.rest) ≡ l.before + length (lines l.text);
  vars : l.body.vars ≡ l.vars;
  clauses : length (g.S.ClauseSink.taken l.body.sink) + length l.rest ≤ length l.text;
  size : l.line + length l.rest ≤ l.before + length l.text;
}

abbrev pub decreases-loop-rest : goal.decreases-loop-rest
decreases-loop-rest g l = length l.rest

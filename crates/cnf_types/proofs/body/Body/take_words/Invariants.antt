use Rattle.std.proofs.Common.{◌≡◌, ◌+◌, ◌≤◌, ◌++◌, List, ℤ, length}
use Rattle.std.specs.List.{list_any}
use Rattle.arc_base.specs.Words.{words}
use Rattle.cnf_types.specs.Dimacs.{is_bad_word, line_numbers}
use Rattle.cnf_types.specs.Progress.{pieces_after}
use Rattle.cnf_types.proofs.body.Body.take_words.Given as goal

abbrev pub invariant-loop-word : goal.invariant-loop-word
invariant-loop-word g l = record {
  bad : list_any (is_bad_word l.fn.self.vars) (words l.rest) ≡ list_any (is_bad_word l.fn.self.vars) (words l.line);
  pieces : (more : List ℤ) → pieces_after (g.S.ClauseSink.taken l.self.sink) l.self.unclosed.items (line_numbers l.fn.self.vars (words l.rest) ++ more) ≡ pieces_after
      (g.S.ClauseSink.taken l.fn.self.sink) l.fn.self.unclosed.items (line_numbers l.fn.self.vars (words l.line) ++ more);
  clauses : length (g.S.ClauseSink.taken l.self.sink) + length l.rest ≤ length (g.S.ClauseSink.taken l.fn.self.sink) + length l.line;
  vars : l.self.vars ≡ l.fn.self.vars;
}

abbrev pub decreases-loop-word : goal.decreases-loop-word
decreases-loop-word g l = length l.rest

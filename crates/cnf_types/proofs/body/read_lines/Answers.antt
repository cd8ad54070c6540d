use Rattle.std.proofs.Common.{◌≡◌, ◌+◌, ◌++◌, false, IsFalse, refl, arith, ◌∙◌, length, sym, ap}
use Rattle.std.specs.List.{list_any}
use Rattle.arc_base.specs.TextLines.{lines}
use Rattle.arc_base.specs.Words.{words}
use Rattle.cnf_types.specs.Progress.{pieces_after}
use Rattle.cnf_types.specs.Dimacs.{content, numbers, is_comment, is_bad_word, line_numbers}
use Rattle.cnf_types.proofs.Content.{pieces_at_first, bad_later, numbers_line}
use Rattle.cnf_types.proofs.body.read_lines.Goals as goal

pub loop-rest-init : goal.loop-rest-init
loop-rest-init g c = record {
  bad = refl;
  pieces_are = λ more. pieces_at_first (g.S.ClauseSink.taken c.args.sink) c.new.result.items
      (numbers c.args.vars (content c.args.before (lines c.args.text.now)) ++ more) c.requires.empty c.new.ensures.items;
  last = refl;
  vars = refl;
  clauses = omega (arith, ap length c.requires.empty);
  size = omega arith;
}

pub loop-rest-preserved-in-Ok : goal.loop-rest-preserved-in-Ok
loop-rest-preserved-in-Ok g c =
    let n = c.loop-rest.line in
    let ls = lines c.first_line.result.1.now in
    let off : is_comment c.first_line.result.0.now ≡ false = sym c.is_comment.ensures ∙ c.if-not-is_comment.true in
    let vars_is : c.loop-rest.body.vars ≡ c.args.vars = c.loop-rest.invariant.vars in
    let fine : IsFalse (list_any (is_bad_word c.args.vars) (words c.without_return.result.now)) = rw vars_is at c.in-Ok.ensures.numbers in
    record {
      bad = bad_later c.args.vars n c.first_line.result.0.now c.without_return.result.now ls
          (lines c.loop-rest.rest.now) c.first_line.ensures.lines off c.without_return.ensures.line fine ∙ c.loop-rest.invariant.bad;
      pieces_are = λ more. let taken : pieces_after (g.S.ClauseSink.taken c.take_words.new.self.sink) c.take_words.new.self.unclosed.items
          (numbers c.args.vars (content (n + 1) ls) ++ more) ≡ pieces_after (g.S.ClauseSink.taken c.loop-rest.body.sink) c.loop-rest.body.unclosed.items
          (line_numbers c.args.vars (words c.without_return.result.now) ++ (numbers c.args.vars (content (n + 1) ls) ++ more)) =
          rw vars_is at (c.in-Ok.ensures.pieces (numbers c.args.vars (content (n + 1) ls) ++ more)) in
          taken ∙ ap (pieces_after (g.S.ClauseSink.taken c.loop-rest.body.sink) c.loop-rest.body.unclosed.items)
          (numbers_line c.args.vars n c.first_line.result.0.now c.without_return.result.now ls
          (lines c.loop-rest.rest.now) more c.first_line.ensures.lines off c.without_return.ensures.line) ∙ c.loop-rest.invariant.pieces_are more;
      last = omega (arith, ap length c.first_line.ensures.lines, c.loop-rest.invariant.last);
      vars = c.in-Ok.ensures.vars ∙ vars_is;
      clauses = omega (arith, c.take_words.ensures.clauses, c.loop-rest.invariant.clauses, c.first_line.ensures.shorter, c.without_return.ensures.shorter);
      size = omega (arith, c.loop-rest.invariant.size, c.first_line.ensures.rest);
    }

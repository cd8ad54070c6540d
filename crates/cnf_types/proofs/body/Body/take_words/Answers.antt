use Rattle.std.proofs.Common.{◌∙◌, ◌++◌, arith, ap}
use Rattle.arc_base.specs.Words.{words}
use Rattle.cnf_types.specs.Dimacs.{line_numbers}
use Rattle.cnf_types.specs.Progress.{pieces_after}
use Rattle.cnf_types.proofs.Content.{good_word, numbers_word}
use Rattle.cnf_types.proofs.body.Body.take_words.Goals as goal

pub loop-word-preserved : goal.loop-word-preserved
loop-word-preserved g c =
    let vars_is = c.loop-word.invariant.vars in
    let taken = rw vars_is at c.in_ok-take_word.ensures in
    record {
      bad = good_word c.args.self.now.vars c.in-Some.word.now (words c.in-Some.after.now) (words c.loop-word.rest.now) c.in-Some.ensures.word taken.number ∙ c.loop-word.invariant.bad;
      pieces = λ more. taken.pieces (line_numbers c.args.self.now.vars (words c.in-Some.after.now) ++ more)
          ∙ ap (pieces_after (g.S.ClauseSink.taken c.loop-word.self.sink) c.loop-word.self.unclosed.items)
          (numbers_word c.args.self.now.vars c.in-Some.word.now (words c.in-Some.after.now) (words c.loop-word.rest.now) more c.in-Some.ensures.word) ∙ c.loop-word.invariant.pieces more;
      clauses = omega (arith, c.loop-word.invariant.clauses, c.in_ok-take_word.ensures.clauses, c.in-Some.ensures.shorter);
      vars = c.in_ok-take_word.ensures.vars ∙ vars_is;
    }

pub returns-clause-pieces : goal.returns-clause-pieces
returns-clause-pieces g c = λ more. rw c.in_default.ensures.none at (c.loop-word.invariant.pieces more)

use Rattle.std.proofs.Common.{◌∙◌, sym, refl}
use Rattle.std.proofs.lemmas.Bool.{false≢true}
use Rattle.cnf_types.proofs.Reading.{counted_wrong, counted_right, sized_large, sized_small}
use Rattle.cnf_types.proofs.dimacs.finish.Goals as goal

pub returns-then-not-is_whole-clause-fault : goal.returns-then-not-is_whole-clause-fault
returns-then-not-is_whole-clause-fault g c =
    sym (counted_wrong c.args.header c.args.last (g.S.ClauseSink.taken c.args.body.sink) c.args.body.unclosed.items (λ whole. false≢true (c.if-not-is_whole.ensures.1 whole)))

pub returns-then-literals-gt-LITERAL_LIMIT-clause-fault : goal.returns-then-literals-gt-LITERAL_LIMIT-clause-fault
returns-then-literals-gt-LITERAL_LIMIT-clause-fault g c =
    let whole = c.if-not-is_whole.ensures.0 refl in
    let clauses = g.S.ClauseSink.taken c.args.body.sink in
    counted_right c.args.header c.args.last clauses c.args.body.unclosed.items whole.0 whole.1
    ∙ sym (sized_large c.args.header.vars clauses c.literal_count-literals.result c.literal_count-literals.ensures c.if-literals-gt-LITERAL_LIMIT.true)

pub returns-clause-formula : goal.returns-clause-formula
returns-clause-formula g c =
    let whole = c.if-not-is_whole.ensures.0 refl in
    let clauses = g.S.ClauseSink.taken c.args.body.sink in
    rw c.requires (counted_right c.args.header c.args.last clauses c.args.body.unclosed.items whole.0 whole.1
    ∙ sym (sized_small c.args.header.vars clauses c.literal_count-literals.result c.literal_count-literals.ensures c.if-literals-gt-LITERAL_LIMIT.false))

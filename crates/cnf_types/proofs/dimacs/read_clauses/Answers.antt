use Rattle.std.proofs.Common.{◌∙◌}
use Rattle.std.proofs.lemmas.Result.{err_from_is_err_and, IfOk-weaker, IfErr-weaker}
use Rattle.arc_base.specs.TextLines.{lines}
use Rattle.cnf_types.proofs.Reading.{too_many, body_fault, whole, fault_is, read_from}
use Rattle.cnf_types.proofs.dimacs.read_clauses.Goals as goal

pub returns-in_err-header-clause-fault : goal.returns-in_err-header-clause-fault
returns-in_err-header-clause-fault g c =
    let p = err_from_is_err_and c.from_residual.result c.from_residual.ensures.1 in
    rw (p.1, p.2) (fault_is c.args.bytes.now c.in_err-header.field-0.0 (read_from c.args.bytes.now _ c.in_err-header.ensures.fault))

pub returns-then-header-gt-VARIABLE_LIMIT-clause-fault : goal.returns-then-header-gt-VARIABLE_LIMIT-clause-fault
returns-then-header-gt-VARIABLE_LIMIT-clause-fault g c =
    too_many c.args.bytes.now c.in_ok-header.header c.in_ok-header.line (lines c.in_ok-header.rest.now) c.in_ok-header.ensures.header c.if-header-gt-VARIABLE_LIMIT.true

pub returns-in_err-body-clause-fault : goal.returns-in_err-body-clause-fault
returns-in_err-body-clause-fault g c =
    let p = err_from_is_err_and c.from_residual-in_err-body.result c.from_residual-in_err-body.ensures.1 in
    rw (p.1, p.2) (body_fault c.args.bytes.now c.in_ok-header.header c.in_ok-header.line
    (lines c.in_ok-header.rest.now) c.in_ok-header.ensures.header c.in_err-body.field-0.0 c.if-header-gt-VARIABLE_LIMIT.false c.in_err-body.ensures.fault)

pub returns-clause-formula : goal.returns-clause-formula
returns-clause-formula g c =
    let is = whole c.args.bytes.now c.in_ok-header.header c.in_ok-header.line (lines c.in_ok-header.rest.now) c.in_ok-header.ensures.header c.in_ok-body.last
    (g.S.ClauseSink.taken c.in_ok-body.body.sink) c.in_ok-body.body.unclosed.items c.if-header-gt-VARIABLE_LIMIT.false c.in_ok-body.ensures.numbers c.in_ok-body.ensures.pieces
    c.in_ok-body.ensures.last c.in_ok-header.ensures.last in
    IfOk-weaker c.finish.result _ _ (λ found e. is ∙ e) c.finish.ensures.formula

pub returns-clause-fault : goal.returns-clause-fault
returns-clause-fault g c =
    let is = whole c.args.bytes.now c.in_ok-header.header c.in_ok-header.line (lines c.in_ok-header.rest.now) c.in_ok-header.ensures.header c.in_ok-body.last
    (g.S.ClauseSink.taken c.in_ok-body.body.sink) c.in_ok-body.body.unclosed.items c.if-header-gt-VARIABLE_LIMIT.false c.in_ok-body.ensures.numbers c.in_ok-body.ensures.pieces
    c.in_ok-body.ensures.last c.in_ok-header.ensures.last in
    IfErr-weaker c.finish.result _ _ (λ fault e. fault_is c.args.bytes.now fault (is ∙ e)) c.finish.ensures.fault

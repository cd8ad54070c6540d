use Rattle.std.proofs.Common.{ℕ, List, ap, ◌∙◌, arith}
use Rattle.condition_formula.specs.Writing.{Adds}
use Rattle.std.proofs.Common.{◌≤◌}
use Rattle.cnf_types.specs.declared.clauses.Formula.{Formula}
use Rattle.cnf_types.specs.declared.clauses.Clause.{Clause}
use Rattle.condition_formula.specs.Formulas.{all_parts, variable_count}
use Rattle.condition_formula.proofs.Adding.{all-written, few_written, many_written}
use Rattle.condition_formula.proofs.formula.encode.Goals as goal

pub returns-then-out-gt-LITERAL_LIMIT-clause-fault : goal.returns-then-out-gt-LITERAL_LIMIT-clause-fault
returns-then-out-gt-LITERAL_LIMIT-clause-fault c =
    let net = c.args.net.now in
    let all : Adds c.make-out.result c.prices.new.out (all_parts net c.args.bound) =
    all-written net c.args.bound c.from.result c.in_ok-next.next c.make-out.result c.questions.new.out c.prices.new.out c.slice.result.now c.slice-2.result.now
    c.slice.ensures.items c.slice-2.ensures.items (c.from.ensures ∙ c.len-edits.ensures)
    c.in_ok-next.ensures.clauses c.in_ok-next.ensures.next c.in_ok-prices.ensures in
    let many = many_written c.make-out.result c.prices.new.out (all_parts net c.args.bound) c.make-out.ensures.literals all c.if-out-gt-LITERAL_LIMIT.true in
    let count : variable_count net c.args.bound ≤ 16777216 = omega (arith, c.variable_count-variables.ensures, c.if-variables-gt-VARIABLE_LIMIT.false) in
    record { variables = count; many = many.0; exact = many.1 }

pub returns-clause-formula : goal.returns-clause-formula
returns-clause-formula c =
    let net = c.args.net.now in
    let all : Adds c.make-out.result c.prices.new.out (all_parts net c.args.bound) =
    all-written net c.args.bound c.from.result c.in_ok-next.next c.make-out.result c.questions.new.out c.prices.new.out c.slice.result.now c.slice-2.result.now
    c.slice.ensures.items c.slice-2.ensures.items (c.from.ensures ∙ c.len-edits.ensures)
    c.in_ok-next.ensures.clauses c.in_ok-next.ensures.next c.in_ok-prices.ensures in
    let few = few_written c.make-out.result c.prices.new.out (all_parts net c.args.bound) c.make-out.ensures.clauses c.make-out.ensures.literals all c.if-out-gt-LITERAL_LIMIT.false in
    c.of.ensures ∙ ap (λ (n : ℕ). let f : Formula = record { vars = n; clauses = c.prices.new.out.clauses } in f) c.variable_count-variables.ensures
    ∙ ap (λ (cs : List Clause). let f : Formula = record { vars = variable_count net c.args.bound; clauses = cs } in f) few.0

pub returns-clause-limits : goal.returns-clause-limits
returns-clause-limits c =
    let net = c.args.net.now in
    let all : Adds c.make-out.result c.prices.new.out (all_parts net c.args.bound) =
    all-written net c.args.bound c.from.result c.in_ok-next.next c.make-out.result c.questions.new.out c.prices.new.out c.slice.result.now c.slice-2.result.now
    c.slice.ensures.items c.slice-2.ensures.items (c.from.ensures ∙ c.len-edits.ensures)
    c.in_ok-next.ensures.clauses c.in_ok-next.ensures.next c.in_ok-prices.ensures in
    let few = few_written c.make-out.result c.prices.new.out (all_parts net c.args.bound) c.make-out.ensures.clauses c.make-out.ensures.literals all c.if-out-gt-LITERAL_LIMIT.false in
    let count : variable_count net c.args.bound ≤ 16777216 = omega (arith, c.variable_count-variables.ensures, c.if-variables-gt-VARIABLE_LIMIT.false) in
    record { variables = count; literals = few.1 }

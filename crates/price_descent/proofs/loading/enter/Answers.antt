use Rattle.std.proofs.Common.{◌∙◌, ◌+◌, List, refl, sym, ap, subst, slice_get, slice_set, true}
use Rattle.cnf_types.specs.declared.clauses.Clause.{Clause}
use Rattle.sat_core.specs.States.{State}
use Rattle.price_descent.specs.Loading.{HasPart}
use Rattle.price_descent.proofs.Parts.{entered, fresh}
use Rattle.price_descent.proofs.loading.enter.Goals as goal

pub add-requires-clause-fresh : goal.add-requires-clause-fresh
add-requires-clause-fresh c =
    let f = c.args.formula.now in
    let place = c.args.place in
    let at = ap (λ (cs : List Clause). slice_get cs place) (sym c.clauses-clauses.ensures) ∙ c.lits.ensures.clause in
    fresh f c.args.there.now c.args.core.now c.requires.part place c.lits.result.now (record { lits = c.lits.result.now }) at refl c.if-there-at.false

pub returns-clause-part : goal.returns-clause-part
returns-clause-part c =
    let f = c.args.formula.now in
    let there = c.args.there.now in
    let place = c.args.place in
    let at = ap (λ (cs : List Clause). slice_get cs place) (sym c.clauses-clauses.ensures) ∙ c.lits.ensures.clause in
    subst (λ (s : State). HasPart f (slice_set there (place + 1) true) s) (sym c.in_ok-add.ensures.ok)
    (entered f there c.args.core.now c.requires.part place c.lits.result.now (record { lits = c.lits.result.now }) at refl c.if-there-at.false)

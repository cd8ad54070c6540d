use Rattle.std.proofs.Common.{ℕ, sym, subst, arith}
use Rattle.price_descent.specs.Prices.{ArePriced}
use Rattle.price_descent.specs.Outcomes.{IsFound}
use Rattle.arc_repair.specs.Search.{flagged_cost}
use Rattle.arc_repair.proofs.Found.{flags_priced, searched}
use Rattle.arc_repair.proofs.searching.cheapest.Goals as goal

pub descend-requires-clause-variables : goal.descend-requires-clause-variables
descend-requires-clause-variables g c =
    let fit = c.formulas_are_searchable.ensures c.args.net.now c.args.doc.now c.args.list.now c.args.bound c.args.encoded.formula c.args.encoded.tops c.requires.valid c.requires.formula in
    λ k d l n e m. let v = fit.clauses k d l n e m in (v.least, v.most)

pub descend-requires-clause-values : goal.descend-requires-clause-values
descend-requires-clause-values g c =
    let fit = c.formulas_are_searchable.ensures c.args.net.now c.args.doc.now c.args.list.now c.args.bound c.args.encoded.formula c.args.encoded.tops c.requires.valid c.requires.formula in
    omega (arith, c.len.ensures, fit.edits_first)

pub descend-requires-clause-range : goal.descend-requires-clause-range
descend-requires-clause-range g c =
    let fit = c.formulas_are_searchable.ensures c.args.net.now c.args.doc.now c.args.list.now c.args.bound c.args.encoded.formula c.args.encoded.tops c.requires.valid c.requires.formula in
    λ k d l. let v = fit.range k d l in record { least = v.least; most = v.most }

pub descend-requires-clause-tops : goal.descend-requires-clause-tops
descend-requires-clause-tops g c =
    let fit = c.formulas_are_searchable.ensures c.args.net.now c.args.doc.now c.args.list.now c.args.bound c.args.encoded.formula c.args.encoded.tops c.requires.valid c.requires.formula in
    fit.one_each

pub descend-requires-clause-priced : goal.descend-requires-clause-priced
descend-requires-clause-priced g c =
    subst (λ (n : ℕ). ArePriced (flagged_cost c.args.doc.now c.args.list.now) c.args.encoded.formula c.args.encoded.tops n c.args.bound) (sym c.len.ensures)
    (flags_priced c.models_are_repairs.ensures c.one_model_serves.ensures c.networks_after_edits_are_valid.ensures.there c.networks_after_edits_are_valid.ensures.valid c.args.net.now
    c.args.doc.now c.args.list.now c.args.bound c.args.encoded.formula
    c.args.encoded.tops c.requires.valid c.requires.countable c.requires.edits c.requires.formula)

pub returns-clause-searched : goal.returns-clause-searched
returns-clause-searched g c =
    searched c.models_are_repairs.ensures c.one_model_serves.ensures c.networks_after_edits_are_valid.ensures.there
    c.networks_after_edits_are_valid.ensures.valid c.args.net.now c.args.doc.now c.args.list.now c.args.bound c.args.encoded.formula
    c.args.encoded.tops c.requires.valid c.requires.countable c.requires.edits c.requires.formula c.args.limit c.requires.bound c.in_ok-found.found
    (subst (λ (n : ℕ). IsFound (flagged_cost c.args.doc.now c.args.list.now) c.args.encoded.formula c.args.encoded.tops n c.args.bound c.args.limit c.in_ok-found.found)
    c.len.ensures c.in_ok-found.ensures.found)

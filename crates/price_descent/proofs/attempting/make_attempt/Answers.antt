use Rattle.std.proofs.Common.{ℕ, List, Some, arith, ap, sym, ◌∙◌}
use Rattle.clean_logs.specs.CleanLogs.{additions}
use Rattle.cnf_types.specs.declared.clauses.Formula.{Formula}
use Rattle.sat_search.specs.Searches.{IsModelOf}
use Rattle.price_descent.proofs.Logs.{zero_allows}
use Rattle.price_descent.proofs.Underway.{if_model, model_searched}
use Rattle.price_descent.proofs.Offers.{offered, bounds_searched, all_accepted}
use Rattle.price_descent.proofs.attempting.make_attempt.Goals as goal

pub returns-in-Refuted-clause-attempt : goal.returns-in-Refuted-clause-attempt
returns-in-Refuted-clause-attempt g c = λ f most lowest priced low was bounds.
    let price = g.P.Prices.price_of c.args.prices.now in
    let tops = c.args.tops.now in
    let e = c.in_ok-search_first.ensures in
    let old = c.args.log.now.steps in
    let new = c.search_first.new.log.steps in
    record {
      lines = e.lines was.positive was.lines;
      bounds = bounds_searched price f tops c.args.count most c.args.core.now.last_id old new bounds e.keeps e.ids;
      comes_to = (all_accepted f tops most lowest old new c.args.core.now was e.keeps e.accepted, e.refuting c.in-Refuted.is);
    }

pub returns-in-Budget-clause-attempt : goal.returns-in-Budget-clause-attempt
returns-in-Budget-clause-attempt g c = λ f most lowest priced low was bounds.
    let price = g.P.Prices.price_of c.args.prices.now in
    let tops = c.args.tops.now in
    let e = c.in_ok-search_first.ensures in
    let old = c.args.log.now.steps in
    let new = c.search_first.new.log.steps in
    record {
      lines = e.lines was.positive was.lines;
      bounds = bounds_searched price f tops c.args.count most c.args.core.now.last_id old new bounds e.keeps e.ids;
      comes_to = e.spent f (Some 0) tops (was.knows (Some 0) (zero_allows lowest)) (was.clean (Some 0) (zero_allows lowest)) c.in-Budget.is;
    }

pub returns-in_ok-offer-in-Model-clause-attempt : goal.returns-in_ok-offer-in-Model-clause-attempt
returns-in_ok-offer-in-Model-clause-attempt g c = λ f most lowest priced low was bounds.
    let price = g.P.Prices.price_of c.args.prices.now in
    let tops = c.args.tops.now in
    let e = c.in_ok-search_first.ensures in
    let old = c.args.log.now.steps in
    let new = c.search_first.new.log.steps in
    let values = c.in-Model.values in
    let before = c.args.core.now in
    let core = c.search_first.new.core in
    let now = model_searched f tops most lowest old new before core was c.in_ok-search_first.field-0 values c.in-Model.is e.keeps e.ids e.few_drops
    e.lines e.clauses e.others e.knows e.last_id e.level e.vars e.clean in
    let is_model = if_model (IsModelOf core) c.in_ok-search_first.field-0 values c.in-Model.is e.model in
    record {
      lines = e.lines was.positive was.lines;
      bounds = bounds_searched price f tops c.args.count most before.last_id old new bounds e.keeps e.ids;
      comes_to = offered price f tops c.args.count most lowest new core priced now low values is_model (omega (arith, was.vars, c.requires.values)) c.in_ok-offer-in-Model.field-0
          c.in_ok-offer-in-Model.ensures.values c.in_ok-offer-in-Model.ensures.price;
    }

pub returns-then-additions-limit-clause-attempt : goal.returns-then-additions-limit-clause-attempt
returns-then-additions-limit-clause-attempt g c = λ f most lowest priced low was bounds. record {
  lines = was.lines;
  bounds = bounds;
  comes_to = (was.clean (Some 0) (zero_allows lowest), ap additions (sym c.slice.ensures.items) ∙ sym c.additions.ensures ∙ c.if-additions-limit.true);
}

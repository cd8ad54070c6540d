use Rattle.std.proofs.Common.{◌≡◌, ℕ, ◌+◌, ◌^◌, ◌∙◌, sym, ap, Some, Bool, true, false, rules, arith, get_or}
use Rattle.std.specs.Prelude.{if◌then◌else◌}
use Rattle.sat_core.proofs.Alike.{told}
use Rattle.sat_search.specs.Costs.{cost_at}
use Rattle.sat_search.proofs.Costs.{costs_other, costs_this}
use Rattle.sat_search.proofs.lemmas.Lemmas.cost.Goals as goal

pub returns-in_default-clause-exact : goal.returns-in_default-clause-exact
returns-in_default-clause-exact c = λ rise.
    let t = told c.args.core.now.clauses c.args.held c.clause.result.now c.clause.ensures.lits in
    sym (costs_other c.args.self.now c.args.used.now c.args.core.now c.args.held c.id-id.result t.lits c.id-id.ensures t.is
    (λ place low at. c.in_default.not-Some place (c.place_of.ensures.found rise place low at)))

pub returns-then-lately-clause-exact : goal.returns-then-lately-clause-exact
returns-then-lately-clause-exact c = λ rise.
    let place = c.in-Some.place in
    let t = told c.args.core.now.clauses c.args.held c.clause.result.now c.clause.ensures.lits in
    let levels : c.unwrap_or-levels.result ≡ get_or c.args.self.now.levels.items place 0 = search rules in
    let lately : get_or c.args.used.now place true ≡ true = search rules in
    let value : c.unwrap_or-levels.result ≡ cost_at c.args.self.now.levels.items c.args.used.now place = omega (arith, levels, ap (λ (b : Bool). if b then 0 else 2 ^ 32) lately) in
    ap (λ (n : ℕ). Some n) value
    ∙ sym (costs_this c.args.self.now c.args.used.now c.args.core.now c.args.held c.id-id.result t.lits c.id-id.ensures t.is place rise
    (omega (arith, c.if-clause-le2.false, t.alike.size)) (c.is_reason.ensures.no c.if-is_reason.false) c.in-Some.ensures.place.0 c.in-Some.ensures.place.1)

pub returns-else-lately-clause-exact : goal.returns-else-lately-clause-exact
returns-else-lately-clause-exact c = λ rise.
    let place = c.in-Some.place in
    let t = told c.args.core.now.clauses c.args.held c.clause.result.now c.clause.ensures.lits in
    let levels : c.unwrap_or-levels.result ≡ get_or c.args.self.now.levels.items place 0 = search rules in
    let lately : get_or c.args.used.now place true ≡ false = search rules in
    let value : c.unwrap_or-levels.result + 2 ^ 32 ≡ cost_at c.args.self.now.levels.items c.args.used.now place = omega (arith, levels, ap (λ (b : Bool). if b then 0 else 2 ^ 32) lately) in
    ap (λ (n : ℕ). Some n) value
    ∙ sym (costs_this c.args.self.now c.args.used.now c.args.core.now c.args.held c.id-id.result t.lits c.id-id.ensures t.is place rise
    (omega (arith, c.if-clause-le2.false, t.alike.size)) (c.is_reason.ensures.no c.if-is_reason.false) c.in-Some.ensures.place.0 c.in-Some.ensures.place.1)

use Rattle.std.proofs.Common.{◌≡◌, Bool, List, sym, subst, arith, Result, Ok, Err, IfOk}
use Rattle.sat_search.specs.Searches.{IsModelOf}
use Rattle.sat_search.proofs.Models.{values_model}
use Rattle.sat_search.proofs.values.values.Goals as goal

model-of : {E : Type 0} (r : Result (List Bool) E) (values : List Bool) (P : List Bool → Type 0) → IfOk r (λ list. list ≡ values) → P values → IfOk r P
model-of (Ok list) values P is p = subst P (sym is) p
model-of (Err e) values P is p = is

pub returns : goal.returns
returns c = model-of c.of.result c.loop-var.values.items (IsModelOf c.args.core.now) c.of.ensures.ok
    (values_model c.args.core.now c.loop-var.values.items c.resting_trails_satisfy.ensures c.requires.sound c.requires.rest c.requires.all_set
    (omega (arith, c.loop-var.invariant.size, c.vars-vars.ensures.value))
    (λ v least most. c.loop-var.invariant.values v least (omega (arith, c.vars-vars.ensures.value, most))))

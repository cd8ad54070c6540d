use Rattle.std.proofs.Common.{◌<◌, ◌^◌, ℕ}
use Rattle.std.proofs.lemmas.List.Elements.{All-rest}
use Rattle.condition_formula.proofs.Adding.{exclusions-step, exclusions-end}
use Rattle.condition_formula.proofs.variables.exclusions.Goals as goal

pub loop-one-preserved : goal.loop-one-preserved
loop-one-preserved c = record {
  small = All-rest (λ (v : ℕ). v < 2 ^ 62) c.in-Some.one.now c.in-Some.others.now c.loop-one.rest.now c.in-Some.ensures.cases.0 c.loop-one.invariant.small;
  rest = exclusions-step c.args.out.now c.loop-one.out c.excludes_each.new.out c.args.variables.now c.loop-one.rest.now c.in-Some.others.now c.in-Some.one.now c.in-Some.ensures.cases.0
      c.in_ok-excludes_each.ensures c.loop-one.invariant.rest;
}

pub returns : goal.returns
returns c = exclusions-end c.args.out.now c.loop-one.out c.args.variables.now c.loop-one.rest.now c.in_default.ensures.cases c.loop-one.invariant.rest

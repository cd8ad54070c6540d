use Rattle.std.proofs.Common.{ℕ, sym, ◌∙◌, arith, below_more}
use Rattle.std.proofs.lemmas.Bool.{false≢true}
use Rattle.reach_commands.specs.PreferRuns.{IsNamed}
use Rattle.reach_commands.proofs.NamedRouters.{unknown_if}
use Rattle.reach_commands.proofs.routers.router_named.Goals as goal

pub loop-place-preserved : goal.loop-place-preserved
loop-place-preserved c =
    below_more (λ (k : ℕ). ¬ IsNamed c.args.net.now c.args.name.now (record { 0 = k })) c.loop-place.place c.loop-place.invariant
    (λ named. false≢true (sym c.if-is_named.false ∙ c.is_named.ensures.1 named))

pub returns-clause-none : goal.returns-clause-none
returns-clause-none c = unknown_if c.args.net.now c.args.name.now c.loop-place.place (omega arith) c.loop-place.invariant

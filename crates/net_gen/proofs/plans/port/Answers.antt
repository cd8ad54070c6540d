use Rattle.std.proofs.Common.{ℕ, ◌+◌, sym, ◌∙◌, ap, arith}
use Rattle.net_gen.specs.Plans.{has_end}
use Rattle.net_gen.proofs.Counted.{length_kept, length_left}
use Rattle.net_gen.proofs.plans.port.Goals.{then-has_end, else-has_end}
use Rattle.net_gen.proofs.plans.port.Goals as goal

pub loop-place-preserved : goal.loop-place-preserved
loop-place-preserved c = elim c.if-has_end.branch [
  | then-has_end w ↦ record {
    counted = w.port-is ∙ ap (λ (n : ℕ). n + 1) c.loop-place.invariant.counted
        ∙ sym (length_kept (has_end c.args.routers c.args.router) c.loop-place.place (sym c.has_end.ensures ∙ w.if-has_end.true));
    few = omega (arith, w.port-is, c.loop-place.invariant.few);
  }
  | else-has_end w ↦ record {
    counted = w.port-is ∙ c.loop-place.invariant.counted ∙ sym (length_left (has_end c.args.routers c.args.router) c.loop-place.place (sym c.has_end.ensures ∙ w.if-has_end.false));
    few = omega (arith, w.port-is, c.loop-place.invariant.few);
  }
]

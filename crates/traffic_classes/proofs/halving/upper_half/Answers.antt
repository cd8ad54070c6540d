use Rattle.std.proofs.Common.{arith, ◌+◌, ◌-◌, ◌^◌, ◌%◌, ℕ, ap, ◌∙◌}
use Rattle.traffic_classes.proofs.Ranges.{upper_clear, upper_below}
use Rattle.traffic_classes.proofs.halving.upper_half.Goals as goal

pub overflow_add-result : goal.overflow_add-result
overflow_add-result c = omega (arith, upper_below c.args.whole.now c.requires, c.half_size.ensures)

pub invariant_of-result : goal.invariant_of-result
invariant_of-result c = record {
  in_range = omega (arith, upper_below c.args.whole.now c.requires, c.half_size.ensures);
  length = omega arith;
  clear = ap (λ (x : ℕ). (c.args.whole.now.addr + x) % 2 ^ (32 - (c.args.whole.now.len + 1))) c.half_size.ensures ∙ upper_clear c.args.whole.now c.requires;
}

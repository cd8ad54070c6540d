use Rattle.std.proofs.Common.{◌≡◌, ℕ, ◌+◌, ◌-◌, ◌*◌, ◌^◌, ◌%◌, ◌<◌, ◌∙◌, arith, refl, ap}
use Rattle.std.proofs.lemmas.Nat.{one_shl}
use Rattle.arc_base.specs.declared.prefix.Prefix.{Prefix}
use Rattle.witness_check.proofs.Halves.{low_is_clear, high_is_clear, high_in_range, halves_of}
use Rattle.witness_check.proofs.boxes.halves.Goals as goal

-- the half's first bit
the_bit : (l : ℕ) → l < 32 → (1 * 2 ^ (32 - (l + 1))) % 2 ^ 32 ≡ 2 ^ (32 - (l + 1))
the_bit l h = one_shl (32 - (l + 1)) 32 (omega arith)

pub overflow_add-high : goal.overflow_add-high
overflow_add-high c = omega (arith, the_bit c.args.whole.len c.requires, high_in_range c.args.whole.addr c.args.whole.len c.requires c.args.whole.in_range c.args.whole.clear)

pub invariant_of-low : goal.invariant_of-low
invariant_of-low c = record {
  in_range = c.args.whole.in_range;
  length = omega (arith, c.requires);
  clear = low_is_clear c.args.whole.addr c.args.whole.len c.requires c.args.whole.clear;
}

pub invariant_of-high : goal.invariant_of-high
invariant_of-high c = record {
  in_range = omega (arith, the_bit c.args.whole.len c.requires, high_in_range c.args.whole.addr c.args.whole.len c.requires c.args.whole.in_range c.args.whole.clear);
  length = omega (arith, c.requires);
  clear = ap (λ x. (c.args.whole.addr + x) % 2 ^ (32 - (c.args.whole.len + 1))) (the_bit c.args.whole.len c.requires)
      ∙ high_is_clear c.args.whole.addr c.args.whole.len c.requires c.args.whole.clear;
}

pub returns-clause-halves : goal.returns-clause-halves
returns-clause-halves c =
    let whole : Prefix = c.args.whole in
    let low : Prefix = record {
      addr = c.args.whole.addr;
      len = c.args.whole.len + 1;
      in_range = c.args.whole.in_range;
      length = omega (arith, c.requires);
      clear = low_is_clear c.args.whole.addr c.args.whole.len c.requires c.args.whole.clear;
    } in
    let high : Prefix = record {
      addr = c.args.whole.addr + (1 * 2 ^ (32 - (c.args.whole.len + 1))) % 2 ^ 32;
      len = c.args.whole.len + 1;
      in_range = omega (arith, the_bit c.args.whole.len c.requires, high_in_range c.args.whole.addr c.args.whole.len c.requires c.args.whole.in_range c.args.whole.clear);
      length = omega (arith, c.requires);
      clear = ap (λ x. (c.args.whole.addr + x) % 2 ^ (32 - (c.args.whole.len + 1))) (the_bit c.args.whole.len c.requires)
          ∙ high_is_clear c.args.whole.addr c.args.whole.len c.requires c.args.whole.clear;
    } in
    halves_of c.args.whole low high c.requires refl refl refl (ap (λ x. c.args.whole.addr + x) (the_bit c.args.whole.len c.requires))

use Rattle.std.proofs.Common.{◌<◌, ℤ, Some, arith, rules, subst, sym, SFits, w64, to_z-of_z}
use Rattle.proof_log.specs.Fronts.{IsFirstNumber}
use Rattle.proof_log.proofs.Fronts.{signed_first}
use Rattle.proof_log.proofs.numbers.front_number.Goals as goal

pub returns : goal.returns
returns c =
    let some : 0 < c.front_digits-value.result.1 = omega arith in
    let fits : SFits w64 c.in_ok-number.number = search rules in
    subst (λ (z : ℤ). IsFirstNumber c.args.line.now (Some z) c.in_ok-after.after.now) (sym (to_z-of_z fits))
    (signed_first c.args.line.now c.after_minus-is_negative.result.1.now c.in_ok-after.after.now c.front_digits-value.result.1 c.front_digits-value.result.0 c.in_ok-number.number
    c.after_minus-is_negative.result.0 c.after_minus-is_negative.ensures.minus c.after_minus-is_negative.ensures.none some c.front_digits-value.ensures.count
    c.front_digits-value.ensures.digits c.front_digits-value.ensures.value c.front_digits-value.ensures.small c.in_ok-number.ensures c.in_ok-after.ensures)

use Rattle.std.proofs.Common.{◌≡◌, ◌≤◌, ◌^◌, ◌*◌, ◌%◌, arith}
use Rattle.std.proofs.Math.Nat.{mod-eq_of_lt, pow-le-pow_right}
use Rattle.ios_words.proofs.printed_words.mask.Goals as goal

pub overflow_sub-result : goal.overflow_sub-result
overflow_sub-result c =
    let s = c.saturating_sub.result in
    let low : s ≤ 32 = let is = c.saturating_sub.ensures in omega (arith, is) in
    let few : 2 ^ s ≤ 2 ^ 32 = pow-le-pow_right {n = 2} (omega arith) {i = s} {j = 32} low in
    let small : 1 * 2 ^ s % 18446744073709551616 ≡ 1 * 2 ^ s = mod-eq_of_lt (omega (arith, few)) in
    omega (arith, small, few)

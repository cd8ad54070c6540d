use Rattle.std.proofs.Common.{◌<◌, ◌-◌, ◌^◌, arith, ◌≡◌, ◌*◌, ◌%◌, ◌∙◌, ap, ℕ}
use Rattle.std.proofs.Math.Nat.{mod-eq_of_lt}
use Rattle.std.proofs.Math.Pow.{pow-lt}
use Rattle.traffic_classes.proofs.halving.half_size.Goals as goal

pub returns : goal.returns
returns c =
    let few : 31 - c.args.len < 32 = omega arith in
    let below : 2 ^ (31 - c.args.len) < 2 ^ 32 = pow-lt few in
    let one : 1 * 2 ^ (31 - c.args.len) ≡ 2 ^ (31 - c.args.len) = omega arith in
    ap (λ (x : ℕ). x % 2 ^ 32) one ∙ mod-eq_of_lt below

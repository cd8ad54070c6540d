use Rattle.std.proofs.Common.{◌≡◌, ◌+◌, ◌*◌, ◌-◌, true, get_or, refl, rules, arith, ap, ◌∙◌}
use Rattle.std.specs.Char.{is_ascii_digit}
use Rattle.std.proofs.lemmas.Bool.Decides.{nat_tests}
use Rattle.proof_log.proofs.Fronts.{digits_more, value_more}
use Rattle.proof_log.proofs.numbers.front_digits.Goals as goal

pub loop-count-preserved : goal.loop-count-preserved
loop-count-preserved c =
    let byte = get_or c.args.bytes.now c.loop-count.count 0 in
    let digit : is_ascii_digit byte ≡ true = search rules in
    let shown : c.from.result ≡ byte - 48 = search rules in
    record {
      digits = digits_more c.args.bytes.now c.loop-count.count byte c.loop-count-test.true refl c.loop-count.invariant.digits digit;
      value = ap (λ d. 10 * c.loop-count.value + d) shown ∙ value_more c.args.bytes.now c.loop-count.count c.loop-count.value byte c.loop-count-test.true refl c.loop-count.invariant.value;
      small = grind (arith, nat_tests, digit, shown);
    }

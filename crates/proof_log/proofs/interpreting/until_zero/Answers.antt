use Rattle.std.proofs.Common.{pos, get_or, arith, rules, sym, ap, ◌∙◌, SFits, w64, to_z-of_z}
use Rattle.cnf_types.specs.Dimacs.{is_zero}
use Rattle.proof_log.proofs.Zeros.{none_before, cut_at, uncut}
use Rattle.proof_log.proofs.interpreting.until_zero.Goals as goal

pub returns-then-is_zero-clause-found : goal.returns-then-is_zero-clause-found
returns-then-is_zero-clause-found c =
    let fits : SFits w64 (get_or c.args.numbers.now c.loop-place.place (pos 0)) = search rules in
    cut_at c.args.numbers.now c.loop-place.place c.loop-place-test.true c.loop-place.invariant (ap is_zero (sym (to_z-of_z fits)) ∙ sym c.is_zero.ensures ∙ c.if-is_zero.true)

pub returns-then-is_zero-clause-free : goal.returns-then-is_zero-clause-free
returns-then-is_zero-clause-free c =
    none_before c.args.numbers.now c.loop-place.place (omega arith) c.loop-place.invariant

pub returns-clause-none : goal.returns-clause-none
returns-clause-none c = uncut c.args.numbers.now (λ k h. c.loop-place.invariant k (omega arith))

use Rattle.std.proofs.Common.{◌≡◌, pos, get_or, unsigned_abs, sym, ap, ◌∙◌, rules, SFits, w64, to_z, of_z, to_z-of_z}
use Rattle.proof_check.specs.declared.left.Left.TheVariants.{One}
use Rattle.proof_check.specs.Propagation.{left, left_of, with_literal}
use Rattle.proof_check.specs.Marks.{is_marked}
use Rattle.proof_check.specs.View.{clause_in}
use Rattle.proof_check.proofs.Chains.{goes_on, not_negative}
use Rattle.proof_check.proofs.hints.follow.Goals as goal

pub loop-place-preserved : goal.loop-place-preserved
loop-place-preserved c =
    let hint = get_or c.args.hints.now c.loop-place.place (pos 0) in
    let fits : SFits w64 hint = search rules in
    let shown = to_z w64 (of_z w64 hint) in
    let hint_is : hint ≡ pos (unsigned_abs shown) = not_negative hint shown (to_z-of_z fits) c.if-hint-lt0.false in
    let left_is : One c.in-One.lit ≡ left_of (left (is_marked c.loop-place.marks) c.in-Some.clause.now) = c.in-One.ensures in
    goes_on (clause_in c.args.live.now) (is_marked c.loop-place.marks) (is_marked c.mark.new.self) c.args.hints.now c.loop-place.place
    (unsigned_abs shown) c.in-Some.clause.now c.in-One.lit c.loop-place-test.true hint_is (sym c.in-Some.ensures) left_is
    (λ m. c.in_ok-mark-in-One.ensures.marked m ∙ ap (λ l. with_literal l (is_marked c.loop-place.marks) m) c.negated.ensures) ∙ c.loop-place.invariant

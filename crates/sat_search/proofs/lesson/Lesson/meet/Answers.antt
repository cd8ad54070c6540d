use Rattle.std.proofs.Common.{◌≡◌, IsSome, IsTrue, subst, sym, ap, ◌∙◌, arith, ℕ}
use Rattle.std.proofs.lemmas.Bool.{eq-eqb, ne_eqb}
use Rattle.std.specs.Prelude.{◌==◌}
use Rattle.cnf_types.specs.Literals.{negated}
use Rattle.sat_core.specs.Trails.{entry_of, is_on}
use Rattle.sat_search.specs.declared.lesson.Lesson.{Lesson}
use Rattle.sat_search.proofs.Counts.{once}
use Rattle.sat_search.proofs.Meeting.{has_entry, count_met, open_few}
use Rattle.sat_search.proofs.lesson.Lesson.meet.Goals as goal
use Rattle.sat_search.proofs.lesson.Lesson.meet.Goals.{then-level, else-level}

pub level_of-level-requires-clause-set : goal.level_of-level-requires-clause-set
level_of-level-requires-clause-set c =
    let off : IsTrue (is_on c.args.core.now.trail (negated c.args.lit)) = sym c.is_false.ensures ∙ c.if-not-is_false.false in
    subst (λ (v : ℕ). IsSome (entry_of c.args.core.now.trail v)) (sym c.var.ensures) (has_entry c.args.core.now c.args.lit c.requires.sound off)

pub overflow_add-self : goal.overflow_add-self
overflow_add-self c =
    let off : IsTrue (is_on c.args.core.now.trail (negated c.args.lit)) = sym c.is_false.ensures ∙ c.if-not-is_false.false in
    let counted = count_met c.args.core.now c.args.lit c.args.marks.now c.mark.new.self c.var.result c.level_of-level.result c.level.result c.args.self.now.current c.requires.sound off
    (sym c.has.ensures ∙ c.if-has.false) c.mark.ensures.marked c.var.ensures c.level_of-level.ensures c.level.ensures c.requires.counted in
    let one : once (c.level_of-level.result == c.level.result) ≡ 1 = ap once (eq-eqb c.level_of-level.result c.level.result c.if-level.true) in
    omega (arith, one, counted, open_few c.args.core.now.level c.args.core.now c.mark.new.self, c.requires.room.few)

pub returns-in_ok-push-clause-counted : goal.returns-in_ok-push-clause-counted
returns-in_ok-push-clause-counted c =
    let off : IsTrue (is_on c.args.core.now.trail (negated c.args.lit)) = sym c.is_false.ensures ∙ c.if-not-is_false.false in
    let counted = count_met c.args.core.now c.args.lit c.args.marks.now c.mark.new.self c.var.result c.level_of-level.result c.level.result c.args.self.now.current c.requires.sound off
    (sym c.has.ensures ∙ c.if-has.false) c.mark.ensures.marked c.var.ensures c.level_of-level.ensures c.level.ensures c.requires.counted in
    elim c.if-level.branch [
      | then-level w ↦
          let one : once (c.level_of-level.result == c.level.result) ≡ 1 = ap once (eq-eqb c.level_of-level.result c.level.result w.if-level.true) in
          omega (arith, ap (λ (l : Lesson). l.current) w.self-is, one, counted)
      | else-level w ↦
          let none : once (c.level_of-level.result == c.level.result) ≡ 0 = ap once (ne_eqb c.level_of-level.result c.level.result w.if-level.false) in
          omega (arith, ap (λ (l : Lesson). l.current) w.self-is, none, counted)
    ]

pub returns-else-level-gt0-clause-counted : goal.returns-else-level-gt0-clause-counted
returns-else-level-gt0-clause-counted c =
    let off : IsTrue (is_on c.args.core.now.trail (negated c.args.lit)) = sym c.is_false.ensures ∙ c.if-not-is_false.false in
    let counted = count_met c.args.core.now c.args.lit c.args.marks.now c.mark.new.self c.var.result c.level_of-level.result c.level.result c.args.self.now.current c.requires.sound off
    (sym c.has.ensures ∙ c.if-has.false) c.mark.ensures.marked c.var.ensures c.level_of-level.ensures c.level.ensures c.requires.counted in
    elim c.if-level.branch [
      | then-level w ↦
          let one : once (c.level_of-level.result == c.level.result) ≡ 1 = ap once (eq-eqb c.level_of-level.result c.level.result w.if-level.true) in
          omega (arith, ap (λ (l : Lesson). l.current) w.self-is, one, counted)
      | else-level w ↦
          let none : once (c.level_of-level.result == c.level.result) ≡ 0 = ap once (ne_eqb c.level_of-level.result c.level.result w.if-level.false) in
          omega (arith, ap (λ (l : Lesson). l.current) w.self-is, none, counted)
    ]

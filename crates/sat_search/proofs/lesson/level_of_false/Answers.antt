use Rattle.std.proofs.Common.{ℕ, IsSome, IsTrue, subst, sym, ◌∙◌}
use Rattle.cnf_types.specs.Literals.{negated}
use Rattle.sat_core.specs.Trails.{entry_of, is_on}
use Rattle.sat_search.proofs.Meeting.{has_entry}
use Rattle.sat_search.proofs.lesson.level_of_false.Goals as goal

pub level_of-requires-clause-set : goal.level_of-requires-clause-set
level_of-requires-clause-set c =
    let off : IsTrue (is_on c.args.core.now.trail (negated c.args.lit)) = sym c.is_false.ensures ∙ c.if-is_false.true in
    subst (λ (v : ℕ). IsSome (entry_of c.args.core.now.trail v)) (sym c.var.ensures) (has_entry c.args.core.now c.args.lit c.requires.sound off)

use Rattle.std.proofs.Common.{ℕ, ◌++◌, ◌<◌, ◌^◌, map, List, All, sym, ap, subst, ◌∙◌}
use Rattle.std.proofs.lemmas.List.Elements.{All-append}
use Rattle.condition_formula.specs.Formulas.{cell}
use Rattle.condition_formula.specs.Reaching.{over_link}
use Rattle.condition_formula.proofs.Adding.{over-more}
use Rattle.condition_formula.proofs.paths.Paths.over_link.Goals as goal

pub loop-number-preserved : goal.loop-number-preserved
loop-number-preserved c =
    let used = cell c.args.self.now.used.first c.args.self.now.used.columns in
    let q = c.args.self.now.q.now in
    let v = λ (item : ℕ × ℕ). used item.0 item.1 in
    record {
      variables = c.in_ok-append.ensures
          ∙ ap (λ (vs : List ℕ). vs ++ c.slice.result.now) c.loop-number.invariant.variables
          ∙ ap (λ (vs : List ℕ). map v (over_link q c.loop-number.number c.args.link) ++ vs)
          (c.slice.ensures.items ∙ c.in_ok-row.ensures.variables ∙ ap (λ (ps : List ℕ). map (used c.loop-number.number) ps) c.requires)
          ∙ sym (over-more q c.args.link c.loop-number.number used);
      small = subst (All (λ (n : ℕ). n < 2 ^ 62)) (sym c.in_ok-append.ensures) (All-append (λ (n : ℕ). n < 2 ^ 62) c.loop-number.variables.items c.slice.result.now
          c.loop-number.invariant.small (subst (All (λ (n : ℕ). n < 2 ^ 62)) (sym c.slice.ensures.items) c.in_ok-row.ensures.small));
    }

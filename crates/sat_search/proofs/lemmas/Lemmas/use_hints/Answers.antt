use Rattle.std.proofs.Common.{◌||◌, ◌∙◌, ap, sym, true, rules, pos, get_or, arith, ℤ, List, SFits, w64, to_z, of_z, to_z-of_z}
use Rattle.std.specs.List.{list_any}
use Rattle.std.proofs.lemmas.List.{take_all}
use Rattle.sat_search.specs.Costs.{is_hint_of, uses}
use Rattle.sat_search.proofs.Using.{set_next}
use Rattle.sat_search.proofs.lemmas.Lemmas.use_hints.Goals as goal

pub loop-hint-preserved : goal.loop-hint-preserved
loop-hint-preserved c =
    let hints = c.slice-hint-items.result.now in
    let at = c.loop-hint.hint-index in
    let fits : SFits w64 (get_or hints at (pos 0)) = search rules in
    record {
      size = c.use_hint.ensures.size ∙ c.loop-hint.invariant.size;
      used = λ rise. set_next c.args.self.now.ids.items is_hint_of hints at (pos 0)
          (to_z w64 (of_z w64 (get_or hints at (pos 0)))) c.args.used.now c.loop-hint.used c.use_hint.new.used c.loop-hint-test.true (to_z-of_z fits) c.loop-hint.invariant.size
          (c.loop-hint.invariant.used rise) (c.use_hint.ensures.used rise);
    }

pub returns-after-loop-hint-clause-used : goal.returns-after-loop-hint-clause-used
returns-after-loop-hint-clause-used c = λ rise place id low at.
    let items = c.slice-hint-items.result.now in
    let all = take_all c.loop-hint.hint-index items (omega (arith, c.loop-hint-test.false)) in
    c.loop-hint.invariant.used rise place id low at
    ∙ ap (λ (hs : List ℤ). get_or c.args.used.now place true || list_any (is_hint_of id) hs) (all ∙ c.slice-hint-items.ensures.items)
    ∙ ap (λ s. get_or c.args.used.now place true || uses id s) (sym c.in-Add.is)

use Rattle.std.proofs.Common.{◌≡◌, ◌∙◌, ℕ, Bool, false, List, length, get_or, ap, sym, arith}
use Rattle.std.proofs.lemmas.List.{get_or_default}
use Rattle.edit_list.specs.declared.edit_kinds.Edit.{Edit}
use Rattle.edit_list.specs.Prices.{chosen_of, price_of}
use Rattle.edit_list.proofs.PriceSteps.{price_more, price_all}
use Rattle.edit_list.proofs.prices.price.Goals as goal

pub loop-place-preserved : goal.loop-place-preserved
loop-place-preserved c =
    let edits : List Edit = c.slice-edit-items.result.now in
    let flags : List Bool = c.args.chosen.now in
    let i : ℕ = c.loop-place.place in
    let same : length flags ≡ length edits = c.requires ∙ ap length (sym c.slice-edit-items.ensures.items) in
    let flag : Bool = get_or flags i false in
    record {
      sum =
          price_more c.args.doc.now.weights edits flags i c.edit-item.result flag c.loop-place.sum c.from-sum.result c.loop-place-test.true same c.edit-item.is
          (get_or_default flags i false flag (omega (arith, c.loop-place-test.true, same))) (c.from-sum.ensures ∙ c.cost.ensures) c.loop-place.invariant.sum;
      small = omega (arith, c.loop-place.invariant.small, c.from-sum.ensures, c.cost.type_inv);
    }

pub returns : goal.returns
returns c =
    let edits : List Edit = c.slice-edit-items.result.now in
    let flags : List Bool = c.args.chosen.now in
    price_all c.args.doc.now.weights edits flags c.loop-place.place c.loop-place.sum c.loop-place-test.false
    (c.requires ∙ ap length (sym c.slice-edit-items.ensures.items)) c.loop-place.invariant.sum ∙
    ap (λ l. price_of c.args.doc.now.weights (chosen_of l flags)) c.slice-edit-items.ensures.items

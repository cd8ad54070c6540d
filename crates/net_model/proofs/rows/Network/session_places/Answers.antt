use Rattle.std.proofs.Common.{◌≡◌, ℕ, ◌+◌, ◌<◌, Option, None, List, length, get_or, ap, sym, ◌∙◌, subst}
use Rattle.net_model.specs.declared.rows.SessionRow.{SessionRow}
use Rattle.net_model.proofs.SessionPlaces.{IsFirst, kept, written_back}
use Rattle.net_model.proofs.rows.Network.session_places.Goals as goal

pub loop-place-preserved : goal.loop-place-preserved
loop-place-preserved c =
    let xs : List SessionRow = c.args.self.now.sessions in
    let i : ℕ = c.loop-place.place in
    let new : List (Option ℕ) = c.keep_first.new.places in
    let old : List (Option ℕ) = c.loop-place.places.items in
    let same : length new ≡ length old = c.keep_first.ensures.len ∙ ap length c.deref_mut.ensures.value in
    subst (λ (ys : List (Option ℕ)). (k : ℕ) → k < length ys → IsFirst xs (i + 1) k (get_or ys k None))
    (sym (written_back new old c.loop-place.places.len (c.loop-place.places.ok.0 ∙ sym same)))
    (kept xs c.slice-session-items.result.now i _ old c.deref_mut.result.now new c.slice-session-items.ensures.items c.deref_mut.ensures.value
    c.loop-place-test.true c.loop-place.invariant c.keep_first.ensures.len c.keep_first.ensures.each)

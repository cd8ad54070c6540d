use Rattle.std.proofs.Common.{◌++◌, ◌∷◌, [], ◌<◌, ◌+◌, length, get_or, drop, cond, false, ap, ◌∙◌, arith}
use Rattle.policy_report.specs.Lines.{after_spaces}
use Rattle.policy_report.specs.Reports.{router_side_words}
use Rattle.policy_report.proofs.Appends.{one_more, side_next}
use Rattle.policy_report.proofs.words.push_side.Goals as goal

pub loop-place-preserved : goal.loop-place-preserved
loop-place-preserved c =
    let i = c.loop-place.place in
    let router = c.index-routers-place.result in
    let within : i < length c.args.routers.now = omega arith in
    one_more _ c.loop-place.text.items c.push_if.new.text.items
    (cond (get_or c.args.side.now i false) (32 ∷ (get_or c.args.routers.now i router).name) [])
    (after_spaces (router_side_words (drop (i + 1) c.args.routers.now) (drop (i + 1) c.args.side.now))) _
    c.loop-place.invariant (side_next c.args.routers.now c.args.side.now i router within)
    (c.in_ok-push_if.ensures ∙ ap (λ b. c.loop-place.text.items ++ cond b (32 ∷ c.bytes.result.now) []) c.is_on.ensures
    ∙ ap (λ n. c.loop-place.text.items ++ cond (get_or c.args.side.now i false) (32 ∷ n) []) (c.bytes.ensures ∙ ap (λ r. r.name) c.index-routers-place.is))

use Rattle.std.proofs.Common.{◌≡◌, ℕ, List, [], ◌∷◌, ◌++◌, ap, ◌∙◌, codes}
use Rattle.std.proofs.lemmas.Result.{on_ok_weaker}
use Rattle.ios_lines.specs.Written.{spaced}
use Rattle.ios_words.specs.Printed.{route_words, sequence_words}
use Rattle.ios_words.proofs.Pushes.{more, top-and}
use Rattle.ios_words.proofs.printing.print_prefix_line.Goals as goal

pub returns : goal.returns
returns c =
    let start : List ℕ = c.args.text.now.items in
    let top : List ℕ = c.push_top.new.text.items in
    let name : List ℕ = c.args.name.now in
    let order = sequence_words c.args.order in
    let route = route_words c.args.entry.now in
    let first : top ≡ start ++ (codes "ip prefix-list" ++ spaced (name ∷ [])) =
    c.in_ok-push_top.ensures ∙ ap (λ (w : List ℕ). start ++ (codes "ip prefix-list" ++ spaced (w ∷ []))) c.bytes.ensures in
    on_ok_weaker c.push_route.result
    (λ is. top-and start top _ (codes "ip prefix-list") (name ∷ []) (order ++ route) first (more _ _ _ order route c.in_ok-push_sequence.ensures is))
    c.push_route.ensures

use Rattle.std.proofs.Common.{◌≡◌, List, Option, ℕ, ◌+◌, take, subst, sym, ◌∙◌, ap}
use Rattle.std.proofs.lemmas.List.{take_all}
use Rattle.ios_words.specs.declared.commands.Command.{Command}
use Rattle.ios_config.specs.declared.settings.Given.{Given}
use Rattle.ios_config.specs.Least.{FindsLeast}
use Rattle.ios_config.specs.Rising.{FallsAt, rises}
use Rattle.ios_config.specs.Texts.{entry_number}
use Rattle.ios_config.proofs.Falls.{least_falls, least_rises}
use Rattle.ios_config.proofs.rising.first_in_list.Goals as goal
use Rattle.ios_config.proofs.rising.first_in_list.Goals.{then-not-rises, else-not-rises}

pub loop-place-preserved : goal.loop-place-preserved
loop-place-preserved c =
    let e = c.index-entries-place.result in
    let l = c.index-entries-place-in-loop-place.result in
    let xs = c.args.entries.now in
    let p = c.loop-place.place in
    let number : c.entry_number-earlier.result ≡ entry_number e.value =
    c.entry_number-earlier.ensures ∙ ap (λ (g : Given Command). entry_number g.value) (sym c.index-entries-place.is) in
    let test : c.rises.result ≡ rises (entry_number e.value) (entry_number l.value) =
    c.rises.ensures ∙ ap (λ (n : Option ℕ). rises n c.entry_number.result) number ∙
    ap (λ (n : Option ℕ). rises (entry_number e.value) n) c.entry_number.ensures in
    elim c.if-not-rises.branch [
      | then-not-rises w ↦ subst (FindsLeast (FallsAt (take (p + 1) xs))) (sym (w.found-is ∙ w.lesser-found.ensures))
          (least_falls xs p e l c.loop-place.auto.place c.loop-place-test.true c.index-entries-place.is c.index-entries-place-in-loop-place.is
          c.loop-place.found (sym test ∙ w.if-not-rises.true) c.loop-place.invariant)
      | else-not-rises w ↦ subst (FindsLeast (FallsAt (take (p + 1) xs))) (sym w.found-is)
          (least_rises xs p e l c.loop-place.auto.place c.loop-place-test.true c.index-entries-place.is c.index-entries-place-in-loop-place.is
          c.loop-place.found (sym test ∙ w.if-not-rises.false) c.loop-place.invariant)
    ]

pub returns : goal.returns
returns c = subst (λ (l : List (Given Command)). FindsLeast (FallsAt l) c.loop-place.found) (take_all c.loop-place.place c.args.entries.now c.loop-place-test.false) c.loop-place.invariant

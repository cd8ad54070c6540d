use Rattle.std.proofs.Common.{◌≡◌, ◌∙◌, sym, ap, subst, List, [], ℕ, Some}
use Rattle.command_words.specs.Values.{link_numbers}
use Rattle.command_words.proofs.LinkNumbers.{following, words_of, word_cut, whole_word, none_before, number_more, number_none, number_last, rest_shorter}
use Rattle.command_words.proofs.values.links.Goals as goal

pub loop-word-init : goal.loop-word-init
loop-word-init c =
    let P : List ℕ → Type 0 = λ ns. link_numbers c.args.text.now ≡ following ns (link_numbers c.args.text.now) in
    subst P (sym c.new-numbers.ensures.items) (none_before (link_numbers c.args.text.now))

pub returns-in-None : goal.returns-in-None
returns-in-None c =
    let cut = word_cut c.loop-word.rest.now c.in-Some.word.now c.in-Some.after.now (sym c.in-Some.ensures) in
    sym (c.loop-word.invariant ∙ number_none c.loop-word.rest.now c.in-Some.word.now (words_of c.in-Some.after.now) c.loop-word.numbers.items cut (sym c.in-None.ensures))

pub loop-word-smaller : goal.loop-word-smaller
loop-word-smaller c = rest_shorter c.loop-word.rest.now c.in-Some.word.now c.in-Some.after.now (sym c.in-Some.ensures)

pub loop-word-preserved : goal.loop-word-preserved
loop-word-preserved c =
    let cut = word_cut c.loop-word.rest.now c.in-Some.word.now c.in-Some.after.now (sym c.in-Some.ensures) in
    let P : List ℕ → Type 0 = λ ns. link_numbers c.args.text.now ≡ following ns (link_numbers c.in-Some.after.now) in
    subst P (sym c.in_ok-push-in-Some-link_number.ensures.items)
    (c.loop-word.invariant ∙ number_more c.loop-word.rest.now c.in-Some.word.now c.in-Some.after.now c.loop-word.numbers.items c.in-Some-link_number.number cut (sym c.in-Some-link_number.ensures))

pub returns-in-None-link_number : goal.returns-in-None-link_number
returns-in-None-link_number c =
    let whole = whole_word c.loop-word.rest.now (sym c.in_default.ensures) in
    sym (c.loop-word.invariant ∙ number_none c.loop-word.rest.now c.loop-word.rest.now [] c.loop-word.numbers.items whole (sym c.in-None-link_number.ensures))

pub returns : goal.returns
returns c =
    let whole = whole_word c.loop-word.rest.now (sym c.in_default.ensures) in
    ap Some (c.in_ok-of.ensures.ok ∙ c.in_ok-push-in-Some-link_number-2.ensures.items) ∙
    sym (c.loop-word.invariant ∙ number_last c.loop-word.rest.now c.loop-word.numbers.items c.in-Some-link_number-2.number whole (sym c.in-Some-link_number-2.ensures))

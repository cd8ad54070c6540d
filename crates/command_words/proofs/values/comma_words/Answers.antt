use Rattle.std.proofs.Common.{◌≡◌, ◌∙◌, ◌++◌, ◌∷◌, [], append_assoc, sym, ap, List, ℕ}
use Rattle.command_words.specs.Values.{comma_words}
use Rattle.command_words.proofs.LinkNumbers.{word_cut, whole_word, rest_shorter}
use Rattle.command_words.proofs.values.comma_words.Goals as goal

-- one word more
more : (all words word rest after : List (List ℕ)) → all ≡ words ++ rest → rest ≡ word ++ after → all ≡ (words ++ word) ++ after
more all words word rest after before cut = before ∙ ap (λ (ws : List (List ℕ)). words ++ ws) cut ∙ sym (append_assoc words word after)

pub loop-word-smaller : goal.loop-word-smaller
loop-word-smaller c = rest_shorter c.loop-word.rest.now c.in-Some.word.now c.in-Some.after.now (sym c.in-Some.ensures)

pub loop-word-preserved : goal.loop-word-preserved
loop-word-preserved c =
    let cut = word_cut c.loop-word.rest.now c.in-Some.word.now c.in-Some.after.now (sym c.in-Some.ensures) in
    more (comma_words c.args.text.now) c.loop-word.words.items (c.in-Some.word.now ∷ []) (comma_words c.loop-word.rest.now) (comma_words c.in-Some.after.now) c.loop-word.invariant cut
    ∙ ap (λ (ws : List (List ℕ)). ws ++ comma_words c.in-Some.after.now)
    (sym (c.in_ok-push.ensures.items ∙ ap (λ (w : List ℕ). c.loop-word.words.items ++ w ∷ []) c.in_ok-make.ensures))

pub returns : goal.returns
returns c =
    let whole = whole_word c.loop-word.rest.now (sym c.in_default.ensures) in
    c.in_ok-of.ensures.ok
    ∙ (c.in_ok-push-2.ensures.items ∙ ap (λ (w : List ℕ). c.loop-word.words.items ++ w ∷ []) c.in_ok-make-2.ensures)
    ∙ sym (c.loop-word.invariant ∙ ap (λ (ws : List (List ℕ)). c.loop-word.words.items ++ ws) whole)

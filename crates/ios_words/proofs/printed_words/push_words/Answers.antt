use Rattle.std.proofs.Common.{◌≡◌, ◌∷◌, ◌++◌, List, ℕ, [], map, take, refl, ap, ◌∙◌, arith}
use Rattle.std.proofs.lemmas.List.{take_all}
use Rattle.std.specs.List.{flat_map}
use Rattle.ios_lines.specs.Written.{spaced}
use Rattle.ios_words.specs.declared.printed_words.Word.{Word}
use Rattle.ios_words.specs.Views.{text_of}
use Rattle.ios_words.proofs.printed_words.push_words.Goals as goal

spaced-map : (ws : List Word) → flat_map (λ (w : Word). 32 ∷ text_of w) ws ≡ spaced (map text_of ws)
spaced-map [] = refl
spaced-map (w ∷ ws) = ap (λ rest. (32 ∷ text_of w) ++ rest) (spaced-map ws)

pub returns : goal.returns
returns c =
    let words : List Word = c.args.words.now in
    let all : take c.loop-word.word-index words ≡ words = take_all c.loop-word.word-index words (omega (arith, c.loop-word-test.false)) in
    c.loop-word.invariant ∙ ap (λ (ws : List Word). c.args.text.now.items ++ flat_map (λ (w : Word). 32 ∷ text_of w) ws) all ∙ ap (λ (l : List ℕ). c.args.text.now.items ++ l) (spaced-map words)

use Rattle.std.proofs.Common.{◌≡◌, ◌∷◌, ◌++◌, take}
use Rattle.std.specs.List.{flat_map}
use Rattle.ios_words.specs.declared.printed_words.Word.{Word}
use Rattle.ios_words.specs.Views.{text_of}
use Rattle.ios_words.proofs.printed_words.push_words.Given as goal

abbrev pub invariant-loop-word : goal.invariant-loop-word
invariant-loop-word l = l.text.items ≡ l.fn.text.items ++ flat_map (λ (w : Word). 32 ∷ text_of w) (take l.word-index l.words)

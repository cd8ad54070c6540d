use Rattle.std.proofs.Common.{◌≡◌, map, take, drop}
use Rattle.std.specs.List.{list_all}
use Rattle.std.specs.Str.{is_utf8}
use Rattle.command_words.proofs.reading.texts_of.Given as goal

abbrev pub invariant-loop-word : goal.invariant-loop-word
invariant-loop-word l = record {
  same : map (λ s. s.now) l.texts.items ≡ take l.word-index l.words;
  left : list_all is_utf8 l.words ≡ list_all is_utf8 (drop l.word-index l.words);
}

use Rattle.std.proofs.Common.{◌≡◌, map, drop}
use Rattle.ios_words.specs.Readings.{match_words}
use Rattle.ios_words.specs.Rows.{piece_of}
use Rattle.ios_words.specs.Views.{words_of}
use Rattle.ios_words.proofs.matching.matches.Given as goal

abbrev pub invariant-loop-part : goal.invariant-loop-part
invariant-loop-part l = match_words (map piece_of l.fn.parts) (words_of l.fn.words) ≡ match_words (map piece_of (drop l.part-index l.parts)) (words_of l.left)

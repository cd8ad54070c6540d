-- The spans of words after the first.
use Rattle.std.proofs.Common.{ℕ, ◌-◌, List, length, take, drop}
use Rattle.std.proofs.lemmas.List.Elements.{All-drop, All-take}
use Rattle.arc_base.specs.declared.span.Span.{Span}
use Rattle.ios_lines.specs.Texts.{LiesInText}
use Rattle.ios_words.specs.Spans.{LieIn}

-- those after the first lie in the text
pub rest_lies : (text : List ℕ) (spans : List Span) → LieIn text spans → LieIn text (take (length spans - 1) (drop 1 spans))
rest_lies text spans lie = All-take (LiesInText text) (length spans - 1) (drop 1 spans) (All-drop (LiesInText text) 1 spans lie)

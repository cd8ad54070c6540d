-- The words of a line, where they lie in a text.
use Rattle.std.specs.Prelude.{ℕ, List, map, All}
use Rattle.arc_base.specs.declared.span.Span.{Span}
use Rattle.ios_lines.specs.declared.line.Line.{Line}
use Rattle.ios_lines.specs.Texts.{part, LiesInText}

-- the spans lie in the text
abbrev pub LieIn : List ℕ → List Span → Type 0
LieIn text spans = All (LiesInText text) spans

-- the parts of the text that the spans cover
abbrev pub words_at : List ℕ → List Span → List (List ℕ)
words_at text spans = map (part text) spans

-- the words of a line of the text
abbrev pub line_words : List ℕ → Line → List (List ℕ)
line_words text line = words_at text line.words

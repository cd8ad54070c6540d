use Rattle.std.proofs.Common.{◌-◌, ◌≤◌, ◌++◌, List}
use Rattle.arc_base.specs.declared.span.Span.{Span}
use Rattle.ios_lines.specs.Words.{AreWords}
use Rattle.ios_lines.proofs.words.word_spans.Given as goal

abbrev pub invariant-loop-word : goal.invariant-loop-word
invariant-loop-word l = record {
  after : l.from ≤ l.at;
  within : l.at ≤ l.to;
  words : (rest : List Span) → AreWords l.bytes l.at l.to rest → AreWords l.bytes l.from l.to (l.words.items ++ rest);
}

abbrev pub decreases-loop-word : goal.decreases-loop-word
decreases-loop-word l = l.to - l.at

use Rattle.std.proofs.Common.{◌≡◌, ◌+◌, ◌++◌, drop}
use Rattle.arc_recheck.specs.Texts.{alone_lines}
use Rattle.arc_recheck.proofs.texts.push_alone_lines.Given as goal

-- what is there and what is still to be put are the whole
abbrev pub invariant-loop-place : goal.invariant-loop-place
invariant-loop-place l =
    l.text.items ++ alone_lines (l.place + 1) (drop l.place l.alone) ≡ l.fn.text.items ++ alone_lines 1 l.alone

use Rattle.std.proofs.Common.{◌≡◌, ◌+◌, ◌++◌, drop}
use Rattle.arc_recheck.specs.Texts.{rechecked_texts}
use Rattle.arc_recheck.proofs.texts.push_blocks.Given as goal

-- what is there and what is still to be put are the whole
abbrev pub invariant-loop-place : goal.invariant-loop-place
invariant-loop-place l =
    l.text.items ++ rechecked_texts (l.place + 1) l.net (drop l.place l.policies) (drop l.place l.rechecked) ≡ l.fn.text.items ++ rechecked_texts 1 l.net l.policies l.rechecked

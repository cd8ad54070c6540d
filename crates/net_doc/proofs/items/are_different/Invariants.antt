use Rattle.std.proofs.Common.{◌≡◌, true, map, take}
use Rattle.net_doc.specs.Documents.{are_different}
use Rattle.net_doc.proofs.items.are_different.Given as goal

abbrev pub invariant-loop-name : goal.invariant-loop-name
invariant-loop-name l = record {
  seen : map (λ key. key.now) l.seen.keys ≡ take l.name-index l.names;
  different : are_different (take l.name-index l.names) ≡ true;
}

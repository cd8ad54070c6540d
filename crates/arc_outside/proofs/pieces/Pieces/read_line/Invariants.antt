use Rattle.std.proofs.Common.{◌≤◌, ◌≡◌, ◌+◌, ◌-◌, ◌^◌, length}
use Rattle.std.specs.Prelude.{IfSome, min}
use Rattle.arc_outside.specs.Lines.{IsUnbroken}
use Rattle.arc_outside.specs.LinesRead.{ahead}
use Rattle.arc_outside.proofs.LineByLine.{StandsAfter}
use Rattle.arc_outside.proofs.pieces.Pieces.read_line.Given as goal

abbrev pub invariant-pieces : goal.invariant-pieces
invariant-pieces g l = record {
  told : IfSome (g.S.Store.held l.fn.store) (λ files. StandsAfter (files l.name) l.fn.self l.self.window l.self.place l.self.line.items);
  unbroken : IsUnbroken l.self.line.items;
  ahead : l.self.limit - l.self.place + length l.self.window + length l.self.line.items ≡ ahead l.fn.self;
  same : g.S.Store.held l.store ≡ g.S.Store.held l.fn.store;
  limit : l.self.limit ≡ l.fn.self.limit;
  kept : l.self.failed ≡ l.fn.self.failed;
  onward : l.fn.self.place ≤ l.self.place;
  took : min (g.S.Store.taken l.fn.store + (l.self.place - l.fn.self.place)) (2 ^ 64 - 1) ≤ g.S.Store.taken l.store;
  no_more : g.S.Store.taken l.store ≤ g.S.Store.taken l.fn.store + (l.self.place - l.fn.self.place);
  faults : g.S.Store.faults l.store ≡ g.S.Store.faults l.fn.store;
  absences : g.S.Store.absences l.store ≡ g.S.Store.absences l.fn.store;
}

abbrev pub decreases-pieces : goal.decreases-pieces
decreases-pieces g l = l.self.limit - l.self.place

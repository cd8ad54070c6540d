use Rattle.std.proofs.Common.{ℕ, ◌+◌, ◌<◌, IsTrue}
use Rattle.price_descent.specs.Loading.{HasPart, is_there}
use Rattle.price_descent.proofs.loading.enter_all.Given as goal

abbrev pub invariant-loop-place : goal.invariant-loop-place
invariant-loop-place l = record {
  part : HasPart l.formula l.there l.core;
  there : (place : ℕ) → place < l.place → IsTrue (is_there l.there (place + 1));
}

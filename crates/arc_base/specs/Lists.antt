-- Lists of any items.
use Rattle.std.specs.Prelude.{◌≢◌, List, AllPairs}

-- no item occurs twice
abbrev pub AreDistinct : {X : Type 0} → List X → Type 0
AreDistinct xs = AllPairs (λ x y. x ≢ y) xs

-- How many paths are asked for, and that no link occurs twice in them.
use Rattle.std.specs.Prelude.{◌≡◌, ◌≢◌, ℕ, ◌+◌, List, Contains, AllPairs}
use Rattle.arc_base.specs.declared.place.Link.{Link}
use Rattle.net_model.specs.Forwarding.{Ends, source_router, target_router}

-- the count is one more than links may fail, or 0 where both ends are at one router
abbrev pub IsFullCount : Ends → ℕ → ℕ → Type 0
IsFullCount ends k count =
    (source_router ends ≢ target_router ends → count ≡ k + 1) ×
    (source_router ends ≡ target_router ends → count ≡ 0)

-- the two links are different
abbrev pub AreApart : Link → Link → Type 0
AreApart l m = l ≢ m

-- no link of these occurs twice among them or among the others
abbrev pub StandOnce : List Link → List Link → Type 0
StandOnce links others =
    AllPairs AreApart links × ((l : Link) → Contains links l → Contains others l → ⊥)

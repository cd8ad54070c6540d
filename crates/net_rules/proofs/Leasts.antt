-- The least lines, found item by item.
use Rattle.std.proofs.Common.{◌≡◌, ℕ, ◌+◌, ◌<◌, ◌≤◌, inl, inr, Option, List, length, get_or, take, subst}
use Rattle.std.specs.Prelude.{Any}
use Rattle.std.proofs.lemmas.List.{take_all}
use Rattle.ios_config.specs.Least.{FindsLeast, lesser}
use Rattle.ios_config.proofs.Least.{least_same, Either, least_either}
use Rattle.net_rules.proofs.Anys.{Any-before, Any-now, Any-either}

module _ {X : Type 0} (P : ℕ → X → Type 0) (xs : List X) where
  -- the lines of the first n items
  abbrev pub LinesTo : ℕ → ℕ → Type 0
  LinesTo n line = Any (P line) (take n xs)

  pub least_more : (n : ℕ) (x : X) (found more : Option ℕ) → n < length xs → x ≡ get_or xs n x → FindsLeast (LinesTo n) found → FindsLeast (λ line. P line x) more →
      FindsLeast (LinesTo (n + 1)) (lesser found more)
  least_more n x found more within is before now =
      least_same (Either (LinesTo n) (λ line. P line x)) (LinesTo (n + 1)) (lesser found more) (λ line. joined line) (λ line. Any-either (P line) xs n x within is)
      (least_either (LinesTo n) (λ line. P line x) found more before now)
    where
      joined : (line : ℕ) → Either (LinesTo n) (λ line. P line x) line → LinesTo (n + 1) line
      joined line (inl h) = Any-before (P line) xs n x within is h
      joined line (inr h) = Any-now (P line) xs n x within is h

  pub least_all : (n : ℕ) (found : Option ℕ) → length xs ≤ n → FindsLeast (LinesTo n) found → FindsLeast (λ line. Any (P line) xs) found
  least_all n found past least = subst (λ (l : List X). FindsLeast (λ line. Any (P line) l) found) (take_all n xs past) least

-- Numbers of which no two files may give the same, file by file.
use Rattle.std.proofs.Common.{◌≡◌, ℕ, Option, Some, None, List, [], ◌∷◌, ◌++◌, take, refl, sym, subst, arith}
use Rattle.std.specs.Prelude.{Any, Contains, IsSomeAnd}
use Rattle.ios_config.specs.declared.settings.Config.{Config}
use Rattle.ios_config.specs.declared.settings.Given.{Given}
use Rattle.ios_config.specs.Least.{IsLeast}
use Rattle.net_rules.specs.Routers.{GivesNumber, Repeats}
use Rattle.net_checks.specs.Growing.{IsGiven, AddsGiven}
use Rattle.net_checks.proofs.Grown.{one_added}

-- a new number was added
pub number_added : (old new : List ℕ) (given : Option (Given ℕ)) (g : Given ℕ) → given ≡ Some g → ¬ Contains old g.value → new ≡ old ++ g.value ∷ [] → AddsGiven old new given None
number_added old new given g is lacks grown =
    let more = one_added old new g.value grown in
    subst (λ (o : Option (Given ℕ)). AddsGiven old new o None) (sym is)
    (λ n has there. lacks (subst (λ (m : ℕ). Contains old m) (sym has) there), more.0, more.1, λ n has. subst (λ (m : ℕ). Contains new m) has more.2)

module _ (number_of : Config → Option (Given ℕ)) (items : List Config) (n : ℕ) (config : Config) (old new : List ℕ)
    (held : (m : ℕ) → Contains old m → Any (GivesNumber number_of m) (take n items)) (holds : (m : ℕ) → Any (GivesNumber number_of m) (take n items) → Contains old m) where
  pub own_number : AddsGiven old new (number_of config) None → (line : ℕ) → ¬ Repeats number_of items n config line
  own_number adds line bad = by (number_of config) adds.0 bad
    where
      by : (o : Option (Given ℕ)) → ((m : ℕ) → IsGiven o m → ¬ Contains old m) → ¬ IsSomeAnd o (λ g. (line ≡ g.line) × Any (GivesNumber number_of g.value) (take n items))
      by None lacks bad = absurd bad
      by (Some g) lacks bad = lacks g.value refl (holds g.value bad.1)

  pub other_number : (line : ℕ) → AddsGiven old new (number_of config) (Some line) → IsLeast (Repeats number_of items n config) line
  other_number line (g, same, at_line, there) =
      let Bad : ℕ → Option (Given ℕ) → Type 0 = λ m o. IsSomeAnd o (λ h. (m ≡ h.line) × Any (GivesNumber number_of h.value) (take n items)) in
      record {
        has = subst (λ (o : Option (Given ℕ)). Bad line o) (sym same) (at_line, held g.value there);
        least = λ m bad. let at_g : Bad m (Some g) = subst (λ (o : Option (Given ℕ)). Bad m o) same bad in omega (arith, at_line, at_g.0);
      }

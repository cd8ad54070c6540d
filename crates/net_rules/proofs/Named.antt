-- Routers with names, file by file.
use Rattle.std.proofs.Common.{◌≡◌, ℕ, zero, suc, ◌+◌, ◌<◌, Option, Some, None, List, [], ◌∷◌, ◌++◌, length, get_or, take, refl, sym, ◌∙◌, ap, subst, arith}
use Rattle.std.specs.Prelude.{IsSome, IsSomeAnd, MatchOption, Any, All, Contains, map}
use Rattle.std.specs.Option.{option_map_or}
use Rattle.ios_config.specs.declared.settings.Config.{Config}
use Rattle.ios_config.specs.declared.settings.Setting.{Setting}
use Rattle.std.proofs.lemmas.Bool.{false≢true}
use Rattle.std.proofs.lemmas.List.{take_more, map-append}
use Rattle.std.proofs.lemmas.List.Elements.{All-contains, All-push}
use Rattle.ios_config.specs.Least.{IsLeast}
use Rattle.net_rules.specs.Sites.{host_name}
use Rattle.arc_base.proofs.Items.{from_map}
use Rattle.net_rules.specs.Routers.{NamesRouter, HasNoOwnName}

-- the file gives its router a name
abbrev pub IsNamed : Config → Type 0
IsNamed config = IsSome config.hostname

-- the name is among those of the routers exactly where one of them is given it
pub among : (name : List ℕ) (configs : List Config) → Any (NamesRouter name) configs → Contains (map host_name configs) name
among name [] (k, x, l, e, p) = absurd (omega (arith, l))
among name (c ∷ configs) (zero, x, l, e, p) = (0, omega arith, gives c (subst (λ (d : Config). NamesRouter name d) (sym e) p))
  where
    gives : (c : Config) → NamesRouter name c → host_name c ≡ name
    gives c h = by c.hostname h
      where
        by : (o : Option Setting) → IsSomeAnd o (λ s. s.name ≡ name) → option_map_or (λ (s : Setting). s.name) o [] ≡ name
        by None h = absurd h
        by (Some s) h = h
among name (c ∷ configs) (suc k, x, l, e, p) =
    let later : Contains (map host_name configs) name = among name configs (k, x, omega (arith, l), e, p) in
    (suc later.0, omega (arith, later.1), later.2)

-- what is the name of a file that has one is its router's name
pub named_so : (config : Config) (name : List ℕ) → IsNamed config → host_name config ≡ name → NamesRouter name config
named_so config name is same = by config.hostname is same
  where
    by : (o : Option Setting) → IsSome o → option_map_or (λ (s : Setting). s.name) o [] ≡ name → IsSomeAnd o (λ s. s.name ≡ name)
    by None is same = absurd (false≢true is)
    by (Some s) is same = same

-- and the other way round, where each has a name
pub from_among : (name : List ℕ) (configs : List Config) → All IsNamed configs → Contains (map host_name configs) name → Any (NamesRouter name) configs
from_among name configs named there =
    let found : (config : Config) × Contains configs config × (host_name config ≡ name) = from_map host_name configs name there in
    (found.1.0, found.0, found.1.1, found.1.2, named_so found.0 name (All-contains IsNamed configs found.0 named found.1) found.2)

-- what the addition of a name says
abbrev pub AddsName : List (List ℕ) → List (List ℕ) → Option Setting → Option ℕ → Type 0
AddsName old new given found = MatchOption found
    (IsSomeAnd given (λ s. (¬ Contains old s.name) × (new ≡ old ++ s.name ∷ [])))
    (λ line. MatchOption given (line ≡ 0) (λ s. (line ≡ s.line) × Contains old s.name))

module _ (items : List Config) (n : ℕ) (config : Config) (within : n < length items) (is : config ≡ get_or items n config) (old new : List (List ℕ))
    (names : old ≡ map host_name (take n items)) (named : All IsNamed (take n items)) where
  grown : take (n + 1) items ≡ take n items ++ config ∷ []
  grown = take_more items n config within ∙ ap (λ (c : Config). take n items ++ c ∷ []) (sym is)

  pub names_more : AddsName old new config.hostname None → new ≡ map host_name (take (n + 1) items)
  names_more adds = by config.hostname refl adds ∙ sym (ap (map host_name) grown ∙ map-append host_name (take n items) (config ∷ []))
    where
      by : (o : Option Setting) → config.hostname ≡ o → AddsName old new o None → new ≡ map host_name (take n items) ++ host_name config ∷ []
      by None e adds = absurd adds
      by (Some s) e adds =
          let is_name : s.name ≡ host_name config = ap (λ (o : Option Setting). option_map_or (λ (s : Setting). s.name) o []) (sym e) in
          adds.1 ∙ ap (λ (l : List (List ℕ)). l ++ s.name ∷ []) names ∙ ap (λ (name : List ℕ). map host_name (take n items) ++ name ∷ []) is_name

  pub named_more : AddsName old new config.hostname None → All IsNamed (take (n + 1) items)
  named_more adds = subst (λ (l : List Config). All IsNamed l) (sym grown) (All-push IsNamed (take n items) config named (by config.hostname adds))
    where
      by : (o : Option Setting) → AddsName old new o None → IsSome o
      by None adds = absurd adds
      by (Some s) adds = refl

  pub own_name : AddsName old new config.hostname None → (line : ℕ) → ¬ HasNoOwnName items n config line
  own_name adds line bad = by config.hostname adds bad
    where
      by : (o : Option Setting) → AddsName old new o None → ¬ MatchOption o (line ≡ 0) (λ s. (line ≡ s.line) × Any (NamesRouter s.name) (take n items))
      by None adds bad = absurd adds
      by (Some s) adds bad = adds.0 (subst (λ (l : List (List ℕ)). Contains l s.name) (sym names) (among s.name (take n items) bad.1))

  pub other_name : (line : ℕ) → AddsName old new config.hostname (Some line) → IsLeast (HasNoOwnName items n config) line
  other_name line adds = by config.hostname adds
    where
      by : (o : Option Setting) → AddsName old new o (Some line) → IsLeast (λ m. MatchOption o (m ≡ 0) (λ s. (m ≡ s.line) × Any (NamesRouter s.name) (take n items))) line
      by None adds = record { has = adds; least = λ m bad. omega (arith, adds, bad) }
      by (Some s) adds = record {
        has = (adds.0, from_among s.name (take n items) named (subst (λ (l : List (List ℕ)). Contains l s.name) names adds.1));
        least = λ m bad. omega (arith, adds.0, bad.0);
      }

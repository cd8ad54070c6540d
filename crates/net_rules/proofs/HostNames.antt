-- Where no name of a router is refused, each router has one, and no two the same.
use Rattle.std.proofs.Common.{◌≡◌, ◌≢◌, ℕ, zero, suc, ◌+◌, ◌<◌, Option, Some, None, List, [], ◌∷◌, get_or, take, refl, sym, ◌∙◌, ap, subst, arith}
use Rattle.std.specs.Prelude.{All, AllPairs, Any, IsSome, MatchOption, slice_get}
use Rattle.std.specs.Option.{option_map_or}
use Rattle.std.proofs.lemmas.Bool.{false≢true}
use Rattle.std.proofs.lemmas.Option.{slice_get-get_or, slice_get_within, get_or_from_slice_get, none-some}
use Rattle.arc_base.specs.declared.refusal.Kind.TheVariants as kinds
use Rattle.ios_config.specs.declared.settings.Config.{Config}
use Rattle.ios_config.specs.declared.settings.Setting.{Setting}
use Rattle.net_rules.specs.Sites.{host_name}
use Rattle.net_rules.specs.Reasons.{NoRefusal}
use Rattle.net_rules.specs.Routers.{NamesRouter, HasNoOwnName, RefusesHostname}
use Rattle.net_rules.proofs.Named.{IsNamed, named_so}

-- an item before a place is among those before it
pub earlier : {X : Type 0} (xs : List X) (i j : ℕ) (x : X) → i < j → slice_get xs i ≡ Some x → slice_get (take j xs) i ≡ Some x
earlier [] i j x h at = absurd (none-some x at)
earlier (y ∷ xs) i zero x h at = absurd (omega (arith, h))
earlier (y ∷ xs) zero (suc j) x h at = at
earlier (y ∷ xs) (suc i) (suc j) x h at = earlier xs i j x (omega arith) at

module _ (configs : List Config) (clear : NoRefusal (RefusesHostname configs)) where
  own : (k : ℕ) (config : Config) → slice_get configs k ≡ Some config → (line : ℕ) → ¬ HasNoOwnName configs k config line
  own k config at line bad =
      clear (record { file = k + 1; number = line; kind = kinds.Hostname }) (record { place = k; item = config; at_place = at; number = line; offends = bad; told = refl })

  named_at : (k : ℕ) (config : Config) → slice_get configs k ≡ Some config → IsNamed config
  named_at k config at = by config.hostname (own k config at)
    where
      by : (o : Option Setting) → ((line : ℕ) → ¬ MatchOption o (line ≡ 0) (λ s. (line ≡ s.line) × Any (NamesRouter s.name) (take k configs))) → IsSome o
      by None none = absurd (none 0 refl)
      by (Some s) none = refl

  pub all_named : All IsNamed configs
  all_named i d l = named_at i (get_or configs i d) (slice_get-get_or configs i d l)

  pub hosts_differ : AllPairs (λ f g. host_name f ≢ host_name g) configs
  hosts_differ i j d l m same = by (get_or configs j d).hostname refl (named_at j (get_or configs j d) (slice_get-get_or configs j d m))
    where
      at_i : slice_get configs i ≡ Some (get_or configs i d)
      at_i = slice_get-get_or configs i d (omega arith)

      at_j : slice_get configs j ≡ Some (get_or configs j d)
      at_j = slice_get-get_or configs j d m

      by : (o : Option Setting) → (get_or configs j d).hostname ≡ o → IsSome o → ⊥
      by None e is = absurd (false≢true is)
      by (Some s) e is =
          let name : host_name (get_or configs j d) ≡ s.name = ap (λ (o : Option Setting). option_map_or (λ (t : Setting). t.name) o []) e in
          let before : slice_get (take j configs) i ≡ Some (get_or configs i d) = earlier configs i j (get_or configs i d) l at_i in
          let some : Any (NamesRouter s.name) (take j configs) = (
            i,
            get_or configs i d,
            slice_get_within (take j configs) i (get_or configs i d) before,
            get_or_from_slice_get (take j configs) i (get_or configs i d) (get_or configs i d) before,
            named_so (get_or configs i d) s.name (named_at i (get_or configs i d) at_i) (same ∙ name),
          ) in
          let Bad : Option Setting → Type 0 = λ o. MatchOption o (s.line ≡ 0) (λ t. (s.line ≡ t.line) × Any (NamesRouter t.name) (take j configs)) in
          own j (get_or configs j d) at_j s.line (subst Bad (sym e) (refl, some))

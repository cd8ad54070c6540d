-- What the index of a process keeps, line by line.
use Rattle.std.proofs.Common.{◌≡◌, ℕ, ◌⊎◌, inl, inr, Bool, true, false, cond, Option, Some, None, List, [], refl, sym, ◌∙◌, ap, subst, ◌↔◌}
use Rattle.std.specs.Prelude.{Any, if◌then◌else◌}
use Rattle.std.specs.Option.{option_or}
use Rattle.std.proofs.lemmas.Option.{none-some, same_Some}
use Rattle.arc_base.specs.Addresses.{Holds}
use Rattle.arc_base.specs.declared.prefix.Prefix.{Prefix}
use Rattle.arc_base.proofs.Items.{Contains-none}
use Rattle.ios_words.specs.declared.commands.Command.{Command}
use Rattle.ios_words.specs.declared.commands.Command.TheVariants as commands
use Rattle.ios_config.specs.declared.settings.Given.{Given}
use Rattle.net_rules.specs.Settings.{CommandCovers}
use Rattle.net_rules.specs.Prefixes.{HasPrefix, HasPrefixOf}
use Rattle.row_making.specs.Indexes.{told_prefix, covered_prefix}
use Rattle.net_rules.proofs.Gathered.{gathered_none}

-- before any line
pub no_prefixes : (P : Prefix → Given Command → Type 0) (keys : List (ℕ × ℕ)) → keys ≡ [] → (p : Prefix) → HasPrefix keys p ↔ Any (P p) []
no_prefixes P keys is p = gathered_none (P p) (HasPrefix keys p) (λ h. Contains-none (p.addr, p.len) (subst (λ (l : List (ℕ × ℕ)). HasPrefix l p) is h))

-- the prefix of one more line, if it has one
pub found_added : (old new : List (ℕ × ℕ)) (found : Option Prefix) (p : Prefix) → found ≡ Some p → ((q : Prefix) → HasPrefix new q ↔ (HasPrefix old q ⊎ (p ≡ q))) →
    (q : Prefix) → HasPrefix new q ↔ (HasPrefix old q ⊎ (found ≡ Some q))
found_added old new found p is grown q = (λ h. to ((grown q).0 h), λ h. (grown q).1 (from h))
  where
    to : HasPrefix old q ⊎ (p ≡ q) → HasPrefix old q ⊎ (found ≡ Some q)
    to (inl h) = inl h
    to (inr e) = inr (is ∙ ap Some e)

    from : HasPrefix old q ⊎ (found ≡ Some q) → HasPrefix old q ⊎ (p ≡ q)
    from (inl h) = inl h
    from (inr e) = inr (same_Some p q (sym is ∙ e))

pub none_added : (old : List (ℕ × ℕ)) (found : Option Prefix) → found ≡ None → (q : Prefix) → HasPrefix old q ↔ (HasPrefix old q ⊎ (found ≡ Some q))
none_added old found is q = (λ h. inl h, λ h. from h)
  where
    from : HasPrefix old q ⊎ (found ≡ Some q) → HasPrefix old q
    from (inl h) = h
    from (inr e) = absurd (none-some q (sym is ∙ e))

told_from : (command : Command) (p : Prefix) → told_prefix command ≡ Some p → command ≡ commands.Tells p
told_from (commands.Tells q) p e = ap commands.Tells (same_Some q p e)
told_from other p e = absurd (none-some p e)

-- the prefixes that commands tell
pub told_where : (lines : List (Given Command)) (p : Prefix) → Any (λ (g : Given Command). told_prefix g.value ≡ Some p) lines ↔ Any (λ (g : Given Command). g.value ≡ commands.Tells p) lines
told_where lines p = (λ h. (h.0, h.1, h.2, h.3, told_from h.1.value p h.4), λ h. (h.0, h.1, h.2, h.3, ap told_prefix h.4))

-- the addresses that a command covers
covers_from : (address : ℕ) (command : Command) → CommandCovers address command → (p : Prefix) × (covered_prefix command ≡ Some p) × Holds p address
covers_from address (commands.Covers prefix area) h = (prefix, refl, h)
covers_from address other h = absurd h

covers_to : (address : ℕ) (command : Command) (p : Prefix) → covered_prefix command ≡ Some p → Holds p address → CommandCovers address command
covers_to address (commands.Covers prefix area) p e h = subst (λ (q : Prefix). Holds q address) (sym (same_Some prefix p e)) h
covers_to address other p e h = absurd (none-some p e)

-- one of the prefixes holds an address where one of the lines covers it
pub covered_where : (lines : List (Given Command)) (keys : List (ℕ × ℕ)) (address : ℕ) → ((p : Prefix) → HasPrefix keys p ↔ Any (λ (g : Given Command). covered_prefix g.value ≡ Some p) lines) →
    HasPrefixOf keys address ↔ Any (λ (g : Given Command). CommandCovers address g.value) lines
covered_where lines keys address are = (λ h. to h, λ h. from h)
  where
    to : HasPrefixOf keys address → Any (λ (g : Given Command). CommandCovers address g.value) lines
    to (p, has, holds) = let at = (are p).0 has in (at.0, at.1, at.2, at.3, covers_to address at.1.value p at.4 holds)

    from : Any (λ (g : Given Command). CommandCovers address g.value) lines → HasPrefixOf keys address
    from (k, g, l, e, h) = let found = covers_from address g.value h in (found.0, (are found.0).1 (k, g, l, e, found.1), found.2)

-- what is said of one interface comes before what was said
pub named_first : (b on : Bool) (before all : Option Bool) → option_or (cond b (Some on) before) all ≡ option_or (if b then Some on else None) (option_or before all)
named_first true on before all = refl
named_first false on before all = refl

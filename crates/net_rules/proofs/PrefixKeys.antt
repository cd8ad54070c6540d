-- Prefixes in an index: their keys, and one more prefix.
use Rattle.std.proofs.Common.{◌≡◌, ℕ, ◌+◌, ◌<◌, ◌⊎◌, inl, inr, List, ap, subst, Bool, IsTrue, ◌↔◌, arith}
use Rattle.std.proofs.lemmas.Bool.{cases_lt}
use Rattle.std.specs.Prelude.{Contains}
use Rattle.std.specs.List.{list_any}
use Rattle.indexmap.specs.IndexSet.{insert_key}
use Rattle.arc_base.specs.Addresses.{Holds}
use Rattle.arc_base.specs.declared.prefix.Prefix.{Prefix}
use Rattle.arc_base.proofs.SamePrefix.{same_prefix}
use Rattle.net_rules.specs.Settings.{IsPrefixAt}
use Rattle.net_rules.specs.Prefixes.{HasPrefix}
use Rattle.net_rules.proofs.PlainKeys.{has_key, keys_added, same_parts, same_parts-Decides}
use Rattle.net_rules.proofs.SameRows.{one_prefix}

abbrev pub key_of : Prefix → ℕ × ℕ
key_of p = (p.addr, p.len)

same_key : (p q : Prefix) → key_of p ≡ key_of q → p ≡ q
same_key p q same = same_prefix p q (ap (λ (k : ℕ × ℕ). k.0) same) (ap (λ (k : ℕ × ℕ). k.1) same)

-- the answer of a look-up
pub prefix_found : (keys : List (ℕ × ℕ)) (p : Prefix) (found : Bool) → found ≡ list_any (same_parts (key_of p)) keys → IsTrue found ↔ HasPrefix keys p
prefix_found keys p found is = has_key same_parts same_parts-Decides keys (key_of p) found is

-- the prefixes after one was added
pub prefix_added : (old new : List (ℕ × ℕ)) (p q : Prefix) → new ≡ insert_key same_parts old (key_of p) → HasPrefix new q ↔ (HasPrefix old q ⊎ (p ≡ q))
prefix_added old new p q grown = (λ h. to (added.0 h), λ h. added.1 (from h))
  where
    added : Contains new (key_of q) ↔ (Contains old (key_of q) ⊎ (key_of p ≡ key_of q))
    added = keys_added same_parts same_parts-Decides old new (key_of p) (key_of q) grown

    to : HasPrefix old q ⊎ (key_of p ≡ key_of q) → HasPrefix old q ⊎ (p ≡ q)
    to (inl h) = inl h
    to (inr e) = inr (same_key p q e)

    from : HasPrefix old q ⊎ (p ≡ q) → HasPrefix old q ⊎ (key_of p ≡ key_of q)
    from (inl h) = inl h
    from (inr e) = inr (ap key_of e)

-- where the one prefix of a length that holds an address is not among the keys, no prefix up to that length is
pub shorter_lack : (keys : List (ℕ × ℕ)) (address n : ℕ) (q : Prefix) → IsPrefixAt address n q → ¬ HasPrefix keys q → ((p : Prefix) → p.len < n → Holds p address → ¬ HasPrefix keys p) →
    (p : Prefix) → p.len < n + 1 → Holds p address → ¬ HasPrefix keys p
shorter_lack keys address n q at_q lacks before p short holds has = elim (cases_lt p.len n) [
  | inl less ↦ before p less holds has
  | inr not_less ↦
      let long : p.len ≡ n = omega (arith, short, not_less) in
      lacks (subst (λ (r : Prefix). HasPrefix keys r) (one_prefix address n p q (long, holds) at_q) has)
]

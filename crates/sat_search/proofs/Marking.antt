-- Marked literals, as they are marked and unmarked.
use Rattle.std.proofs.Common.{◌≡◌, ◌≢◌, ℕ, ◌+◌, ◌<◌, Bool, true, false, ◌&&◌, ◌||◌, not, IsTrue, ◌⊎◌, inl, inr, List, [], ◌∷◌, ◌++◌, length, take, get_or, refl, ap, sym, ◌∙◌}
use Rattle.std.proofs.lemmas.List.{take_more}
use Rattle.std.proofs.lemmas.Bool.{or_cases, or_left, or_right, and_from, and_parts, and_right, both_ways, not_from_false, not_from_true, false_from_ne_true, cases_eq}
use Rattle.cnf_types.specs.declared.literal.Lit.{Lit}
use Rattle.cnf_types.specs.Literals.{negated}
use Rattle.proof_check.specs.Propagation.{same, is_among}
use Rattle.sat_core.specs.declared.assigned.Assigned.{Assigned}
use Rattle.sat_core.specs.Trails.{is_on}
use Rattle.sat_core.specs.Placed.{AreAlike}
use Rattle.sat_search.specs.Passes.{is_marked, IsCleared, IsJoined}
use Rattle.sat_search.proofs.Literals.{same-eq, eq-same, same_code}
use Rattle.sat_search.proofs.Among.{among_contains, among_push, contains_among, same_test}

-- literals are one or apart
pub one_or_apart : (l m : Lit) → (l ≡ m) ⊎ (l ≢ m)
one_or_apart l m = elim (cases_eq l.code m.code) [ inl is ↦ inl (same_code l m is) | inr other ↦ inr (λ e. other (ap (λ (x : Lit). x.code) e)) ]

pub apart_same : (l m : Lit) → m ≢ l → same l m ≡ false
apart_same l m apart = false_from_ne_true (same l m) (λ h. apart (sym (same-eq l m h)))

module _ (old new : List Bool) (l : Lit) (cleared : IsCleared old new l) where
  pub cleared_off : is_marked new l ≡ false
  cleared_off = cleared l ∙ and_right (is_marked old l) (not (same l l)) (not_from_true (same l l) (eq-same l l refl))

  and-true : (a b : Bool) → b ≡ true → (a && b) ≡ a
  and-true true b e = e
  and-true false b e = refl

  pub cleared_other : (m : Lit) → m ≢ l → is_marked new m ≡ is_marked old m
  cleared_other m apart = cleared m ∙ and-true (is_marked old m) (not (same l m)) (not_from_false (same l m) (apart_same l m apart))

  pub cleared_was : (m : Lit) → IsTrue (is_marked new m) → IsTrue (is_marked old m)
  cleared_was m h = (and_parts (is_marked old m) (not (same l m)) (sym (cleared m) ∙ h)).0

  pub cleared_apart : (m : Lit) → IsTrue (is_marked new m) → m ≢ l
  cleared_apart m h e = both_ways (is_marked new m) (ap (is_marked new) e ∙ cleared_off) h

module _ (trail : List Assigned) (old new : List Bool) (lits : List Lit) (joined : IsJoined trail old new lits) where
  pub joined_cases : (m : Lit) → IsTrue (is_marked new m) → IsTrue (is_marked old m) ⊎ (IsTrue (is_among lits m) × IsTrue (is_on trail (negated m)))
  joined_cases m h = elim (or_cases (is_marked old m) (is_among lits m && is_on trail (negated m)) (sym (joined m) ∙ h)) [
    | inl was ↦ inl was
    | inr more ↦ inr (and_parts (is_among lits m) (is_on trail (negated m)) more)
  ]

  pub joined_old : (m : Lit) → IsTrue (is_marked old m) → IsTrue (is_marked new m)
  joined_old m h = joined m ∙ or_left (is_marked old m) (is_among lits m && is_on trail (negated m)) h

  pub joined_new : (m : Lit) → IsTrue (is_among lits m) → IsTrue (is_on trail (negated m)) → IsTrue (is_marked new m)
  joined_new m among off = joined m ∙ or_right (is_marked old m) (is_among lits m && is_on trail (negated m)) (and_from (is_among lits m) (is_on trail (negated m)) among off)

-- the literals of a clause one by one
two-joined : (o a k f : Bool) → ((o || (a && f)) || ((k || false) && f)) ≡ (o || ((a || k) && f))
two-joined true a k f = refl
two-joined false true k true = refl
two-joined false true true false = refl
two-joined false true false false = refl
two-joined false false true f = refl
two-joined false false false f = refl

pub joined_next : (trail : List Assigned) (old new more : List Bool) (lits : List Lit) (i : ℕ) (d l : Lit) → i < length lits → get_or lits i d ≡ l →
    IsJoined trail old new (take i lits) → IsJoined trail new more (l ∷ []) → IsJoined trail old more (take (i + 1) lits)
joined_next trail old new more lits i d l low here joined next m =
    next m ∙ ap (λ b. b || ((same l m || false) && is_on trail (negated m))) (joined m)
    ∙ two-joined (is_marked old m) (is_among (take i lits) m) (same l m) (is_on trail (negated m))
    ∙ ap (λ b. is_marked old m || (b && is_on trail (negated m)))
    (sym (ap (λ (ls : List Lit). is_among ls m) (take_more lits i d low ∙ ap (λ (x : Lit). take i lits ++ x ∷ []) here) ∙ among_push (take i lits) l m))

-- the same literals are joined alike
pub joined_alike : (trail : List Assigned) (old new : List Bool) (lits of : List Lit) → AreAlike lits of → IsJoined trail old new of → IsJoined trail old new lits
joined_alike trail old new lits of alike joined m =
    joined m ∙ ap (λ b. is_marked old m || (b && is_on trail (negated m)))
    (same_test (is_among of m) (is_among lits m) (λ h. among_contains lits m (alike.back m (contains_among of m h))) (λ h. among_contains of m (alike.there m (contains_among lits m h))))

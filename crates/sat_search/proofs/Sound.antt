-- What a sound trail says of its entries by their places.
use Rattle.std.proofs.Common.{◌≡◌, ℕ, zero, suc, ◌+◌, ◌<◌, ◌≤◌, Bool, true, false, IsTrue, inl, inr, List, [], ◌∷◌}
use Rattle.std.proofs.Common.{◌++◌, length, take, drop, slice_get, refl, ap, sym, ◌∙◌, subst, arith, Option, Some, None, IfSome, IsSomeAnd, cond}
use Rattle.std.specs.Prelude.{is_none, nat_le}
use Rattle.std.proofs.lemmas.Bool.{cases_order, or_cases, or_left, or_right, false≢true, both_ways, le-leb, leb-true}
use Rattle.std.proofs.lemmas.Option.{none-some, same_Some, slice_get_within, get_or_from_slice_get}
use Rattle.std.proofs.lemmas.List.{take-take, take-append-drop, take_more, take_all}
use Rattle.std.proofs.lemmas.List.Sums.{sum_by-append, sum_by-cons}
use Rattle.cnf_types.specs.declared.literal.Lit.{Lit}
use Rattle.cnf_types.specs.Literals.{negated, variable}
use Rattle.proof_check.specs.Propagation.{same}
use Rattle.sat_core.specs.declared.assigned.Assigned.{Assigned}
use Rattle.sat_core.specs.declared.assigned.Held.{Held}
use Rattle.sat_core.specs.declared.numbered.Numbered.{Numbered}
use Rattle.sat_core.specs.Trails.{is_on, up_to, decisions, clause_at, IsTrail, MayFollow, Implies, IsUnset}
use Rattle.sat_search.proofs.Literals.{one_variable, same-eq, eq-same}
use Rattle.sat_search.proofs.Trails.{AreDistinct, on_take}

-- a list around one of its places
pub split_at : {X : Type 0} (xs : List X) (i : ℕ) (x : X) → slice_get xs i ≡ Some x → xs ≡ take i xs ++ x ∷ drop (suc i) xs
split_at [] i x at = absurd (none-some x at)
split_at (y ∷ ys) zero x at = ap (λ z. z ∷ ys) (same_Some y x at)
split_at (y ∷ ys) (suc i) x at = ap (λ zs. y ∷ zs) (split_at ys i x at)

-- one entry more
pub take_entry : {X : Type 0} (xs : List X) (i : ℕ) (x : X) → slice_get xs i ≡ Some x → take i xs ++ x ∷ [] ≡ take (i + 1) xs
take_entry xs i x at = ap (λ y. take i xs ++ y ∷ []) (sym (get_or_from_slice_get xs i x x at)) ∙ sym (take_more xs i x (slice_get_within xs i x at))

module _ (clauses : List Numbered) (vars : ℕ) (trail : List Assigned) (level : ℕ) (sound : IsTrail clauses vars trail level) where
  pub entry_follows : (i : ℕ) (a : Assigned) → slice_get trail i ≡ Some a → MayFollow clauses vars (take i trail) a
  entry_follows i a at = sound.entries (take i trail) (drop (suc i) trail) a (split_at trail i a at)

  entry_unset : (i j : ℕ) (a b : Assigned) → slice_get trail i ≡ Some a → slice_get trail j ≡ Some b → i < j → variable a.lit ≡ variable b.lit → ⊥
  entry_unset i j a b at to before e =
      let unset : IsUnset (is_on (take j trail)) b.lit = (entry_follows j b to).unset in
      let on : IsTrue (is_on (take j trail) a.lit) = on_take trail j i a at before in
      elim (one_variable a.lit b.lit e) [
        | inl is ↦ both_ways (is_on (take j trail) b.lit) unset.not_true (subst (λ (l : Lit). IsTrue (is_on (take j trail) l)) is on)
        | inr is ↦ both_ways (is_on (take j trail) (negated b.lit)) unset.not_false (subst (λ (l : Lit). IsTrue (is_on (take j trail) l)) is on)
      ]

  -- no variable is assigned twice
  pub distinct_entries : AreDistinct trail
  distinct_entries i j a b at to e = elim (cases_order i j) [
    | inl is ↦ is
    | inr (inl less) ↦ absurd (entry_unset i j a b at to less e)
    | inr (inr more) ↦ absurd (entry_unset j i b a to at more (sym e))
  ]

  -- the level of an entry counts the decisions up to it
  pub entry_level : (i : ℕ) (a : Assigned) → slice_get trail i ≡ Some a → a.level ≡ decisions (take (i + 1) trail)
  entry_level i a at = (entry_follows i a at).level ∙ ap decisions (take_entry trail i a at)

  decisions_rise : (m n : ℕ) → m ≤ n → decisions (take m trail) ≤ decisions (take n trail)
  decisions_rise m n up =
      let parts : take n trail ≡ take m trail ++ drop m (take n trail) = sym (take-append-drop m (take n trail)) ∙ ap (λ (xs : List Assigned). xs ++ drop m (take n trail)) (take-take m n trail up) in
      let sum : decisions (take n trail) ≡ decisions (take m trail) + decisions (drop m (take n trail)) =
      ap decisions parts ∙ sum_by-append (λ (e : Assigned). cond (is_none e.reason) 1 0) (take m trail) (drop m (take n trail)) in
      omega (arith, sum)

  -- levels rise along the trail
  pub levels_rise : (i j : ℕ) (a b : Assigned) → slice_get trail i ≡ Some a → slice_get trail j ≡ Some b → i ≤ j → a.level ≤ b.level
  levels_rise i j a b at to up = omega (arith, entry_level i a at, entry_level j b to, decisions_rise (i + 1) (j + 1) (omega arith))

  -- and are at most the trail's
  pub level_most : (i : ℕ) (a : Assigned) → slice_get trail i ≡ Some a → a.level ≤ level
  level_most i a at =
      let low : i < length trail = slice_get_within trail i a at in
      omega (arith, entry_level i a at, decisions_rise (i + 1) (length trail) (omega arith), ap decisions (take_all (length trail) trail (omega arith)), sound.levels)

  -- a decision is the first entry of its level, which is not 0
  decision_count : (i : ℕ) (a : Assigned) → slice_get trail i ≡ Some a → a.reason ≡ None → a.level ≡ decisions (take i trail) + 1
  decision_count i a at none =
      let f : Assigned → ℕ = λ e. cond (is_none e.reason) 1 0 in
      let one : f a ≡ 1 = ap (λ (o : Option Held). cond (is_none o) 1 0) none in
      omega (arith, (entry_follows i a at).level, sum_by-append f (take i trail) (a ∷ []), sum_by-cons f a [], one)

  pub decision_rises : (i : ℕ) (a : Assigned) → slice_get trail i ≡ Some a → a.reason ≡ None → 1 ≤ a.level
  decision_rises i a at none = omega (arith, decision_count i a at none)

  pub decision_first : (i j : ℕ) (a b : Assigned) → slice_get trail i ≡ Some a → a.reason ≡ None → slice_get trail j ≡ Some b → j < i → b.level < a.level
  decision_first i j a b at none to before = omega (arith, decision_count i a at none, entry_level j b to, decisions_rise (j + 1) i (omega arith))

  -- the reason of an entry that is no decision
  reason-clause : (i : ℕ) (a : Assigned) (h : Held) (o : Option Held) → o ≡ Some h →
      IfSome o (λ g. IsSomeAnd (clause_at clauses g) (λ lits. Implies (take i trail) lits a.lit)) → IsSomeAnd (clause_at clauses h) (λ lits. Implies (take i trail) lits a.lit)
  reason-clause i a h None e r = absurd (none-some h e)
  reason-clause i a h (Some g) e r = subst (λ (x : Held). IsSomeAnd (clause_at clauses x) (λ lits. Implies (take i trail) lits a.lit)) (same_Some g h e) r

  pub entry_reason : (i : ℕ) (a : Assigned) (h : Held) → slice_get trail i ≡ Some a → a.reason ≡ Some h → IsSomeAnd (clause_at clauses h) (λ lits. Implies (take i trail) lits a.lit)
  entry_reason i a h at e = reason-clause i a h a.reason e (entry_follows i a at).reason

up-to-more : (b : Assigned) (trail : List Assigned) (level : ℕ) (c : Bool) (l : Lit) → IsTrue (is_on (up_to trail level) l) → IsTrue (is_on (cond c (b ∷ up_to trail level) (up_to trail level)) l)
up-to-more b trail level true l h = or_right (same b.lit l) (is_on (up_to trail level) l) h
up-to-more b trail level false l h = h

-- an entry up to a level
pub up_to_on : (trail : List Assigned) (level place : ℕ) (a : Assigned) → slice_get trail place ≡ Some a → a.level ≤ level → IsTrue (is_on (up_to trail level) a.lit)
up_to_on [] level place a at low = absurd (none-some a at)
up_to_on (b ∷ trail) level zero a at low =
    let is : b ≡ a = same_Some b a at in
    let kept : nat_le b.level level ≡ true = le-leb b.level level (omega (arith, ap (λ (x : Assigned). x.level) is)) in
    ap (λ (c : Bool). is_on (cond c (b ∷ up_to trail level) (up_to trail level)) a.lit) kept
    ∙ or_left (same b.lit a.lit) (is_on (up_to trail level) a.lit) (eq-same b.lit a.lit (ap (λ (x : Assigned). x.lit) is))
up_to_on (b ∷ trail) level (suc place) a at low = up-to-more b trail level (nat_le b.level level) a.lit (up_to_on trail level place a at low)

-- and back
pub record IsUpTo (trail : List Assigned) (level : ℕ) (l : Lit) : Type 0 where
  pub place : ℕ
  pub entry : Assigned
  pub at : slice_get trail place ≡ Some entry
  pub literal : entry.lit ≡ l
  pub low : entry.level ≤ level

up-to-later : (b : Assigned) (trail : List Assigned) (level : ℕ) (l : Lit) → IsUpTo trail level l → IsUpTo (b ∷ trail) level l
up-to-later b trail level l u = record { place = suc u.place; entry = u.entry; at = u.at; literal = u.literal; low = u.low }

up-to-cases : (b : Assigned) (trail : List Assigned) (level : ℕ) (c : Bool) (l : Lit) → nat_le b.level level ≡ c →
    (IsTrue (is_on (up_to trail level) l) → IsUpTo trail level l) → IsTrue (is_on (cond c (b ∷ up_to trail level) (up_to trail level)) l) → IsUpTo (b ∷ trail) level l
up-to-cases b trail level true l e rest h = elim (or_cases (same b.lit l) (is_on (up_to trail level) l) h) [
  | inl here ↦ record { place = 0; entry = b; at = refl; literal = same-eq b.lit l here; low = leb-true b.level level e }
  | inr there ↦ up-to-later b trail level l (rest there)
]
up-to-cases b trail level false l e rest h = up-to-later b trail level l (rest h)

pub on_up_to : (trail : List Assigned) (level : ℕ) (l : Lit) → IsTrue (is_on (up_to trail level) l) → IsUpTo trail level l
on_up_to [] level l h = absurd (false≢true h)
on_up_to (b ∷ trail) level l h = up-to-cases b trail level (nat_le b.level level) l refl (on_up_to trail level l) h

-- What a visit of the pass finds at an entry, and what it leaves.
use Rattle.std.proofs.Common.{◌≡◌, ◌≢◌, ℕ, ◌+◌, ◌*◌, ◌<◌, ◌≤◌, ℤ, pos, Bool, true, false, ◌||◌, cond, ◌⊎◌, inl, inr, List, []}
use Rattle.std.proofs.Common.{◌∷◌, ◌++◌, length, take, reverse, slice_get, get_or, refl, ap, sym, ◌∙◌, subst, arith, Option, Some, None, IsSomeAnd, IfSome, option_map}
use Rattle.std.specs.Prelude.{◌==◌, nat_lt}
use Rattle.std.specs.Option.{option_to_list}
use Rattle.std.proofs.lemmas.Bool.{cases_eq, or_cases, or_parts, and_parts, cond-true, eq-eqb, eqb-true, eqb-false, ltb-true, ltb-false}
use Rattle.std.proofs.lemmas.Option.{none-some, slice_get_within, slice_get-get_or}
use Rattle.std.proofs.lemmas.List.{reverse-append}
use Rattle.cnf_types.specs.declared.literal.Lit.{Lit}
use Rattle.cnf_types.specs.Literals.{negated, variable}
use Rattle.sat_core.specs.declared.assigned.Assigned.{Assigned}
use Rattle.sat_core.specs.declared.assigned.Held.{Held}
use Rattle.sat_core.specs.declared.numbered.Numbered.{Numbered}
use Rattle.sat_core.specs.Trails.{Implies, clause_at, IsOf}
use Rattle.sat_core.specs.States.{State, IsSound}
use Rattle.sat_search.specs.Live.{clause_in}
use Rattle.sat_search.specs.Passes.{is_marked, is_open, open_in, IsPass, IsCleared, IsJoined, resolving_reason, hint_at}
use Rattle.sat_search.proofs.Literals.{variable-negated}
use Rattle.sat_search.proofs.Sound.{entry_follows, entry_reason, decision_rises, decision_first, level_most}
use Rattle.sat_search.proofs.Counts.{once, count_none}
use Rattle.sat_search.proofs.Held.{held_at}
use Rattle.sat_search.proofs.Passing.{distinct, counted_less, pending_below, pass_keeps}
use Rattle.sat_search.proofs.Resolving.{pass_resolves}
use Rattle.sat_search.proofs.Clauses.{clause_found}

-- why an entry is resolved away
abbrev pub Resolved : ℕ → ℕ → Assigned → Type 0
Resolved level current a = (a.level ≡ 0) ⊎ ((a.level ≢ level) ⊎ ((a.level ≡ level) × (2 ≤ current)))

-- what is asked of an entry
abbrev goes : ℕ → ℕ → Bool → Assigned → Bool
goes level current spared a = cond (a.level == level) ((level == 0) || nat_lt 1 current) spared

on-level : (level current : ℕ) (spared : Bool) (a : Assigned) → a.level ≡ level → goes level current spared a ≡ ((level == 0) || nat_lt 1 current)
on-level level current spared a is = cond-true (a.level == level) ((level == 0) || nat_lt 1 current) spared (eq-eqb a.level level is)

test-true : (level current : ℕ) (spared : Bool) (a : Assigned) → goes level current spared a ≡ true → Resolved level current a
test-true level current spared a h = elim (cases_eq a.level level) [
  | inl is ↦ elim (or_cases (level == 0) (nat_lt 1 current) (sym (on-level level current spared a is) ∙ h)) [
    | inl bottom ↦ inl (is ∙ eqb-true level 0 bottom)
    | inr many ↦ inr (inr (is, omega (arith, ltb-true 1 current many)))
  ]
  | inr other ↦ inr (inl other)
]

with-test : (b : Bool) (o : Option Held) (h : Held) → cond b o None ≡ Some h → (b ≡ true) × (o ≡ Some h)
with-test true o h e = (refl, e)
with-test false o h e = absurd (none-some h e)

pub resolved_why : (level current : ℕ) (spared : Bool) (a : Assigned) (h : Held) → resolving_reason level current spared a ≡ Some h → Resolved level current a × (a.reason ≡ Some h)
resolved_why level current spared a h e =
    let parts = with-test (goes level current spared a) a.reason h e in
    (test-true level current spared a parts.0, parts.1)

without-test : (b : Bool) (o : Option Held) → cond b o None ≡ None → (b ≡ false) ⊎ (o ≡ None)
without-test true o e = inr e
without-test false o e = inl refl

rises : (n : ℕ) → n ≢ 0 → 1 ≤ n
rises n h = omega arith

few-level : (level current : ℕ) (spared : Bool) (a : Assigned) → goes level current spared a ≡ false → a.level ≡ level → (1 ≤ level) × (current ≤ 1)
few-level level current spared a off is =
    let parts = or_parts (level == 0) (nat_lt 1 current) (sym (on-level level current spared a is) ∙ off) in
    (rises level (eqb-false level 0 parts.0), ltb-false 1 current parts.1)

-- a reason is the place of a clause
pub reason_below : (s : State) (sound : IsSound s) (first : ℕ) (a : Assigned) → slice_get s.trail first ≡ Some a → (h : Held) → a.reason ≡ Some h → h.0 < length s.clauses
reason_below s sound first a at h some =
    held-below (clause_at s.clauses h) refl (entry_reason s.clauses s.vars s.trail s.level sound.trail first a h at some)
  where
    held-below : (o : Option (List Lit)) → clause_at s.clauses h ≡ o → IsSomeAnd o (λ ls. Implies (take first s.trail) ls a.lit) → h.0 < length s.clauses
    held-below None e p = absurd p
    held-below (Some ls) e p = slice_get_within s.clauses h.0 (clause_found s.clauses h ls e).0 (clause_found s.clauses h ls e).1

module _ (s : State) (sound : IsSound s) (first : ℕ) (flags : List Bool) (lits : List Lit) (hints : List ℤ) (current : ℕ) (a : Assigned) (at : slice_get s.trail first ≡ Some a)
    (was : is_marked flags (negated a.lit) ≡ true) (pass : IsPass s (first + 1) flags lits hints current) (more : List Bool) (clears : IsCleared flags more (negated a.lit)) where
  -- before a decision nothing of its level is open
  alone : (rest : ℕ) → a.reason ≡ None → a.level ≡ s.level → current ≡ rest + once (a.level == s.level) → current ≤ 1
  alone rest none level_is sum =
      let counted = counted_less s sound first flags lits hints current a at was pass more clears rest sum in
      let zero_rest : open_in s.level s.trail more ≡ 0 = count_none (is_open s.level more) s.trail (λ k e there open_one.
      let parts = and_parts (e.level == s.level) (is_marked more (negated e.lit)) open_one in
      let below = pending_below s sound first flags lits hints current a at was pass more clears (negated e.lit) parts.1 in
      let place : below.place ≡ k = distinct s sound below.place k below.entry e below.at there (ap variable below.literal ∙ variable-negated (negated e.lit) ∙ variable-negated e.lit) in
      let less : e.level < a.level = decision_first s.clauses s.vars s.trail s.level sound.trail first k a e at none there (omega (arith, place, below.before)) in
      absurd (omega (arith, less, eqb-true e.level s.level parts.0, level_is))) in
      omega (arith, counted, zero_rest, sum, ap once (eq-eqb a.level s.level level_is))

  -- why a literal stays
  pub kept_why : (rest : ℕ) (spared : Bool) → current ≡ rest + once (a.level == s.level) → resolving_reason s.level current spared a ≡ None → (1 ≤ s.level) × (a.level ≡ s.level → current ≤ 1)
  kept_why rest spared sum e =
      let most = level_most s.clauses s.vars s.trail s.level sound.trail first a at in
      elim (without-test (goes s.level current spared a) a.reason e) [
        | inl off ↦ (up-where off most, λ is. (few-level s.level current spared a off is).1)
        | inr none ↦ (omega (arith, decision_rises s.clauses s.vars s.trail s.level sound.trail first a at none, most), λ is. alone rest none is sum)
      ]
    where
      up-where : goes s.level current spared a ≡ false → a.level ≤ s.level → 1 ≤ s.level
      up-where off most = elim (cases_eq a.level s.level) [
        | inl is ↦ (few-level s.level current spared a off is).0
        | inr other ↦ omega (arith, other, most)
      ]

  pub visit_keeps : (rest : ℕ) (spared : Bool) → length more ≡ length flags → current ≡ rest + once (a.level == s.level) →
      resolving_reason s.level current spared a ≡ None → IsPass s first more (lits ++ negated a.lit ∷ []) hints rest
  visit_keeps rest spared size sum e =
      let why = kept_why rest spared sum e in
      pass_keeps s sound first flags lits hints current a at was pass more clears rest size sum why.0 why.1

  some-clause : (o : Option (List Lit)) (reason : List Lit) {P Q : List Lit → Type 0} → IsSomeAnd o P → IfSome o Q → (ls : List Lit) × (o ≡ Some ls) × P ls × Q ls
  some-clause None reason p q = absurd p
  some-clause (Some ls) reason p q = (ls, refl, p, q)

  -- below the current level, or not alone on it
  below_or : Resolved s.level current a → (1 ≤ s.level → a.level < s.level) ⊎ ((a.level ≡ s.level) × (2 ≤ current))
  below_or why = elim why [
    | inl bottom ↦ inl (λ up. omega (arith, bottom, up))
    | inr (inl other) ↦ inl (λ up. omega (arith, other, level_most s.clauses s.vars s.trail s.level sound.trail first a at))
    | inr (inr on_level) ↦ inr on_level
  ]

  -- the reason is joined
  pub visit_resolves : (h : Held) (spared : Bool) (joined : List Bool) (rest next : ℕ) (all_hints : List ℤ) → length joined ≡ length flags →
      current ≡ rest + once (a.level == s.level) → resolving_reason s.level current spared a ≡ Some h →
      IfSome (clause_at s.clauses h) (IsJoined s.trail more joined) → next ≡ open_in s.level s.trail joined → reverse all_hints ≡ hints → (taken : List ℤ) →
      taken ≡ all_hints ++ option_to_list (hint_at s.clauses h) → IsPass s first joined lits (reverse taken) next
  visit_resolves h spared joined rest next all_hints size sum e joins after is taken taken_is =
      let why = resolved_why s.level current spared a h e in
      let reason = some-clause (clause_at s.clauses h) [] (entry_reason s.clauses s.vars s.trail s.level sound.trail first a h at why.1) joins in
      let c = clause_found s.clauses h reason.0 reason.1 in
      let live : clause_in s.clauses c.0.id ≡ Some reason.0 = held_at s.clauses h.0 c.0 sound.different c.1 ∙ ap Some c.2 in
      let hint_is : hint_at s.clauses h ≡ Some (pos c.0.id) = ap (λ (o : Option Numbered). option_map pos (option_map (λ (d : Numbered). d.id) o)) c.1 in
      let hints_are : reverse taken ≡ pos c.0.id ∷ hints = ap reverse (taken_is ∙ ap (λ (o : Option ℤ). all_hints ++ option_to_list o) hint_is)
      ∙ reverse-append all_hints (pos c.0.id ∷ []) ∙ ap (λ (hs : List ℤ). pos c.0.id ∷ hs) is in
      subst (λ (hs : List ℤ). IsPass s first joined lits hs next) (sym hints_are)
      (pass_resolves s sound first flags lits hints current a at was pass more joined clears c.0.id reason.0 live reason.2 reason.3 rest next size sum after (below_or why.0))

  -- the same, with the level as a core tells it
  pub visited_keeps : (level other rest : ℕ) (spared : Bool) (new_lits : List Lit) (new_hints : List ℤ) → level ≡ s.level → other ≡ s.level →
      length more ≡ length flags → current ≡ rest + once (a.level == other) → resolving_reason level current spared a ≡ None →
      new_lits ≡ lits ++ negated a.lit ∷ [] → new_hints ≡ hints → IsPass s first more new_lits new_hints rest
  visited_keeps level other rest spared new_lits new_hints level_is other_is size sum none lits_are hints_are =
      let kept = visit_keeps rest spared size (sum ∙ ap (λ (n : ℕ). rest + once (a.level == n)) other_is) (ap (λ (n : ℕ). resolving_reason n current spared a) (sym level_is) ∙ none) in
      subst (λ (hs : List ℤ). IsPass s first more new_lits hs rest) (sym hints_are) (subst (λ (ls : List Lit). IsPass s first more ls hints rest) (sym lits_are) kept)

  pub visited_resolves : (level other : ℕ) (spared : Bool) (h : Held) (joined : List Bool) (rest next : ℕ) (new_lits : List Lit) (all_hints taken : List ℤ) →
      level ≡ s.level → other ≡ s.level → length joined ≡ length flags → current ≡ rest + once (a.level == other) → resolving_reason level current spared a ≡ Some h →
      IfSome (clause_at s.clauses h) (IsJoined s.trail more joined) → next ≡ open_in s.level s.trail joined → reverse all_hints ≡ hints →
      taken ≡ all_hints ++ option_to_list (hint_at s.clauses h) → new_lits ≡ lits → IsPass s first joined new_lits (reverse taken) next
  visited_resolves level other spared h joined rest next new_lits all_hints taken level_is other_is size sum some joins after is taken_is lits_are =
      let resolved = visit_resolves h spared joined rest next all_hints size (sum ∙ ap (λ (n : ℕ). rest + once (a.level == n)) other_is)
      (ap (λ (n : ℕ). resolving_reason n current spared a) (sym level_is) ∙ some) joins after is taken taken_is in
      subst (λ (ls : List Lit). IsPass s first joined ls (reverse taken) next) (sym lits_are) resolved

  -- what the next call needs
  pub leave_counted : (other rest : ℕ) → other ≡ s.level → current ≡ rest + once (a.level == other) → rest ≡ open_in s.level s.trail more
  leave_counted other rest other_is sum = counted_less s sound first flags lits hints current a at was pass more clears rest (sum ∙ ap (λ (n : ℕ). rest + once (a.level == n)) other_is)

  pub reason_held : (level : ℕ) (spared : Bool) (h : Held) → resolving_reason level current spared a ≡ Some h → h.0 < length s.clauses
  reason_held level spared h some = reason_below s sound first a at h (resolved_why level current spared a h some).1

-- the entry at a place
pub visited : (trail now : List Assigned) (place : ℕ) (d : Assigned) → now ≡ trail → place < length trail → slice_get trail place ≡ Some (get_or now place d)
visited trail now place d is low = slice_get-get_or trail place d low ∙ ap (λ (xs : List Assigned). Some (get_or xs place d)) (sym is)

pub in_range : (s : State) (sound : IsSound s) (first : ℕ) (a : Assigned) → slice_get s.trail first ≡ Some a → IsOf s.vars a.lit
in_range s sound first a at = (entry_follows s.clauses s.vars s.trail s.level sound.trail first a at).range

pub negated_below : (vars : ℕ) (l : Lit) (size : ℕ) → IsOf vars l → size ≡ 2 * vars + 2 → (negated l).code < size
negated_below vars l size range is = omega (arith, range.most, variable-negated l)

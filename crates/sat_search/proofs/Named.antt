-- How many clauses a drop step may name: as their ids differ, no more than there are ids of such.
use Rattle.std.proofs.Common.{◌≡◌, ◌≢◌, ℕ, suc, ◌+◌, ◌-◌, ◌*◌, ◌/◌, ◌<◌, ◌≤◌, ◌==◌, ◌&&◌, ◌||◌, Bool, true, false, cond, nat_lt, IsSomeAnd, inl, inr, List}
use Rattle.std.proofs.Common.{[], ◌∷◌, ◌++◌, length, take, drop, reverse, get_or, slice_get, count_by, AllPairs, Contains, refl, ap, sym, ◌∙◌, arith, Option, Some, None, option_map, find}
use Rattle.std.specs.List.{list_any}
use Rattle.std.proofs.lemmas.Bool.{cases_eq, cases_lt, eq-eqb, eqb-true, ne_eqb, lt-ltb, and_from, and_right, false≢true}
use Rattle.std.proofs.lemmas.Option.{none-some, same_Some, get_or_from_slice_get, slice_get-get_or, slice_get_within}
use Rattle.std.proofs.lemmas.List.{take-append-drop, reverse-append, drop_at, length-reverse, length-drop, take_more}
use Rattle.std.proofs.lemmas.List.Folds.{list_any-from_Any}
use Rattle.std.proofs.lemmas.List.Sums.{sum_by-cons, sum_by_push}
use Rattle.std.proofs.lemmas.List.Sorted.{IsPermutation-reverse, sum_by-IsPermutation}
use Rattle.cnf_types.specs.declared.literal.Lit.{Lit}
use Rattle.proof_log.specs.declared.steps.Step.{Step}
use Rattle.clean_logs.specs.CleanLogs.{added_by, dropped_by}
use Rattle.sat_core.specs.declared.numbered.Numbered.{Numbered}
use Rattle.sat_core.specs.Trails.{clause_at, id_at}
use Rattle.sat_core.specs.States.{State}
use Rattle.sat_search.specs.Live.{clause_in}
use Rattle.sat_search.specs.Costs.{may_be_named}
use Rattle.sat_search.specs.DropSteps.{is_long, long_old, IsHalf}
use Rattle.sat_search.specs.Dropping.{old_lemmas, AreLemmas, Forgets}
use Rattle.sat_search.specs.declared.lemmas.Lemmas.{Lemmas}
use Rattle.sat_search.proofs.Counts.{once, count_none}

count-cons : {X : Type 0} (p : X → Bool) (x : X) (xs : List X) → count_by p (x ∷ xs) ≡ once (p x) + count_by p xs
count-cons p x xs = sum_by-cons (λ y. cond (p y) 1 0) x xs

-- items that pass one of two tests
count-two : {X : Type 0} (p q r : X → Bool) (xs : List X) → ((x : X) → once (p x) ≤ once (q x) + once (r x)) → count_by p xs ≤ count_by q xs + count_by r xs
count-two p q r [] each = omega arith
count-two p q r (x ∷ xs) each = omega (arith, count-cons p x xs, count-cons q x xs, count-cons r x xs, each x, count-two p q r xs each)

once-and : (a b : Bool) → once (a && b) ≤ once a
once-and true true = omega arith
once-and true false = omega arith
once-and false b = omega arith

once-or : (a b c : Bool) → once (a && (b || c)) ≤ once (a && b) + once (a && c)
once-or true true c = omega arith
once-or true false c = omega arith
once-or false b c = omega arith

and-false : (a : Bool) → (a && false) ≡ true → ⊥
and-false a is = false≢true (sym (and_right a false refl) ∙ is)

and-last : (a b : Bool) → (a && b) ≡ true → b ≡ true
and-last true b is = is
and-last false b is = absurd (false≢true is)

-- the clause is long and has this id
abbrev has_it : ℕ → Numbered → Bool
has_it id c = nat_lt 2 (length c.lits) && (id == c.id)

module _ (c : Numbered) (cs : List Numbered) (id : ℕ) (different : AllPairs (λ a b. a.id ≢ b.id) (c ∷ cs)) where
  no-other : c.id ≡ id → count_by (has_it id) cs ≡ 0
  no-other is = count_none (has_it id) cs (λ k d at holds.
      let low = slice_get_within cs k d at in
      let here : get_or cs k d ≡ d = get_or_from_slice_get cs k d d at in
      different 0 (suc k) d (omega arith) (omega (arith, low))
      (is ∙ eqb-true id d.id (and-last (nat_lt 2 (length d.lits)) (id == d.id) holds) ∙ sym (ap (λ (x : Numbered). x.id) here)))

  first-one : c.id ≡ id → count_by (has_it id) (c ∷ cs) ≤ once (is_long (clause_in (c ∷ cs) id))
  first-one is =
      let found : clause_in (c ∷ cs) id ≡ Some c.lits = ap (λ (b : Bool). option_map (λ (d : Numbered). d.lits) (cond b (Some c) (find (λ (d : Numbered). d.id == id) cs))) (eq-eqb c.id id is) in
      omega (arith, count-cons (has_it id) c cs, no-other is, once-and (nat_lt 2 (length c.lits)) (id == c.id), ap (λ (o : Option (List Lit)). once (is_long o)) found)

  later-one : c.id ≢ id → count_by (has_it id) cs ≤ once (is_long (clause_in cs id)) → count_by (has_it id) (c ∷ cs) ≤ once (is_long (clause_in (c ∷ cs) id))
  later-one other rest =
      let found : clause_in (c ∷ cs) id ≡ clause_in cs id = ap (λ (b : Bool). option_map (λ (d : Numbered). d.lits) (cond b (Some c) (find (λ (d : Numbered). d.id == id) cs)))
      (ne_eqb c.id id other) in
      let not_it : has_it id c ≡ false = and_right (nat_lt 2 (length c.lits)) (id == c.id) (ne_eqb id c.id (λ e. other (sym e))) in
      omega (arith, count-cons (has_it id) c cs, ap once not_it, rest, ap (λ (o : Option (List Lit)). once (is_long o)) found)

  still-different : AllPairs (λ a b. a.id ≢ b.id) cs
  still-different i j d less low = different (suc i) (suc j) d (omega (arith, less)) (omega (arith, low))

one-of : (cs : List Numbered) (id : ℕ) → AllPairs (λ a b. a.id ≢ b.id) cs → count_by (has_it id) cs ≤ once (is_long (clause_in cs id))
one-of [] id different = omega arith
one-of (c ∷ cs) id different = elim (cases_eq c.id id) [
  | inl is ↦ first-one c cs id different is
  | inr other ↦ later-one c cs id different other (one-of cs id (still-different c cs id different))
]

-- of clauses with different ids no more may be named than ids of live clauses
pub named_few : (ids : List ℕ) (cs : List Numbered) → AllPairs (λ a b. a.id ≢ b.id) cs → count_by (may_be_named ids) cs ≤ count_by (λ id. is_long (clause_in cs id)) ids
named_few [] cs different =
    let none = count_none (may_be_named []) cs (λ k c at holds. and-false (nat_lt 2 (length c.lits)) holds) in
    omega (arith, none)
named_few (id ∷ ids) cs different =
    let both = count-two (may_be_named (id ∷ ids)) (has_it id) (may_be_named ids) cs (λ c. once-or (nat_lt 2 (length c.lits)) (id == c.id) (list_any (λ i. i == c.id) ids)) in
    omega (arith, both, one-of cs id different, named_few ids cs different, count-cons (λ i. is_long (clause_in cs i)) id ids)

-- ---- the clauses that may be named, one after another

-- a clause may be that is long and has one of the ids
named-at : (ids : List ℕ) (o : Option Numbered) (c : Numbered) → o ≡ Some c → IsSomeAnd (option_map (λ d. d.id) o) (Contains ids) →
    IsSomeAnd (option_map (λ d. d.lits) o) (λ lits. 2 < length lits) → may_be_named ids c ≡ true
named-at ids None c is among long = absurd (none-some c is)
named-at ids (Some d) c is among long =
    let holds : may_be_named ids d ≡ true = and_from (nat_lt 2 (length d.lits)) (list_any (λ i. i == d.id) ids) (lt-ltb 2 (length d.lits) long)
    (list_any-from_Any (λ i. i == d.id) ids (among.0, d.id, among.1, among.2, eq-eqb d.id d.id refl)) in
    ap (may_be_named ids) (sym (same_Some d c is)) ∙ holds

-- one clause more is looked at
module _ (ids : List ℕ) (cs : List Numbered) (place : ℕ) (low : place < length cs) where
  abbrev here : Numbered
  here = get_or cs place (record { id = 0; lits = [] })

  there : slice_get cs place ≡ Some here
  there = slice_get-get_or cs place (record { id = 0; lits = [] }) low

  one-more : count_by (may_be_named ids) (take (place + 1) cs) ≡ count_by (may_be_named ids) (take place cs) + once (may_be_named ids here)
  one-more = ap (count_by (may_be_named ids)) (take_more cs place (record { id = 0; lits = [] }) low) ∙ sum_by_push (λ (c : Numbered). cond (may_be_named ids c) 1 0) (take place cs) here

  pub few_join : (n : ℕ) → n ≤ count_by (may_be_named ids) (take place cs) → IsSomeAnd (id_at cs (record { 0 = place })) (Contains ids) →
      IsSomeAnd (clause_at cs (record { 0 = place })) (λ lits. 2 < length lits) → n + 1 ≤ count_by (may_be_named ids) (take (place + 1) cs)
  few_join n few among long = omega (arith, few, one-more, ap once (named-at ids (slice_get cs place) here there among long))

  pub few_miss : (n : ℕ) → n ≤ count_by (may_be_named ids) (take place cs) → n ≤ count_by (may_be_named ids) (take (place + 1) cs)
  few_miss n few = omega (arith, few, one-more)

-- ---- the lemmas that are old enough

-- those among the first of a list are among the list turned round without its first
pub turned_count : (p : ℕ → Bool) (items : List ℕ) (n m : ℕ) → n ≡ length items - m → count_by p (take n items) ≤ count_by p (drop m (reverse items))
turned_count p items n m is = elim (cases_lt 0 n) [
  | inl some ↦
      let size : length (reverse (drop n items)) ≡ m = omega (arith, length-reverse (drop n items), length-drop n items, is, some) in
      let parts : reverse items ≡ reverse (drop n items) ++ reverse (take n items) = ap reverse (sym (take-append-drop n items)) ∙ reverse-append (take n items) (drop n items) in
      let left : drop m (reverse items) ≡ reverse (take n items) = ap (drop m) parts ∙ drop_at (reverse (drop n items)) (reverse (take n items)) m size in
      let same : count_by p (reverse (take n items)) ≡ count_by p (take n items) =
      sum_by-IsPermutation (λ (x : ℕ). cond (p x) 1 0) (take n items) (reverse (take n items)) (IsPermutation-reverse (take n items)) in
      omega (arith, same, ap (count_by p) left)
  | inr none ↦ let zero_is : n ≡ 0 = omega (arith, none) in omega (arith, ap (λ (k : ℕ). count_by p (take k items)) zero_is)
]

pub some_item : (ids : List ℕ) → (ids ≡ [] → ⊥) → 1 ≤ length ids
some_item [] filled = absurd (filled refl)
some_item (id ∷ ids) filled = omega arith

-- a step that names at most half of the first lemmas
pub half_named : (s now : State) (steps : List Step) (lemmas : Lemmas) (n : ℕ) (ids : List ℕ) → AreLemmas steps lemmas → n ≡ old_lemmas lemmas → Forgets s ids now → 1 ≤ length ids
    → length ids ≤ (count_by (λ id. is_long (clause_in s.clauses id)) (take n lemmas.ids.items) + 1) / 2 → IsHalf (clause_in s.clauses) (added_by [] steps) (dropped_by 0 steps) ids
half_named s now steps lemmas n ids are size forgets some few =
    let live = clause_in s.clauses in
    let p : ℕ → Bool = λ id. is_long (live id) in
    let turned = turned_count p lemmas.ids.items n (1000 * (lemmas.drops + 1)) size in
    let added = ap (λ (xs : List ℕ). count_by p (drop (1000 * (lemmas.drops + 1)) xs)) are.ids in
    let drops = ap (λ (d : ℕ). count_by p (drop (1000 * (d + 1)) (added_by [] steps))) are.drops in
    let all : count_by p (take n lemmas.ids.items) ≤ long_old live (added_by [] steps) (dropped_by 0 steps) = omega (arith, turned, added, drops) in
    record { long = forgets.long; some = some; most = omega (arith, few, all) }

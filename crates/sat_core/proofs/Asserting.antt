-- Clauses that imply their first literal on the current level, and not before.
use Rattle.std.proofs.Common.{◌≡◌, ℕ, ◌<◌, ◌≤◌, ◌≢◌, ◌⊎◌, inl, inr, List, ◌++◌, ◌∷◌, [], length, take, drop, Contains, Option, Some, IsSomeAnd, leb, sym, ap, ◌∙◌, subst, IsTrue, arith}
use Rattle.std.proofs.lemmas.Bool.{cases_eq, both_ways, false_from_ne_true, leb-true}
use Rattle.std.proofs.lemmas.List.{take-append-drop, take-append-le}
use Rattle.arc_base.proofs.Items.{from_filter, All-from}
use Rattle.cnf_types.specs.declared.literal.Lit.{Lit}
use Rattle.cnf_types.specs.Literals.{negated, variable}
use Rattle.clause_pool.specs.Pools.{lit_at}
use Rattle.sat_core.specs.declared.assigned.Assigned.{Assigned}
use Rattle.sat_core.specs.Trails.{Implies, entry_of, is_on, up_to}
use Rattle.sat_core.specs.Rest.{RestsOn}
use Rattle.sat_core.specs.States.{State, IsSound, IsAsserting}
use Rattle.sat_core.specs.Watches.{HasNoPair, IsNarrow, IsSecond, Guards, IsGuarded}
use Rattle.sat_core.proofs.Literals.{negated-negated, negated-other, same_variable, variable-negated}
use Rattle.sat_core.proofs.Sets.{on-last}
use Rattle.sat_core.proofs.Sound.{stands}
use Rattle.sat_core.proofs.Consistent.{consistent}
use Rattle.sat_core.proofs.Places.{entry-at}
use Rattle.sat_core.proofs.Guards.{on-contains, on-more, on-up_to, on-take}
use Rattle.sat_core.proofs.Linking.{at-place, place-of}

-- what is on a level of the first entries is on that of all
up_to-taken : (xs : List Assigned) (n level : ℕ) (l : Lit) → IsTrue (is_on (up_to (take n xs) level) l) → IsTrue (is_on (up_to xs level) l)
up_to-taken xs n level l h = subst (λ (ys : List Assigned). IsTrue (is_on (up_to ys level) l)) (take-append-drop n xs) (on-more (take n xs) (drop n xs) level l h)

-- an item for which a fact holds
some-is : {X : Type 0} (o : Option X) (x : X) (P : X → Type 0) → o ≡ Some x → IsSomeAnd o P → P x
some-is {X} o x P is h = subst (λ (q : Option X). IsSomeAnd q P) is h

module _ (s : State) (sound : IsSound s) (lits : List Lit) (asserts : IsAsserting s lits) where
  abbrev pub one : Lit
  one = lit_at lits 0

  abbrev pub two : Lit
  two = lit_at lits 1

  both : (l : Lit) → IsTrue (is_on s.trail l) → IsTrue (is_on s.trail (negated l)) → ⊥
  both l on off = consistent s.vars s.trail l (stands s.clauses s.vars s.trail sound.trail.entries) on off

  first_not : IsTrue (is_on s.trail one) → ⊥
  first_not on = both_ways (is_on s.trail one) asserts.unset.not_true on

  first_not_false : IsTrue (is_on s.trail (negated one)) → ⊥
  first_not_false on = both_ways (is_on s.trail (negated one)) asserts.unset.not_false on

  pub second_false : IsTrue (is_on s.trail (negated two))
  second_false = asserts.others 1 (omega arith) (omega (arith, asserts.two))

  pub apart : (variable one ≡ variable two) → ⊥
  apart e = elim (same_variable one two e) [
    | inl same ↦ first_not_false (subst (λ (l : Lit). IsTrue (is_on s.trail (negated l))) (sym same) second_false)
    | inr other ↦ first_not (subst (λ (l : Lit). IsTrue (is_on s.trail l)) (sym other) second_false)
  ]

  -- each literal is the first one, or false
  one-or : (l : Lit) → Contains lits l → (one ≡ l) ⊎ IsTrue (is_on s.trail (negated l))
  one-or l held =
      let (k, within, at) = place-of lits l held in
      elim (cases_eq k 0) [
        | inl z ↦ inl (ap (λ (n : ℕ). lit_at lits n) (sym z) ∙ at)
        | inr nz ↦ inr (subst (λ (m : Lit). IsTrue (is_on s.trail (negated m))) at (asserts.others k (omega arith) within))
      ]

  no_pair : HasNoPair lits
  no_pair l held other = elim (one-or l held) [
    | inl is ↦ elim (one-or (negated l) other) [
      | inl same ↦ negated-other l (sym same ∙ is)
      | inr off ↦ first_not (subst (λ (m : Lit). IsTrue (is_on s.trail m)) (negated-negated l ∙ sym is) off)
    ]
    | inr off ↦ elim (one-or (negated l) other) [
      | inl same ↦ first_not (subst (λ (m : Lit). IsTrue (is_on s.trail m)) (sym same) off)
      | inr on ↦ both l (subst (λ (m : Lit). IsTrue (is_on s.trail m)) (negated-negated l) on) off
    ]
  ]

  pub watched_by : IsSecond lits 1
  watched_by = record { later = omega arith; inside = omega (arith, asserts.two); different = apart; apart = no_pair }

  pub not_narrow : IsNarrow lits → ⊥
  not_narrow narrow = apart (ap variable (narrow one two (at-place lits 0 (omega (arith, asserts.two))) (at-place lits 1 (omega (arith, asserts.two)))))

  pub implies_first : Implies s.trail lits one
  implies_first = record {
    held = at-place lits 0 (omega (arith, asserts.two));
    others = All-from (λ (m : Lit). m ≢ one → IsTrue (is_on s.trail (negated m))) lits (λ m held differ. elim (one-or m held) [
      | inl is ↦ absurd (differ (sym is))
      | inr off ↦ off
    ]);
  }

  -- the second literal is not false before the current level
  pub second_late : (level : ℕ) → IsTrue (is_on (up_to s.trail level) (negated two)) → s.level ≤ level
  second_late level on =
      let (e, held, is) = on-contains (up_to s.trail level) (negated two) on in
      let f = from_filter (λ (x : Assigned). leb x.level level) s.trail e held in
      let (k, within, at) = f.0 in
      let there : entry_of s.trail (variable e.lit) ≡ Some e = subst (λ (x : Assigned). entry_of s.trail (variable x.lit) ≡ Some x) at
      (entry-at s.vars s.trail k e (stands s.clauses s.vars s.trail sound.trail.entries) within) in
      let found : entry_of s.trail (variable two) ≡ Some e = ap (entry_of s.trail) (sym (variable-negated two) ∙ ap variable (sym is)) ∙ there in
      let level_is : e.level ≡ s.level = some-is (entry_of s.trail (variable two)) e (λ (x : Assigned). x.level ≡ s.level) found asserts.second in
      omega (arith, level_is, leb-true e.level level f.1)

  -- below the current level the clause rests
  pub rests_below : (level : ℕ) → level < s.level → RestsOn (is_on (up_to s.trail level)) lits
  rests_below level below = inr (record {
    one = one;
    other = two;
    one_held = at-place lits 0 (omega (arith, asserts.two));
    other_held = at-place lits 1 (omega (arith, asserts.two));
    different = λ e. apart (ap variable e);
    one_unset = record {
      not_true = false_from_ne_true (is_on (up_to s.trail level) one) (λ h. first_not (on-up_to s.trail level one h));
      not_false = false_from_ne_true (is_on (up_to s.trail level) (negated one)) (λ h. first_not_false (on-up_to s.trail level (negated one) h));
    };
    other_unset = record {
      not_true = false_from_ne_true (is_on (up_to s.trail level) two) (λ h. both two (on-up_to s.trail level two h) second_false);
      not_false = false_from_ne_true (is_on (up_to s.trail level) (negated two)) (λ h. absurd (omega (arith, below, second_late level h)));
    };
  })

  -- once its first literal is true on the current level, its watches guard it
  pub guards_lemma : (floor done : ℕ) (e : Assigned) (of : List Lit) → done ≤ length s.trail → e.lit ≡ one →
      ((level : ℕ) → s.level ≤ level → up_to (s.trail ++ e ∷ []) level ≡ s.trail ++ e ∷ []) → (lit_at of 0 ≡ one) × (lit_at of 1 ≡ two) →
      IsGuarded floor (take done (s.trail ++ e ∷ [])) (s.trail ++ e ∷ []) of
  guards_lemma floor done e of within is whole watch =
      let front : take done (s.trail ++ e ∷ []) ≡ take done s.trail = take-append-le done s.trail (e ∷ []) within in
      let ys = s.trail ++ e ∷ [] in
      let one_guarded : Guards floor (take done ys) ys one two = λ level above on. absurd
      (first_not_false (on-take s.trail done (negated one)
      (on-up_to (take done s.trail) level (negated one) (subst (λ (zs : List Assigned). IsTrue (is_on (up_to zs level) (negated one))) front on)))) in
      let two_guarded : Guards floor (take done ys) ys two one = λ level above on.
      let late = second_late level (up_to-taken s.trail done level (negated two) (subst (λ (zs : List Assigned). IsTrue (is_on (up_to zs level) (negated two))) front on)) in
      subst (λ (zs : List Assigned). IsTrue (is_on zs one)) (sym (whole level late)) (subst (λ (l : Lit). IsTrue (is_on ys l)) is (on-last s.trail e)) in
      record {
        first = subst (λ (l : Lit). Guards floor (take done ys) ys l (lit_at of 1)) (sym watch.0) (subst (λ (l : Lit). Guards floor (take done ys) ys one l) (sym watch.1) one_guarded);
        second = subst (λ (l : Lit). Guards floor (take done ys) ys l (lit_at of 0)) (sym watch.1) (subst (λ (l : Lit). Guards floor (take done ys) ys two l) (sym watch.0) two_guarded);
      }

-- The pass that learns a lemma, entry by entry.
use Rattle.std.proofs.Common.{◌≡◌, ◌≢◌, ℕ, ◌+◌, ◌-◌, ◌≤◌, ℤ, pos, Bool, true, false, IsTrue, IsFalse, inl, inr, List, [], ◌∷◌, ◌++◌, length, slice_get, refl, ap, sym, ◌∙◌, subst, arith, Option, Some}
use Rattle.std.specs.Prelude.{◌==◌, is_some}
use Rattle.std.proofs.lemmas.Bool.{cases_eq, or_cases, or_left, or_right, and_from, and_parts, both_ways, eq-eqb, ne_eqb, false_from_ne_true}
use Rattle.std.proofs.lemmas.Option.{same_Some, slice_get_within}
use Rattle.cnf_types.specs.declared.literal.Lit.{Lit}
use Rattle.cnf_types.specs.Literals.{negated, variable}
use Rattle.proof_check.specs.Propagation.{is_among}
use Rattle.sat_core.specs.declared.assigned.Assigned.{Assigned}
use Rattle.sat_core.specs.Trails.{is_on, up_to}
use Rattle.sat_core.specs.States.{State, IsSound}
use Rattle.clean_logs.specs.Lemmas.{Makes}
use Rattle.sat_search.specs.Live.{clause_in}
use Rattle.sat_search.specs.Passes.{IsSetWithin, is_marked, is_open, open_in, so_far, IsDeep, HasOneOfLevel, IsPass, IsCleared, IsLive}
use Rattle.sat_search.proofs.Literals.{negated-negated, variable-negated}
use Rattle.sat_search.proofs.Trails.{set-entry, on-set, within_on, set_below, set_above, AreDistinct, not_both, parts_apart}
use Rattle.sat_search.proofs.Among.{same_test, among_push_cases, among_push_old, among_push_new, apart_push}
use Rattle.sat_search.proofs.Sound.{distinct_entries, level_most, up_to_on, on_up_to}
use Rattle.sat_search.proofs.Counts.{once, open_one_more, count_some, count_none}
use Rattle.sat_search.proofs.Hints.{refutes_more}
use Rattle.sat_search.proofs.Marking.{one_or_apart, cleared_off, cleared_other, cleared_was, cleared_apart}

-- hints make a set of literals, whatever test says what is in it
pub makes_same : (live : ℕ → Option (List Lit)) (hints : List ℤ) (set other : Lit → Bool) → ((m : Lit) → set m ≡ other m) → Makes live hints set → Makes live hints other
makes_same live hints set other e makes = let is : set ≡ other = λ i m. e m i in subst (λ (x : Lit → Bool). Makes live hints x) is makes

pub live_hint : (live : ℕ → Option (List Lit)) (id : ℕ) (lits : List Lit) → live id ≡ Some lits → IsLive live (pos id)
live_hint live id lits is = (id, refl, ap is_some is)

-- where nothing is marked nothing is open
pub none_open : (level : ℕ) (trail : List Assigned) (flags : List Bool) → ((l : Lit) → is_marked flags l ≡ false) → open_in level trail flags ≡ 0
none_open level trail flags none = count_none (is_open level flags) trail (λ k e there open_one.
    absurd (both_ways (is_marked flags (negated e.lit)) (none (negated e.lit)) (and_parts (e.level == level) (is_marked flags (negated e.lit)) open_one).1))

module _ (s : State) (sound : IsSound s) where
  pub distinct : AreDistinct s.trail
  distinct = distinct_entries s.clauses s.vars s.trail s.level sound.trail

  -- what is in the clause so far is false
  pub so_false : (first : ℕ) (flags : List Bool) (lits : List Lit) (hints : List ℤ) (current : ℕ) → IsPass s first flags lits hints current → (m : Lit) →
      IsTrue (so_far flags lits m) → IsTrue (is_on s.trail (negated m))
  so_false first flags lits hints current pass m h = elim (or_cases (is_marked flags m) (is_among lits m) h) [
    | inl marked ↦ within_on s.trail 0 first (negated m) (pass.pending m marked)
    | inr among ↦ within_on s.trail first (length s.trail) (negated m) (pass.settled m among)
  ]

  -- a literal and its negation are not both on the trail
  pub trail_consistent : (l : Lit) → IsTrue (is_on s.trail l) → IsTrue (is_on s.trail (negated l)) → ⊥
  trail_consistent l on off = not_both s.trail 0 (length s.trail) 0 (length s.trail) l distinct (on-set s.trail l on) (on-set s.trail (negated l) off)

  -- an entry whose negation is not in the clause so far
  pub pass_skips : (first : ℕ) (flags : List Bool) (lits : List Lit) (hints : List ℤ) (current : ℕ) (a : Assigned) → slice_get s.trail first ≡ Some a →
      is_marked flags (negated a.lit) ≡ false → IsPass s (first + 1) flags lits hints current → IsPass s first flags lits hints current
  pass_skips first flags lits hints current a at off pass = record {
    size = pass.size;
    pending = λ m marked. elim (set_below s.trail first a (negated m) at (pass.pending m marked)) [
      | inl here ↦ absurd (both_ways (is_marked flags (negated a.lit)) off (ap (is_marked flags) (ap negated here ∙ negated-negated m) ∙ marked))
      | inr below ↦ below
    ];
    settled = λ m among. set_above s.trail first (length s.trail) (negated m) (pass.settled m among);
    apart = pass.apart;
    refutes = pass.refutes;
    live = pass.live;
    chain = pass.chain;
    counted = pass.counted;
    risen = pass.risen;
    one = pass.one;
  }

  -- where an entry of the current level has its negation marked, so many are
  pub open_some : (flags : List Bool) (current first : ℕ) (a : Assigned) → slice_get s.trail first ≡ Some a → is_marked flags (negated a.lit) ≡ true →
      a.level ≡ s.level → current ≡ open_in s.level s.trail flags → 1 ≤ current
  open_some flags current first a at was level_is counted =
      omega (arith, counted, count_some (is_open s.level flags) s.trail first a at (and_from (a.level == s.level) (is_marked flags (negated a.lit)) (eq-eqb a.level s.level level_is) was))

  -- an entry below the current level makes its negation deep
  deep_entry : (first : ℕ) (a : Assigned) → slice_get s.trail first ≡ Some a → a.level ≢ s.level → IsDeep s (negated a.lit)
  deep_entry first a at other =
      let most : a.level ≤ s.level = level_most s.clauses s.vars s.trail s.level sound.trail first a at in
      subst (λ (l : Lit). IsTrue (is_on (up_to s.trail (s.level - 1)) l)) (sym (negated-negated a.lit)) (up_to_on s.trail (s.level - 1) first a at (omega arith))

  -- and one of it doesn't
  shallow_entry : (first : ℕ) (a : Assigned) → slice_get s.trail first ≡ Some a → a.level ≡ s.level → 1 ≤ s.level → IsFalse (is_on (up_to s.trail (s.level - 1)) (negated (negated a.lit)))
  shallow_entry first a at level_is up = false_from_ne_true (is_on (up_to s.trail (s.level - 1)) (negated (negated a.lit))) (λ h.
      let below = on_up_to s.trail (s.level - 1) (negated (negated a.lit)) h in
      let place : first ≡ below.place = distinct first below.place a below.entry at below.at (ap variable (sym (below.literal ∙ negated-negated a.lit))) in
      let same_entry : a ≡ below.entry = same_Some a below.entry (sym at ∙ ap (slice_get s.trail) place ∙ below.at) in
      absurd (omega (arith, below.low, ap (λ (x : Assigned). x.level) same_entry)))

  -- a literal that stays
  module _ (first : ℕ) (flags : List Bool) (lits : List Lit) (hints : List ℤ) (current : ℕ) (a : Assigned) (at : slice_get s.trail first ≡ Some a)
      (was : is_marked flags (negated a.lit) ≡ true) (pass : IsPass s (first + 1) flags lits hints current) (more : List Bool) (cleared : IsCleared flags more (negated a.lit)) where
    entry_within : IsSetWithin s.trail 0 (first + 1) a.lit
    entry_within = set-entry s.trail 0 (first + 1) first a a.lit (omega arith) (omega arith) at refl

    -- the literals that stay so far are of other variables
    apart_from_kept : (m : Lit) → IsTrue (is_among lits m) → variable m ≢ variable (negated a.lit)
    apart_from_kept m among e =
        parts_apart s.trail 0 (first + 1) (length s.trail) a.lit (negated m) distinct entry_within (pass.settled m among) (sym (variable-negated a.lit) ∙ sym e ∙ sym (variable-negated m))

    pub pending_below : (m : Lit) → IsTrue (is_marked more m) → IsSetWithin s.trail 0 first (negated m)
    pending_below m marked = elim (set_below s.trail first a (negated m) at (pass.pending m (cleared_was flags more (negated a.lit) cleared m marked))) [
      | inl here ↦ absurd (cleared_apart flags more (negated a.lit) cleared m marked (sym (ap negated here ∙ negated-negated m)))
      | inr below ↦ below
    ]

    pub counted_less : (rest : ℕ) → current ≡ rest + once (a.level == s.level) → rest ≡ open_in s.level s.trail more
    counted_less rest sum =
        let one = open_one_more s.level s.trail more flags (negated a.lit) first a distinct at refl (cleared_off flags more (negated a.lit) cleared) was
        (λ n apart. cleared_other flags more (negated a.lit) cleared n apart) in
        omega (arith, one, sum, pass.counted)

    so_far_kept : (m : Lit) → so_far flags lits m ≡ so_far more (lits ++ negated a.lit ∷ []) m
    so_far_kept m = same_test (so_far flags lits m) (so_far more (lits ++ negated a.lit ∷ []) m)
        (λ h. elim (or_cases (is_marked flags m) (is_among lits m) h) [
          | inl marked ↦ elim (one_or_apart m (negated a.lit)) [
            | inl is ↦ or_right (is_marked more m) (is_among (lits ++ negated a.lit ∷ []) m)
                (subst (λ (l : Lit). IsTrue (is_among (lits ++ negated a.lit ∷ []) l)) (sym is) (among_push_new lits (negated a.lit)))
            | inr apart ↦ or_left (is_marked more m) (is_among (lits ++ negated a.lit ∷ []) m) (cleared_other flags more (negated a.lit) cleared m apart ∙ marked)
          ]
          | inr among ↦ or_right (is_marked more m) (is_among (lits ++ negated a.lit ∷ []) m) (among_push_old lits (negated a.lit) m among)
        ])
        (λ h. elim (or_cases (is_marked more m) (is_among (lits ++ negated a.lit ∷ []) m) h) [
          | inl marked ↦ or_left (is_marked flags m) (is_among lits m) (cleared_was flags more (negated a.lit) cleared m marked)
          | inr among ↦ elim (among_push_cases lits (negated a.lit) m among) [
            | inl old ↦ or_right (is_marked flags m) (is_among lits m) old
            | inr is ↦ or_left (is_marked flags m) (is_among lits m) (ap (is_marked flags) is ∙ was)
          ]
        ])

    -- a literal of the current level stays
    point_here : (rest : ℕ) → current ≡ rest + once (a.level == s.level) → a.level ≡ s.level → current ≤ 1 → 1 ≤ s.level → HasOneOfLevel s lits current →
        HasOneOfLevel s (lits ++ negated a.lit ∷ []) rest
    point_here rest sum level_is few up (inl before) = inr (
      record {
        literal = negated a.lit;
        among = among_push_new lits (negated a.lit);
        on_level = shallow_entry first a at level_is up;
        others = λ m among apart. elim (among_push_cases lits (negated a.lit) m among) [ inl old ↦ before.0 m old | inr is ↦ absurd (apart is) ];
      },
      omega (arith, sum, ap once (eq-eqb a.level s.level level_is)),
    )
    point_here rest sum level_is few up (inr after) = absurd (omega (arith, after.1, open_some flags current first a at was level_is pass.counted))

    -- a literal below it stays
    point_elsewhere : (rest : ℕ) → current ≡ rest + once (a.level == s.level) → a.level ≢ s.level → HasOneOfLevel s lits current → HasOneOfLevel s (lits ++ negated a.lit ∷ []) rest
    point_elsewhere rest sum other (inl before) = inl (
      (λ m among. elim (among_push_cases lits (negated a.lit) m among) [
        | inl old ↦ before.0 m old
        | inr is ↦ subst (λ (l : Lit). IsDeep s l) (sym is) (deep_entry first a at other)
      ]),
      omega (arith, before.1, sum, ap once (ne_eqb a.level s.level other)),
    )
    point_elsewhere rest sum other (inr after) = inr (
      record {
        literal = after.0.literal;
        among = among_push_old lits (negated a.lit) after.0.literal after.0.among;
        on_level = after.0.on_level;
        others = λ m among apart. elim (among_push_cases lits (negated a.lit) m among) [
          | inl old ↦ after.0.others m old apart
          | inr is ↦ subst (λ (l : Lit). IsDeep s l) (sym is) (deep_entry first a at other)
        ];
      },
      omega (arith, after.1, sum),
    )

    pub pass_keeps : (rest : ℕ) → length more ≡ length flags → current ≡ rest + once (a.level == s.level) → 1 ≤ s.level → (a.level ≡ s.level → current ≤ 1) →
        IsPass s first more (lits ++ negated a.lit ∷ []) hints rest
    pass_keeps rest size sum up few = record {
      size = size ∙ pass.size;
      pending = pending_below;
      settled = λ m among. elim (among_push_cases lits (negated a.lit) m among) [
        | inl old ↦ set_above s.trail first (length s.trail) (negated m) (pass.settled m old)
        | inr is ↦ set-entry s.trail first (length s.trail) first a (negated m) (omega arith) (slice_get_within s.trail first a at) at (sym (ap negated is ∙ negated-negated a.lit))
      ];
      apart = apart_push lits (negated a.lit) pass.apart apart_from_kept;
      refutes = refutes_more (clause_in s.clauses) (so_far flags lits) (so_far more (lits ++ negated a.lit ∷ [])) hints (λ m h. sym (so_far_kept m) ∙ h) pass.refutes;
      live = pass.live;
      chain = makes_same (clause_in s.clauses) hints (so_far flags lits) (so_far more (lits ++ negated a.lit ∷ [])) so_far_kept pass.chain;
      counted = counted_less rest sum;
      risen = λ m among. up;
      one = λ risen. elim (cases_eq a.level s.level) [
        | inl level_is ↦ point_here rest sum level_is (few level_is) risen (pass.one risen)
        | inr other ↦ point_elsewhere rest sum other (pass.one risen)
      ];
    }

-- The pass that learns a lemma: an entry that is resolved away with its reason.
use Rattle.std.proofs.Common.{◌≡◌, ◌≢◌, ℕ, ◌+◌, ◌<◌, ◌≤◌, ℤ, pos, Bool, true, ◌&&◌, not, IsTrue, ◌⊎◌, inl, inr, List, ◌∷◌, length, take, slice_get, Contains, refl, ap, sym, ◌∙◌, subst, arith, Some}
use Rattle.std.specs.Prelude.{◌==◌}
use Rattle.std.proofs.lemmas.Bool.{or_cases, or_left, or_right, and_from, and_parts, both_ways, eq-eqb, eqb-true, not-true, not_from_false, ne_eqb}
use Rattle.std.proofs.lemmas.List.Elements.{All-cons}
use Rattle.cnf_types.specs.declared.literal.Lit.{Lit}
use Rattle.cnf_types.specs.Literals.{negated, variable}
use Rattle.proof_check.specs.Propagation.{same, is_among}
use Rattle.sat_core.specs.declared.assigned.Assigned.{Assigned}
use Rattle.sat_core.specs.Trails.{is_on, Implies}
use Rattle.sat_core.specs.States.{State, IsSound}
use Rattle.clean_logs.specs.Lemmas.{ClashesAt, resolvent}
use Rattle.clean_logs.specs.Lemmas.Makes.{resolved}
use Rattle.sat_search.specs.Live.{clause_in}
use Rattle.sat_search.specs.Passes.{IsSetWithin, is_marked, is_open, open_in, so_far, Refutes, HasOneOfLevel, IsPass, IsCleared, IsJoined, IsLive}
use Rattle.sat_search.proofs.Literals.{eq-same, negated-negated}
use Rattle.sat_search.proofs.Trails.{set-on, set-entry, within_on, set_below, set_above, parts_apart, entry_on}
use Rattle.sat_search.proofs.Among.{same_test, all_among, among_contains}
use Rattle.sat_search.proofs.Sound.{levels_rise}
use Rattle.sat_search.proofs.Counts.{once, count_le, count_none}
use Rattle.sat_search.proofs.Hints.{refutes_resolved}
use Rattle.sat_search.proofs.Marking.{one_or_apart, apart_same, cleared_other, cleared_was, cleared_apart, joined_cases, joined_old, joined_new}
use Rattle.sat_search.proofs.Passing.{distinct, trail_consistent, so_false, makes_same, live_hint, open_some, counted_less}

-- what an entry's negation and its reason leave in the clause so far
module _ (s : State) (sound : IsSound s) (first : ℕ) (flags : List Bool) (lits : List Lit) (hints : List ℤ) (current : ℕ) (a : Assigned) (at : slice_get s.trail first ≡ Some a)
    (was : is_marked flags (negated a.lit) ≡ true) (pass : IsPass s (first + 1) flags lits hints current)
    (cleared more : List Bool) (clears : IsCleared flags cleared (negated a.lit)) (id : ℕ) (reason : List Lit) (live : clause_in s.clauses id ≡ Some reason)
    (implies : Implies (take first s.trail) reason a.lit) (joins : IsJoined s.trail cleared more reason) where
  entry_on_trail : IsTrue (is_on s.trail a.lit)
  entry_on_trail = entry_on s.trail first a a.lit at refl

  -- the reason's other literals were false before the entry
  false_before : (m : Lit) → IsTrue (is_among reason m) → m ≢ a.lit → IsSetWithin s.trail 0 first (negated m)
  false_before m among apart = set-on s.trail first (negated m) (all_among (λ n. n ≢ a.lit → IsTrue (is_on (take first s.trail) (negated n))) reason m implies.others among apart)

  false_apart : (m : Lit) → IsTrue (is_on s.trail (negated m)) → m ≢ a.lit
  false_apart m off is = trail_consistent s sound a.lit entry_on_trail (subst (λ (l : Lit). IsTrue (is_on s.trail (negated l))) is off)

  pending_cases : (m : Lit) → IsTrue (is_marked more m) → (IsTrue (is_marked flags m) × (m ≢ negated a.lit)) ⊎ (IsTrue (is_among reason m) × (m ≢ a.lit))
  pending_cases m marked = elim (joined_cases s.trail cleared more reason joins m marked) [
    | inl old ↦ inl (cleared_was flags cleared (negated a.lit) clears m old, cleared_apart flags cleared (negated a.lit) clears m old)
    | inr new ↦ inr (new.0, false_apart m new.1)
  ]

  still_marked : (m : Lit) → IsTrue (is_marked flags m) → m ≢ negated a.lit → IsTrue (is_marked more m)
  still_marked m marked apart = joined_old s.trail cleared more reason joins m (cleared_other flags cleared (negated a.lit) clears m apart ∙ marked)

  newly_marked : (m : Lit) → IsTrue (is_among reason m) → m ≢ a.lit → IsTrue (is_marked more m)
  newly_marked m among apart = joined_new s.trail cleared more reason joins m among (within_on s.trail 0 first (negated m) (false_before m among apart))

  pending_before : (m : Lit) → IsTrue (is_marked more m) → IsSetWithin s.trail 0 first (negated m)
  pending_before m marked = elim (pending_cases m marked) [
    | inl old ↦ elim (set_below s.trail first a (negated m) at (pass.pending m old.0)) [
      | inl here ↦ absurd (old.1 (sym (ap negated here ∙ negated-negated m)))
      | inr below ↦ below
    ]
    | inr new ↦ false_before m new.0 new.1
  ]

  kept_apart : (m : Lit) → IsTrue (is_among lits m) → m ≢ negated a.lit
  kept_apart m among is =
      parts_apart s.trail 0 (first + 1) (length s.trail) a.lit (negated m) (distinct s sound) (set-entry s.trail 0 (first + 1) first a a.lit (omega arith) (omega arith) at refl) (pass.settled m among)
      (ap variable (sym (ap negated is ∙ negated-negated a.lit)))

  -- what is in the clause so far, but for the entry's negation, stays in it
  still_in : (m : Lit) → IsTrue (so_far flags lits m) → m ≢ negated a.lit → IsTrue (so_far more lits m)
  still_in m h apart = elim (or_cases (is_marked flags m) (is_among lits m) h) [
    | inl marked ↦ or_left (is_marked more m) (is_among lits m) (still_marked m marked apart)
    | inr among ↦ or_right (is_marked more m) (is_among lits m) among
  ]

  newly_in : (m : Lit) → IsTrue (is_among reason m) → m ≢ a.lit → IsTrue (so_far more lits m)
  newly_in m among apart = or_left (is_marked more m) (is_among lits m) (newly_marked m among apart)

  refuted : Refutes (clause_in s.clauses) (so_far more lits) (pos id ∷ hints)
  refuted = refutes_resolved (clause_in s.clauses) (so_far flags lits) (so_far more lits) a.lit id reason hints live
      (λ m h. elim (one_or_apart m (negated a.lit)) [ inl is ↦ inl is | inr apart ↦ inr (still_in m h apart) ])
      (λ m among. elim (one_or_apart m a.lit) [ inl is ↦ inl is | inr apart ↦ inr (newly_in m among apart) ])
      pass.refutes

  -- the two clash in the entry's variable alone
  clash : ClashesAt (so_far flags lits) (negated a.lit) reason
  clash = record {
    one = or_left (is_marked flags (negated a.lit)) (is_among lits (negated a.lit)) was;
    other = subst (λ (l : Lit). Contains reason l) (sym (negated-negated a.lit)) implies.held;
    alone = λ l h held. elim (one_or_apart (negated l) a.lit) [
      | inl is ↦ ap variable (sym (negated-negated l) ∙ ap negated is)
      | inr apart ↦ absurd (trail_consistent s sound l
          (subst (λ (x : Lit). IsTrue (is_on s.trail x)) (negated-negated l)
          (within_on s.trail 0 first (negated (negated l)) (false_before (negated l) (among_contains reason (negated l) held) apart)))
          (so_false s sound (first + 1) flags lits hints current pass l h))
    ];
  }

  not-same : (l m : Lit) → IsTrue (not (same l m)) → m ≢ l
  not-same l m h e = both_ways (same l m) (not-true (same l m) h) (eq-same l m (sym e))

  is_resolvent : (m : Lit) → resolvent (so_far flags lits) (negated a.lit) reason m ≡ so_far more lits m
  is_resolvent m = same_test (resolvent (so_far flags lits) (negated a.lit) reason m) (so_far more lits m)
      (λ h. elim (or_cases (so_far flags lits m && not (same (negated a.lit) m)) (is_among reason m && not (same (negated (negated a.lit)) m)) h) [
        | inl one ↦
            let parts = and_parts (so_far flags lits m) (not (same (negated a.lit) m)) one in
            still_in m parts.0 (not-same (negated a.lit) m parts.1)
        | inr other ↦
            let parts = and_parts (is_among reason m) (not (same (negated (negated a.lit)) m)) other in
            newly_in m parts.0 (λ is. not-same (negated (negated a.lit)) m parts.1 (is ∙ sym (negated-negated a.lit)))
      ])
      (λ h. elim (or_cases (is_marked more m) (is_among lits m) h) [
        | inl marked ↦ elim (pending_cases m marked) [
          | inl old ↦ or_left (so_far flags lits m && not (same (negated a.lit) m)) (is_among reason m && not (same (negated (negated a.lit)) m))
              (and_from (so_far flags lits m) (not (same (negated a.lit) m)) (or_left (is_marked flags m) (is_among lits m) old.0)
              (not_from_false (same (negated a.lit) m) (apart_same (negated a.lit) m old.1)))
          | inr new ↦ or_right (so_far flags lits m && not (same (negated a.lit) m)) (is_among reason m && not (same (negated (negated a.lit)) m))
              (and_from (is_among reason m) (not (same (negated (negated a.lit)) m)) new.0
              (not_from_false (same (negated (negated a.lit)) m) (apart_same (negated (negated a.lit)) m (λ is. new.1 (is ∙ negated-negated a.lit)))))
        ]
        | inr among ↦ or_left (so_far flags lits m && not (same (negated a.lit) m)) (is_among reason m && not (same (negated (negated a.lit)) m))
            (and_from (so_far flags lits m) (not (same (negated a.lit) m)) (or_right (is_marked flags m) (is_among lits m) among)
            (not_from_false (same (negated a.lit) m) (apart_same (negated a.lit) m (kept_apart m among))))
      ])

  -- marking more opens no fewer entries
  counted_more : (rest next : ℕ) → rest ≡ open_in s.level s.trail cleared → next ≡ open_in s.level s.trail more → rest ≤ next
  counted_more rest next before after =
      omega (
        arith,
        before,
        after,
        count_le (is_open s.level cleared) (is_open s.level more) s.trail (λ k e there open_one.
            let parts = and_parts (e.level == s.level) (is_marked cleared (negated e.lit)) open_one in
            and_from (e.level == s.level) (is_marked more (negated e.lit)) parts.0 (joined_old s.trail cleared more reason joins (negated e.lit) parts.1)),
      )

  -- an entry of the current level, of which there are others: one stays open
  point_resolved : (rest next : ℕ) → current ≡ rest + once (a.level == s.level) → rest ≤ next → a.level ≡ s.level → 2 ≤ current → HasOneOfLevel s lits current → HasOneOfLevel s lits next
  point_resolved rest next sum rises level_is many (inl before) = inl (before.0, omega (arith, sum, rises, many, ap once (eq-eqb a.level s.level level_is)))
  point_resolved rest next sum rises level_is many (inr after) = absurd (omega (arith, after.1, many))

  -- an entry below the current level: none is opened
  none_opened : (next : ℕ) → a.level < s.level → current ≡ 0 → next ≡ open_in s.level s.trail more → next ≡ 0
  none_opened next below none after = after ∙ count_none (is_open s.level more) s.trail (λ k e there open_one.
      let parts = and_parts (e.level == s.level) (is_marked more (negated e.lit)) open_one in
      let level_is : e.level ≡ s.level = eqb-true e.level s.level parts.0 in
      elim (pending_cases (negated e.lit) parts.1) [
        | inl old ↦ absurd (omega (arith, none, open_some s sound flags current k e there old.0 level_is pass.counted))
        | inr new ↦
            let before = false_before (negated e.lit) new.0 new.1 in
            let place : before.place ≡ k = distinct s sound before.place k before.entry e before.at there (ap variable (before.literal ∙ negated-negated e.lit)) in
            let low : e.level ≤ a.level = levels_rise s.clauses s.vars s.trail s.level sound.trail k first e a there at (omega (arith, place, before.before)) in
            absurd (omega (arith, low, below, level_is))
      ])

  point_below : (rest next : ℕ) → current ≡ rest + once (a.level == s.level) → rest ≤ next → a.level < s.level → next ≡ open_in s.level s.trail more →
      HasOneOfLevel s lits current → HasOneOfLevel s lits next
  point_below rest next sum rises below after (inl before) = inl (before.0, omega (arith, before.1, sum, rises, ap once (ne_eqb a.level s.level (λ e. absurd (omega (arith, e, below))))))
  point_below rest next sum rises below after (inr done) = inr (done.0, none_opened next below done.1 after)

  cleared_count : (rest : ℕ) → current ≡ rest + once (a.level == s.level) → rest ≡ open_in s.level s.trail cleared
  cleared_count rest sum = counted_less s sound first flags lits hints current a at was pass cleared clears rest sum

  pub pass_resolves : (rest next : ℕ) → length more ≡ length flags → current ≡ rest + once (a.level == s.level) → next ≡ open_in s.level s.trail more →
      (1 ≤ s.level → a.level < s.level) ⊎ ((a.level ≡ s.level) × (2 ≤ current)) → IsPass s first more lits (pos id ∷ hints) next
  pass_resolves rest next size sum after why = record {
    size = size ∙ pass.size;
    pending = pending_before;
    settled = λ m among. set_above s.trail first (length s.trail) (negated m) (pass.settled m among);
    apart = pass.apart;
    refutes = refuted;
    live = All-cons (IsLive (clause_in s.clauses)) (pos id) hints (live_hint (clause_in s.clauses) id reason live) pass.live;
    chain = makes_same (clause_in s.clauses) (pos id ∷ hints) (resolvent (so_far flags lits) (negated a.lit) reason) (so_far more lits) is_resolvent (resolved pass.chain live clash);
    counted = after;
    risen = pass.risen;
    one = λ up. elim why [
      | inl below ↦ point_below rest next sum (counted_more rest next (cleared_count rest sum) after) (below up) after (pass.one up)
      | inr on_level ↦ point_resolved rest next sum (counted_more rest next (cleared_count rest sum) after) on_level.0 on_level.1 (pass.one up)
    ];
  }

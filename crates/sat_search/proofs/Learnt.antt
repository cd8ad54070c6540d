-- How the pass begins with the clause of a conflict, and what it has learnt at its end.
use Rattle.std.proofs.Common.{◌≡◌, ℕ, ◌+◌, ◌-◌, ◌*◌, ◌≤◌, ℤ, pos, Bool, true, false, ◌||◌, IsTrue, inl, inr, List, [], ◌∷◌, length, slice_get, All, ap, sym, ◌∙◌, subst, arith, Some, None}
use Rattle.std.specs.Prelude.{◌==◌}
use Rattle.std.proofs.lemmas.Bool.{cases_lt, or_cases, or_left, or_right, and_from, and_parts, false≢true, both_ways, eq-eqb, false_from_ne_true}
use Rattle.std.proofs.lemmas.Option.{slice_get_within, get_or_from_slice_get}
use Rattle.std.proofs.lemmas.List.Elements.{All-cons, All-nil}
use Rattle.cnf_types.specs.declared.literal.Lit.{Lit}
use Rattle.cnf_types.specs.Literals.{negated}
use Rattle.proof_check.specs.Propagation.{is_among, chain_fault}
use Rattle.sat_core.specs.declared.assigned.Assigned.{Assigned}
use Rattle.sat_core.specs.declared.numbered.Numbered.{Numbered}
use Rattle.sat_core.specs.Trails.{is_on, up_to, IsFalsified}
use Rattle.sat_core.specs.Rest.{RestsOn}
use Rattle.sat_core.specs.States.{State, IsSound}
use Rattle.clean_logs.specs.Lemmas.{FindsMore, IsNew}
use Rattle.clean_logs.specs.Lemmas.Makes.{last}
use Rattle.sat_search.specs.Live.{clause_in}
use Rattle.sat_search.specs.Passes.{is_marked, is_open, open_in, so_far, HasPoint, IsPass, IsJoined, IsLive}
use Rattle.sat_search.proofs.Literals.{negated-negated}
use Rattle.sat_search.proofs.Trails.{on-set, entry_on}
use Rattle.sat_search.proofs.Among.{same_test, all_among, contains_among, among_contains, among_at}
use Rattle.sat_search.proofs.Sound.{level_most, up_to_on, on_up_to}
use Rattle.sat_search.proofs.Counts.{count_some, count_none}
use Rattle.sat_search.proofs.Hints.{refutes_conflict}
use Rattle.sat_search.proofs.Held.{at_held, held_at}
use Rattle.sat_search.proofs.Marking.{joined_cases, joined_new}
use Rattle.sat_search.proofs.Passing.{trail_consistent, so_false, makes_same, live_hint}

-- an item of a list on which all is true
pub all_at : {X : Type 0} (P : X → Type 0) (xs : List X) (k : ℕ) (x : X) → All P xs → slice_get xs k ≡ Some x → P x
all_at P xs k x all at = subst P (get_or_from_slice_get xs k x x at) (all k x (slice_get_within xs k x at))

module _ (s : State) (sound : IsSound s) where
  -- every literal of a set up to a level is on the trail
  on_whole : (level : ℕ) (l : Lit) → IsTrue (is_on (up_to s.trail level) l) → IsTrue (is_on s.trail l)
  on_whole level l h = let u = on_up_to s.trail level l h in entry_on s.trail u.place u.entry l u.at u.literal

  -- a falsified clause has a literal that was made false on the current level
  conflict_on_level : (lits : List Lit) (flags : List Bool) → IsFalsified s.trail lits → ((m : Lit) → IsTrue (is_among lits m) → IsTrue (is_marked flags m)) →
      1 ≤ s.level → RestsOn (is_on (up_to s.trail (s.level - 1))) lits → 1 ≤ open_in s.level s.trail flags
  conflict_on_level lits flags false_all marked up (inl some_true) =
      let l : Lit = some_true.1 in
      let among : IsTrue (is_among lits l) = among_at lits some_true.0 l l some_true.2 some_true.3 in
      absurd (trail_consistent s sound l (on_whole (s.level - 1) l some_true.4) (all_among (λ m. IsTrue (is_on s.trail (negated m))) lits l false_all among))
  conflict_on_level lits flags false_all marked up (inr two) =
      let l : Lit = two.one in
      let among : IsTrue (is_among lits l) = among_contains lits l two.one_held in
      let off = on-set s.trail (negated l) (all_among (λ m. IsTrue (is_on s.trail (negated m))) lits l false_all among) in
      let entry : Assigned = off.entry in
      let most : entry.level ≤ s.level = level_most s.clauses s.vars s.trail s.level sound.trail off.place entry off.at in
      let level_is : entry.level ≡ s.level = elim (cases_lt entry.level s.level) [
        | inl less ↦ absurd (both_ways (is_on (up_to s.trail (s.level - 1)) (negated l)) two.one_unset.not_false
            (subst (λ (m : Lit). IsTrue (is_on (up_to s.trail (s.level - 1)) m)) off.literal (up_to_on s.trail (s.level - 1) off.place entry off.at (omega arith))))
        | inr no_less ↦ omega arith
      ] in
      let marked_entry : is_marked flags (negated entry.lit) ≡ true = ap (is_marked flags) (ap negated off.literal ∙ negated-negated l) ∙ marked l among in
      count_some (is_open s.level flags) s.trail off.place entry off.at (and_from (entry.level == s.level) (is_marked flags (negated entry.lit)) (eq-eqb entry.level s.level level_is) marked_entry)

  module _ (none flags : List Bool) (unmarked : (m : Lit) → is_marked none m ≡ false) (k : ℕ) (c : Numbered) (at : slice_get s.clauses k ≡ Some c)
      (falsified : IsFalsified s.trail c.lits) (joins : IsJoined s.trail none flags c.lits) where
    marks_among : (m : Lit) → IsTrue (is_marked flags m) → IsTrue (is_among c.lits m) × IsTrue (is_on s.trail (negated m))
    marks_among m h = elim (joined_cases s.trail none flags c.lits joins m h) [
      | inl old ↦ absurd (both_ways (is_marked none m) (unmarked m) old)
      | inr new ↦ new
    ]

    among_marks : (m : Lit) → IsTrue (is_among c.lits m) → IsTrue (is_marked flags m)
    among_marks m among = joined_new s.trail none flags c.lits joins m among (all_among (λ l. IsTrue (is_on s.trail (negated l))) c.lits m falsified among)

    begins_with : (m : Lit) → is_among c.lits m ≡ so_far flags [] m
    begins_with m = same_test (is_among c.lits m) (so_far flags [] m)
        (λ among. or_left (is_marked flags m) false (among_marks m among))
        (λ h. elim (or_cases (is_marked flags m) false h) [ inl marked ↦ (marks_among m marked).0 | inr never ↦ absurd (false≢true never) ])

    -- the pass begins behind the last entry, with the clause of a conflict
    pub pass_begins : (current : ℕ) → length flags ≡ 2 * s.vars + 2 → current ≡ open_in s.level s.trail flags → IsPass s (length s.trail) flags [] (pos c.id ∷ []) current
    pass_begins current size counted =
        let live : clause_in s.clauses c.id ≡ Some c.lits = held_at s.clauses k c sound.different at in
        record {
          size = size;
          pending = λ m marked. on-set s.trail (negated m) (marks_among m marked).1;
          settled = λ m among. absurd (false≢true among);
          apart = λ i j d low high. absurd (omega arith);
          refutes = refutes_conflict (clause_in s.clauses) (so_far flags []) c.id c.lits live (λ m among. sym (begins_with m) ∙ among);
          live = All-cons (IsLive (clause_in s.clauses)) (pos c.id) [] (live_hint (clause_in s.clauses) c.id c.lits live) (All-nil (IsLive (clause_in s.clauses)));
          chain = makes_same (clause_in s.clauses) (pos c.id ∷ []) (is_among c.lits) (so_far flags []) begins_with (last live);
          counted = counted;
          risen = λ m among. absurd (false≢true among);
          one = λ up. inl (
            λ m among. absurd (false≢true among),
            omega (
              arith,
              counted,
              conflict_on_level c.lits flags falsified among_marks up
                  (all_at (λ d. RestsOn (is_on (up_to s.trail (s.level - 1))) d.lits) s.clauses k c (sound.rest (s.level - 1) (omega arith)) at),
            ),
          );
        }

  -- at its end, before the first entry
  module _ (flags : List Bool) (lits : List Lit) (hints : List ℤ) (current : ℕ) (pass : IsPass s 0 flags lits hints current) where
    -- no literal is marked
    pub end_unmarked : (m : Lit) → is_marked flags m ≡ false
    end_unmarked m = false_from_ne_true (is_marked flags m) (λ h. absurd (omega (arith, (pass.pending m h).before)))

    end_literals : (m : Lit) → so_far flags lits m ≡ is_among lits m
    end_literals m = ap (λ b. b || is_among lits m) (end_unmarked m)

    -- the hints show the lemma
    pub end_shown : chain_fault (clause_in s.clauses) (is_among lits) 0 hints ≡ None
    end_shown = pass.refutes (is_among lits) (λ m h. sym (end_literals m) ∙ h) 0

    -- a literal of the lemma is false
    pub end_false : (m : Lit) → IsTrue (is_among lits m) → IsTrue (is_on s.trail (negated m))
    end_false m among = so_false s sound 0 flags lits hints current pass m (or_right (is_marked flags m) (is_among lits m) among)

    none_current : current ≡ 0
    none_current = pass.counted ∙ count_none (is_open s.level flags) s.trail
        (λ k e there open_one. absurd (both_ways (is_marked flags (negated e.lit)) (end_unmarked (negated e.lit)) (and_parts (e.level == s.level) (is_marked flags (negated e.lit)) open_one).1))

    end_point : 1 ≤ s.level → HasPoint s lits
    end_point up = elim (pass.one up) [
      | inl before ↦ absurd (omega (arith, before.1, none_current))
      | inr after ↦ after.0
    ]

    -- the trail below the current level is a set at rest
    end_finds : HasPoint s lits → 1 ≤ s.level → FindsMore (clause_in s.clauses) lits
    end_finds point up = record {
      left = point.literal;
      held = contains_among lits point.literal point.among;
      set = is_on (up_to s.trail (s.level - 1));
      others = λ l held apart. point.others l (among_contains lits l held) apart;
      left_unset = record {
        not_true = false_from_ne_true (is_on (up_to s.trail (s.level - 1)) point.literal)
            (λ h. trail_consistent s sound point.literal (on_whole (s.level - 1) point.literal h) (end_false point.literal point.among));
        not_false = point.on_level;
      };
      consistent = λ l on. false_from_ne_true (is_on (up_to s.trail (s.level - 1)) (negated l))
          (λ off. trail_consistent s sound l (on_whole (s.level - 1) l on) (on_whole (s.level - 1) (negated l) off));
      at_rest = λ id lits_of is.
          let held = at_held s.clauses id lits_of is in
          subst (λ (ls : List Lit). RestsOn (is_on (up_to s.trail (s.level - 1))) ls) held.lits_are
          (all_at (λ d. RestsOn (is_on (up_to s.trail (s.level - 1))) d.lits) s.clauses held.place held.clause (sound.rest (s.level - 1) (omega arith)) held.at);
    }

    -- a lemma with literals is new
    pub end_new : (l : Lit) → IsTrue (is_among lits l) → IsNew (clause_in s.clauses) lits hints
    end_new l among = record {
      different = pass.apart;
      finds_more = end_finds (end_point (pass.risen l among)) (pass.risen l among);
      chain = record { made = so_far flags lits; makes = pass.chain; same_literals = end_literals };
    }

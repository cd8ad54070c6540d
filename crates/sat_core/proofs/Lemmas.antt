-- What a core keeps when it learns a lemma above level 0.
use Rattle.std.proofs.Common.{◌≡◌, ◌≢◌, ℕ, ◌+◌, ◌-◌, ◌^◌, ◌<◌, ◌≤◌, inl, inr, List, [], ◌∷◌, ◌++◌}
use Rattle.std.proofs.Common.{length, max, take, All, Some, IsSomeAnd, Option, IfSome, option_map, refl, sym, ap, ◌∙◌, subst, arith}
use Rattle.std.specs.List.{slice_get}
use Rattle.std.proofs.lemmas.Bool.{cases_lt}
use Rattle.std.proofs.lemmas.List.{length_push}
use Rattle.std.proofs.lemmas.List.Elements.{All-push, All-weaker}
use Rattle.std.proofs.lemmas.List.Quantifiers.{all_pairs_push}
use Rattle.std.proofs.lemmas.Option.{slice_get_within}
use Rattle.clause_pool.specs.declared.place.Place.{Place}
use Rattle.clause_pool.specs.Pools.{Entry, State as Pool, clause_at, lit_at}
use Rattle.clause_pool.proofs.Sound.{if-some, at-some}
use Rattle.sat_core.specs.declared.numbered.Numbered.{Numbered}
use Rattle.sat_core.specs.declared.assigned.Assigned.{Assigned}
use Rattle.sat_core.specs.declared.assigned.Held.{Held}
use Rattle.sat_core.specs.declared.engine.Core.TheInside.{Inside}
use Rattle.sat_core.specs.Trails.{IsOf, is_on, up_to}
use Rattle.sat_core.specs.Rest.{IsAtRest, RestsOn}
use Rattle.sat_core.specs.States.{IsAsserting}
use Rattle.sat_core.specs.Assignments.{with_entry}
use Rattle.sat_core.specs.Progressing.{AreInRange, Continues}
use Rattle.sat_core.specs.Stores.{with_row}
use Rattle.sat_core.specs.Placed.{IsPlaced}
use Rattle.sat_core.specs.Watches.{Gains, IsGuarded, IsLinked, IsNarrow}
use Rattle.sat_core.specs.Kept.{IsKeptCore, state}
use Rattle.sat_core.proofs.Gets.{slice_get-push, get-last}
use Rattle.sat_core.proofs.Guards.{guarded-grown, level-over}
use Rattle.sat_core.proofs.Growing.{continues-implied, implied, lower-same}
use Rattle.sat_core.proofs.Underway.{true-more}
use Rattle.sat_core.proofs.Steps.{trail-more}
use Rattle.sat_core.proofs.Asserting.{implies_first, not_narrow, rests_below, guards_lemma}

some-at : {X : Type 0} (o : Option X) (x : X) (P : X → Type 0) → o ≡ Some x → IsSomeAnd o P → P x
some-at {X} o x P is h = subst (λ (q : Option X). IsSomeAnd q P) is h

-- a lemma joins the list and the pool, and implies its first literal
pub kept-learnt : (c : Inside) (n : Numbered) (place : Option Place) (pool : Pool) (last : ℕ) (held : Held) → IsKeptCore c → IsAsserting (state c) n.lits →
    All (IsOf c.trail.vars) n.lits → length c.store.clauses < 2 ^ 32 - 1 → All (λ d. d.id ≢ n.id) c.store.clauses → last ≡ max c.last_id n.id → held.0 ≡ length c.store.clauses →
    IsLinked c.trail.vars (c.store.clauses ++ n ∷ []) pool → IsPlaced (with_row c.store n place) pool → Gains c.pool (lit_at n.lits 0) (lit_at n.lits 1) pool →
    IsKeptCore (record c {
      store = with_row c.store n place;
      pool = pool;
      trail = with_entry c.trail (implied c.trail (lit_at n.lits 0) held);
      last_id = last;
      progress =
          record { seen = held.0 + 1; done = c.progress.done; floor = c.progress.floor };
    })
kept-learnt c n place pool last held kept asserts range few fresh most held_is linked placed gains =
    let a = c.trail in
    let clauses = c.store.clauses in
    let sound = kept.sound in
    let u = kept.underway in
    let p = c.progress in
    let e : Assigned = implied a (lit_at n.lits 0) held in
    let b = with_entry a e in
    let more = clauses ++ n ∷ [] in
    let size = length_push clauses n in
    let trail_size = length_push a.entries e in
    let seen : p.seen ≡ length clauses = elim (cases_lt p.seen (length clauses)) [ inl l ↦ absurd (omega (arith, u.fresh l, asserts.risen)) | inr m ↦ omega (arith, m, u.seen) ] in
    let in_range : AreInRange a.vars more = All-push (λ (d : Numbered). All (IsOf a.vars) d.lits) clauses n sound.range range in
    let at : option_map (λ (d : Numbered). d.lits) (slice_get more held.0) ≡ Some n.lits = ap (option_map (λ (d : Numbered). d.lits)) (ap (slice_get more) held_is ∙ get-last clauses n) in
    let continues : Continues more a b = continues-implied more a n.lits (lit_at n.lits 0) held (trail-more clauses n a sound.trail) at range asserts.unset
    (implies_first (state c) sound n.lits asserts) in
    record {
      sound = record {
        range = in_range;
        ids = All-push (λ (d : Numbered). d.id ≤ last) clauses n (All-weaker (λ (d : Numbered). d.id ≤ c.last_id) (λ (d : Numbered). d.id ≤ last) (λ d h. omega arith) clauses sound.ids) (omega arith);
        different = all_pairs_push (λ (d e : Numbered). d.id ≢ e.id) clauses n sound.different fresh;
        few = omega arith;
        small = sound.small;
        trail = continues.trail;
        rest = λ lower below.
            let same = lower-same a.entries b.entries a.level lower continues.grown below in
            subst (λ (xs : List Assigned). IsAtRest more (is_on xs)) (sym same)
            (All-push (λ (d : Numbered). RestsOn (is_on (up_to a.entries lower)) d.lits) clauses n (sound.rest lower below) (rests_below (state c) sound n.lits asserts lower below));
      };
      marks = kept.marks;
      underway = record {
        small = u.small;
        few = omega arith;
        range = in_range;
        trail_is = continues.trail;
        linked = linked;
        placed = placed;
        seen = omega arith;
        fresh = λ l. absurd (omega arith);
        narrow = λ place d m is thin. elim (slice_get-push clauses n place d is) [
          | inl before ↦ true-more a.entries (e ∷ []) 0 d.lits (u.narrow place d (omega (arith, seen, slice_get_within clauses place d before)) before thin)
          | inr (end, same) ↦ absurd (not_narrow (state c) sound n.lits asserts (subst (λ (x : Numbered). IsNarrow x.lits) same thin))
        ];
        done = omega (arith, u.done, trail_size);
        floor = u.floor;
        guarded = λ q. elim (gains q) [
          | inl old ↦ subst (λ o. IfSome o (λ x. IsGuarded p.floor (take p.done b.entries) b.entries x.lits)) (sym old)
              (if-some (clause_at c.pool q) _ (λ x is. guarded-grown p.floor p.done a.entries (e ∷ []) x.lits u.done
              (at-some (clause_at c.pool q) x (λ (y : Entry). IsGuarded p.floor (take p.done a.entries) a.entries y.lits) is (u.guarded q))))
          | inr new ↦ if-some (clause_at pool q) _ (λ x is.
              guards_lemma (state c) sound n.lits asserts p.floor p.done e x.lits u.done refl (λ level over. level-over more b level continues.trail over)
              (some-at (clause_at pool q) x (λ (y : Entry). (lit_at y.lits 0 ≡ lit_at n.lits 0) × (lit_at y.lits 1 ≡ lit_at n.lits 1)) is new))
        ];
        late = λ k x above is lower fl le. elim (slice_get-push a.entries e k x is) [
          | inl before ↦ u.late k x above before lower fl le
          | inr (end, same) ↦ omega (arith, le, ap (λ (y : Assigned). y.level) same)
        ];
      };
    }

-- What a core keeps when it forgets a clause, and when its pool is compacted.
use Rattle.std.proofs.Common.{◌≡◌, ◌≢◌, ℕ, ◌-◌, ◌<◌, ◌≤◌, inl, inr, Bool, option_map, List, length, take}
use Rattle.std.proofs.Common.{All, Contains, Option, Some, None, IfSome, IsSomeAnd, IsTrue, refl, sym, ap, ◌∙◌, subst, arith}
use Rattle.std.specs.List.{slice_get}
use Rattle.std.proofs.lemmas.Bool.{cases_lt}
use Rattle.std.proofs.lemmas.Option.{slice_get_within}
use Rattle.std.proofs.lemmas.List.Elements.{All-contains}
use Rattle.cnf_types.specs.declared.literal.Lit.{Lit}
use Rattle.cnf_types.specs.Literals.{negated}
use Rattle.clause_pool.specs.declared.place.Place.{Place}
use Rattle.clause_pool.specs.Pools.{Entry, State, IsSound, clause_at}
use Rattle.clause_pool.specs.Compacted.{IsCompacted}
use Rattle.clause_pool.proofs.Sound.{if-some, at-some, and-some, some-and}
use Rattle.sat_core.specs.declared.numbered.Numbered.{Numbered}
use Rattle.sat_core.specs.declared.assigned.Assigned.{Assigned}
use Rattle.sat_core.specs.declared.assigned.Held.{Held}
use Rattle.sat_core.specs.declared.progress.Progress.{Progress}
use Rattle.sat_core.specs.declared.engine.Core.TheInside.{Inside}
use Rattle.sat_core.specs.Trails.{IsOf, IsTrail, IsUnset, Implies, MayFollow, clause_at as list_clause, is_on, up_to}
use Rattle.sat_core.specs.Rest.{IsAtRest, RestsOn}
use Rattle.sat_core.specs.Assignments.{Assignment}
use Rattle.sat_core.specs.Progressing.{AreInRange}
use Rattle.sat_core.specs.Stores.{Stored, without_row}
use Rattle.sat_core.specs.Placed.{IsPlaced}
use Rattle.sat_core.specs.Watches.{AreSame, Guards, IsGuarded, IsLinked}
use Rattle.sat_core.specs.Kept.{IsKeptCore}
use Rattle.sat_core.specs.Forgotten.{moved, moved_entries, moved_reason, without_at, IsNoReason, IsMoved}
use Rattle.sat_core.proofs.Clauses.{clause-there}
use Rattle.sat_core.proofs.Linking.{in-list}
use Rattle.sat_core.proofs.Placed.{placed-removed}
use Rattle.sat_core.proofs.Removed.{no_clause, length_removed, from_removed, to_removed, all_removed, pairs_removed}
use Rattle.sat_core.proofs.Moved.{counted, same-on, decisions-moved, take-moved, length-moved, level-moved, at-moved, each-moved}

-- the pool and the list lost the same clause
pub linked-forgotten : (vars : ℕ) (clauses : List Numbered) (pool new : State) (at : ℕ) → at < length clauses → IsLinked vars clauses pool →
    IsMoved (length clauses - 1) at pool new → IsLinked vars (without_at clauses at) new
linked-forgotten vars clauses pool new at inside linked m = record {
  vars_are = m.vars ∙ linked.vars_are;
  sound = m.sound;
  held = λ p. if-some (clause_at new p) _ (λ e is.
      let r = m.from p e is in
      let (n, there, same) = in-list vars clauses pool p r.0 linked r.1 in
      some-and (slice_get (without_at clauses at) e.id) n (λ (x : Numbered). AreSame x.lits e.lits)
      (ap (λ (k : ℕ). slice_get (without_at clauses at) k) r.4 ∙ to_removed no_clause clauses at inside r.0.id n r.3 there)
      (subst (λ (ls : List Lit). AreSame n.lits ls) (sym r.2) same));
  all = λ k c is.
      let r = from_removed no_clause clauses at inside k c is in
      elim (linked.all r.0 c r.2) [
        | inr beside ↦ inr beside
        | inl i ↦
            let f = and-some (clause_at pool i.place) (λ (x : Entry). x.id ≡ r.0) i.is in
            let t = m.to i.place f.value f.is (λ e. r.1 (sym f.holds ∙ e)) in
            inl (record { place = i.place; is = some-and (clause_at new i.place) t.0 (λ (x : Entry). x.id ≡ k) t.1 (t.2 ∙ ap (λ (n : ℕ). moved (length clauses - 1) at n) f.holds ∙ sym r.3) })
      ];
}

implies-moved : (last at : ℕ) (before : List Assigned) (lits : List Lit) (l : Lit) → Implies before lits l → Implies (moved_entries last at before) lits l
implies-moved last at before lits l h = record { held = h.held; others = subst (λ (set : Lit → Bool). All (λ m. m ≢ l → IsTrue (set (negated m))) lits) (sym (same-on last at before)) h.others }

-- a reason that is not forgotten stays one
reason-moved : (clauses : List Numbered) (at : ℕ) (before : List Assigned) (l : Lit) (r : Option Held) → at < length clauses → ((h : Held) → r ≡ Some h → h.0 ≢ at) →
    IfSome r (λ h. IsSomeAnd (list_clause clauses h) (λ lits. Implies before lits l)) →
    IfSome (moved_reason (length clauses - 1) at r) (λ h. IsSomeAnd (list_clause (without_at clauses at) h) (λ lits. Implies (moved_entries (length clauses - 1) at before) lits l))
reason-moved clauses at before l None inside other h = tt
reason-moved clauses at before l (Some held) inside other h =
    let f = and-some (list_clause clauses held) (λ (lits : List Lit). Implies before lits l) h in
    let (c, there, lits_are) = clause-there clauses held f.value f.is in
    let to : Held = record { 0 = moved (length clauses - 1) at held.0 } in
    let now : list_clause (without_at clauses at) to ≡ Some f.value =
    ap (λ (o : Option Numbered). option_map (λ (c : Numbered). c.lits) o) (to_removed no_clause clauses at inside held.0 c (other held refl) there) ∙ ap (λ (ls : List Lit). Some ls) lits_are in
    some-and (list_clause (without_at clauses at) to) f.value (λ (lits : List Lit). Implies (moved_entries (length clauses - 1) at before) lits l) now
    (implies-moved (length clauses - 1) at before f.value l f.holds)

trail-forgotten : (clauses : List Numbered) (h : Held) (a : Assignment) → h.0 < length clauses → IsNoReason a.entries h →
    IsTrail clauses a.vars a.entries a.level → IsTrail (without_at clauses h.0) a.vars (moved_entries (length clauses - 1) h.0 a.entries) a.level
trail-forgotten clauses h a inside free trail =
    record {
      entries = each-moved (MayFollow clauses a.vars) (MayFollow (without_at clauses h.0) a.vars) (length clauses - 1) h.0 a.entries (λ before e held m. record {
        range = m.range;
        unset = subst (λ (set : Lit → Bool). IsUnset set e.lit) (sym (same-on (length clauses - 1) h.0 before)) m.unset;
        level = m.level ∙ sym (counted (length clauses - 1) h.0 before e);
        reason = reason-moved clauses h.0 before e.lit e.reason inside
            (λ other is same. All-contains (λ (x : Assigned). x.reason ≢ Some h) a.entries e free held (is ∙ ap (λ (k : ℕ). let x : Option Held = Some (record { 0 = k }) in x) same)) m.reason;
      }) trail.entries;
      levels = trail.levels ∙ sym (decisions-moved (length clauses - 1) h.0 a.entries);
    }

guards-moved : (last at floor done : ℕ) (xs : List Assigned) (w o : Lit) → Guards floor (take done xs) xs w o → Guards floor (take done (moved_entries last at xs)) (moved_entries last at xs) w o
guards-moved last at floor done xs w o g level above on =
    level-moved last at xs level o ∙ g level above (sym
    (ap (λ (ys : List Assigned). is_on (up_to ys level) (negated w)) (take-moved last at done xs) ∙ level-moved last at (take done xs) level (negated w)) ∙ on)

guarded-moved : (last at floor done : ℕ) (xs : List Assigned) (lits : List Lit) → IsGuarded floor (take done xs) xs lits →
    IsGuarded floor (take done (moved_entries last at xs)) (moved_entries last at xs) lits
guarded-moved last at floor done xs lits g = record {
  first = guards-moved last at floor done xs _ _ g.first;
  second = guards-moved last at floor done xs _ _ g.second;
}

rest-moved : (last at : ℕ) (clauses left : List Numbered) (xs : List Assigned) (level : ℕ) → ((P : Numbered → Type 0) → All P clauses → All P left) →
    IsAtRest clauses (is_on (up_to xs level)) → IsAtRest left (is_on (up_to (moved_entries last at xs) level))
rest-moved last at clauses left xs level kept rest =
    let same : is_on (up_to (moved_entries last at xs) level) ≡ is_on (up_to xs level) = λ i l. level-moved last at xs level l i in
    subst (λ (set : Lit → Bool). IsAtRest left set) (sym same) (kept (λ c. RestsOn (is_on (up_to xs level)) c.lits) rest)

-- a clause is forgotten
pub kept-forgotten : (c : Inside) (h : Held) (pool : State) (q : Progress) → IsKeptCore c → h.0 < length c.store.clauses → IsNoReason c.trail.entries h →
    IsMoved (length c.store.clauses - 1) h.0 c.pool pool →
    (length c.store.clauses - 1 < c.progress.seen → q.seen ≡ length c.store.clauses - 1) → (c.progress.seen ≤ length c.store.clauses - 1 → q.seen ≡ 0) →
    q.done ≡ c.progress.done → q.floor ≡ c.progress.floor →
    IsKeptCore (record c { store = without_row c.store h.0; pool = pool; trail = record c.trail { entries = moved_entries (length c.store.clauses - 1) h.0 c.trail.entries }; progress = q })
kept-forgotten c h pool q kept inside free m all anew done floor =
    let a = c.trail in
    let clauses = c.store.clauses in
    let left = without_at clauses h.0 in
    let xs = a.entries in
    let ys = moved_entries (length clauses - 1) h.0 xs in
    let sound = kept.sound in
    let u = kept.underway in
    let p = c.progress in
    let size = length_removed no_clause clauses h.0 inside in
    let trail = trail-forgotten clauses h a inside free sound.trail in
    let range : AreInRange a.vars left = all_removed no_clause clauses h.0 inside (λ d. All (IsOf a.vars) d.lits) sound.range in
    record {
      sound = record {
        range = range;
        ids = all_removed no_clause clauses h.0 inside (λ d. d.id ≤ c.last_id) sound.ids;
        different = pairs_removed no_clause clauses h.0 inside (λ d e. d.id ≢ e.id) (λ d e other same. other (sym same)) sound.different;
        few = omega (arith, sound.few, size);
        small = sound.small;
        trail = trail;
        rest = λ lower below. rest-moved (length clauses - 1) h.0 clauses left xs lower (λ P. all_removed no_clause clauses h.0 inside P) (sound.rest lower below);
      };
      marks = kept.marks;
      underway = record {
        small = u.small;
        few = omega (arith, u.few, size);
        range = range;
        trail_is = trail;
        linked = linked-forgotten a.vars clauses c.pool pool h.0 inside u.linked m;
        placed = placed-removed c.store c.pool pool h.0 inside u.placed m;
        seen = elim (cases_lt (length clauses - 1) p.seen) [ inl l ↦ omega (arith, all l, size) | inr l ↦ omega (arith, anew l) ];
        fresh = λ l. elim (cases_lt (length clauses - 1) p.seen) [ inl k ↦ absurd (omega (arith, all k, size, l)) | inr k ↦ u.fresh (omega (arith, k, inside)) ];
        narrow = λ place n l is thin. elim (cases_lt (length clauses - 1) p.seen) [
          | inl k ↦
              let r = from_removed no_clause clauses h.0 inside place n is in
              let (i, x, within, at, on) = u.narrow r.0 n (omega (arith, k, slice_get_within clauses r.0 n r.2)) r.2 thin in
              (i, x, within, at, level-moved (length clauses - 1) h.0 xs 0 x ∙ on)
          | inr k ↦ absurd (omega (arith, anew k, l))
        ];
        done = omega (arith, done, u.done, length-moved (length clauses - 1) h.0 xs);
        floor = omega (arith, floor, u.floor);
        guarded = λ r. if-some (clause_at pool r) _ (λ e is.
            let f = m.from r e is in
            let g = at-some (clause_at c.pool r) f.0 (λ (y : Entry). IsGuarded p.floor (take p.done xs) xs y.lits) f.1 (u.guarded r) in
            subst (λ (n : ℕ). IsGuarded n (take q.done ys) ys e.lits) (sym floor)
            (subst (λ (n : ℕ). IsGuarded p.floor (take n ys) ys e.lits) (sym done) (subst (λ (ls : List Lit). IsGuarded p.floor (take p.done ys) ys ls) (sym f.2)
            (guarded-moved (length clauses - 1) h.0 p.floor p.done xs f.0.lits g))));
        late = λ k e above is lower fl le.
            let r = at-moved (length clauses - 1) h.0 xs k e is in
            u.late k r.0 (omega (arith, above, done)) r.1 lower (omega (arith, fl, floor)) (omega (arith, le, ap (λ (y : Assigned). y.level) r.2));
      };
    }

-- the pool is compacted
pub kept-compacted : (c : Inside) (store : Stored) (pool : State) (before after : List (Place × Place)) → IsKeptCore c → IsCompacted c.pool pool before after →
    IsSound pool → store.clauses ≡ c.store.clauses → IsPlaced store pool → IsKeptCore (record c { store = store; pool = pool })
kept-compacted c store pool before after kept m sound clauses placed =
    let u = kept.underway in
    let from : (q : Place) (e : Entry) → clause_at pool q ≡ Some e → (p : Place) × (clause_at c.pool p ≡ Some e) = λ q e is.
    let t = at-some (clause_at pool q) e (λ (_ : Entry). (p : Place) × Contains m.moves (p, q)) is (m.only q) in
    (t.0, sym (m.same t.0 q t.1).0 ∙ is) in
    let clauses_are : c.store.clauses ≡ store.clauses = sym clauses in
    subst (λ (s : Stored). IsKeptCore (record c { store = s; pool = pool })) (ap (λ (cs : List Numbered). let s : Stored = record { clauses = cs; places = store.places } in s) clauses_are) (record {
      sound = kept.sound;
      marks = kept.marks;
      underway = record {
        small = u.small;
        few = u.few;
        range = u.range;
        trail_is = u.trail_is;
        linked = record {
          vars_are = m.vars ∙ u.linked.vars_are;
          sound = sound;
          held = λ q. if-some (clause_at pool q) _
              (λ e is. let t = from q e is in at-some (clause_at c.pool t.0) e (λ (x : Entry). IsSomeAnd (slice_get c.store.clauses x.id) (λ n. AreSame n.lits x.lits)) t.1 (u.linked.held t.0));
          all = λ k n is. elim (u.linked.all k n is) [
            | inr beside ↦ inr beside
            | inl i ↦
                let f = and-some (clause_at c.pool i.place) (λ (x : Entry). x.id ≡ k) i.is in
                let t = at-some (clause_at c.pool i.place) f.value (λ (_ : Entry). (q : Place) × Contains m.moves (i.place, q)) f.is (m.each i.place) in
                inl (record { place = t.0; is = some-and (clause_at pool t.0) f.value (λ (x : Entry). x.id ≡ k) ((m.same i.place t.0 t.1).0 ∙ f.is) f.holds })
          ];
        };
        placed = record {
          size = placed.size ∙ sym (ap length clauses_are);
          live = placed.live;
          known = placed.known;
        };
        seen = u.seen;
        fresh = u.fresh;
        narrow = u.narrow;
        done = u.done;
        floor = u.floor;
        guarded = λ q. if-some (clause_at pool q) _ (λ e is. let t =
            from q e is in at-some (clause_at c.pool t.0) e (λ (x : Entry). IsGuarded c.progress.floor (take c.progress.done c.trail.entries) c.trail.entries x.lits) t.1 (u.guarded t.0));
        late = u.late;
      };
    })

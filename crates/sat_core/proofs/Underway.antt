-- What propagation keeps while it is underway.
use Rattle.std.proofs.Common.{◌≡◌, ℕ, ◌+◌, ◌<◌, ◌≤◌, inl, inr, List, ◌++◌, length, get_or, take, Some, sym, ap, ◌∙◌, subst, arith}
use Rattle.std.specs.List.{slice_get}
use Rattle.std.proofs.lemmas.Bool.{cases_lt}
use Rattle.std.proofs.lemmas.Option.{same_Some, slice_get-get_or}
use Rattle.std.proofs.lemmas.List.{take_all}
use Rattle.std.proofs.lemmas.List.Elements.{All-contains}
use Rattle.cnf_types.specs.declared.literal.Lit.{Lit}
use Rattle.cnf_types.specs.Literals.{negated}
use Rattle.clause_pool.specs.Pools.{Entry, State, IsClause, clause_at}
use Rattle.clause_pool.proofs.Sound.{if-some, at-some, and-some}
use Rattle.sat_core.specs.declared.numbered.Numbered.{Numbered}
use Rattle.sat_core.specs.declared.assigned.Assigned.{Assigned}
use Rattle.sat_core.specs.declared.assigned.Held.{Held}
use Rattle.sat_core.specs.declared.progress.Progress.{Progress}
use Rattle.sat_core.specs.Trails.{IsOf, MayFollow, is_on, up_to}
use Rattle.sat_core.specs.Rest.{IsAtRest}
use Rattle.sat_core.specs.Assignments.{Assignment}
use Rattle.sat_core.specs.Stores.{Stored}
use Rattle.sat_core.specs.Progressing.{AreInRange, IsUnderway, IsWalkedFor, Continues, RestsAt, HasTrue}
use Rattle.sat_core.specs.Placed.{IsPlaced}
use Rattle.sat_core.specs.Watches.{AreGuarded, IsGuarded, AreSame, IsLate, IsLinked}
use Rattle.sat_core.proofs.Literals.{variable-negated, negated-negated}
use Rattle.sat_core.proofs.Fronts.{each-at}
use Rattle.sat_core.proofs.Consistent.{entries-fit}
use Rattle.sat_core.proofs.Sound.{stands}
use Rattle.sat_core.proofs.Gets.{slice_get-append}
use Rattle.sat_core.proofs.Clauses.{rests-there}
use Rattle.sat_core.proofs.Guards.{on-more, guarded-grown, level-over}
use Rattle.sat_core.proofs.Linking.{in-list}
use Rattle.sat_core.proofs.Settling.{narrow-true, true-rests, both-rests, same-rests, guarded-rests}
use Rattle.sat_core.proofs.Growing.{longer}

pub true-more : (xs ys : List Assigned) (level : ℕ) (lits : List Lit) → HasTrue (up_to xs level) lits → HasTrue (up_to (xs ++ ys) level) lits
true-more xs ys level lits (k, l, within, at, on) = (k, l, within, at, on-more xs ys level l on)

-- the trail grew, and the pool's clauses are guarded by so many entries
pub underway-walked : (store : Stored) (pool new : State) (a b : Assignment) (p : Progress) (n : ℕ) → IsUnderway store pool a p → Continues store.clauses a b →
    IsLinked b.vars store.clauses new → IsPlaced store new → p.done ≤ n → n ≤ length b.entries → AreGuarded p.floor n b.entries new →
    IsUnderway store new b (record { seen = p.seen; done = n; floor = p.floor })
underway-walked store pool new a b p n u continues linked placed more within guarded = record {
  small = omega (arith, u.small, continues.vars);
  few = u.few;
  range = subst (λ (v : ℕ). AreInRange v store.clauses) (sym continues.vars) u.range;
  trail_is = continues.trail;
  linked = linked;
  placed = placed;
  seen = u.seen;
  fresh = λ l. continues.level ∙ u.fresh l;
  narrow = λ place c l at is. subst (λ (xs : List Assigned). HasTrue (up_to xs 0) c.lits) (sym continues.grown.grown) (true-more a.entries continues.grown.more 0 c.lits (u.narrow place c l at is));
  done = within;
  floor = omega (arith, u.floor, continues.level);
  guarded = guarded;
  late = λ k e above at. subst (λ (m : ℕ). IsLate p.floor m e) (sym continues.level)
      (elim (slice_get-append a.entries continues.grown.more k e (subst (λ (xs : List Assigned). slice_get xs k ≡ Some e) continues.grown.grown at)) [
        | inl old ↦ u.late k e (omega (arith, more, above)) old
        | inr later ↦ λ lower fl le. omega (arith, le, All-contains (λ (x : Assigned). x.level ≡ a.level) continues.grown.more e continues.grown.levels later)
      ]);
}

pub underway-stays : (store : Stored) (pool : State) (a b : Assignment) (p : Progress) → IsUnderway store pool a p → Continues store.clauses a b → IsUnderway store pool b p
underway-stays store pool a b p u continues =
    underway-walked store pool pool a b p p.done u continues (subst (λ (v : ℕ). IsLinked v store.clauses pool) (sym continues.vars) u.linked) u.placed (omega
    arith) (omega (arith, u.done, longer store.clauses a b continues))
    (λ q. if-some (clause_at pool q) _ (λ e is. subst (λ (xs : List Assigned). IsGuarded p.floor (take p.done xs) xs e.lits) (sym continues.grown.grown)
    (guarded-grown p.floor p.done a.entries continues.grown.more e.lits u.done
    (at-some (clause_at pool q) e (λ (x : Entry). IsGuarded p.floor (take p.done a.entries) a.entries x.lits) is (u.guarded q)))))

-- one clause more was examined
pub underway-seen : (store : Stored) (pool : State) (a b : Assignment) (p : Progress) (held : Held) → IsUnderway store pool a p → Continues store.clauses a b →
    held.0 ≡ p.seen → p.seen < length store.clauses → RestsAt store.clauses b.entries held → IsUnderway store pool b (record { seen = p.seen + 1; done = p.done; floor = p.floor })
underway-seen store pool a b p held u continues is within rests =
    let stays = underway-stays store pool a b p u continues in
    record {
      small = stays.small;
      few = stays.few;
      range = stays.range;
      trail_is = stays.trail_is;
      linked = stays.linked;
      placed = stays.placed;
      seen = omega arith;
      fresh = λ l. stays.fresh within;
      narrow = λ place c l at thin. elim (cases_lt place p.seen) [
        | inl before ↦ stays.narrow place c before at thin
        | inr last ↦
            let same : place ≡ held.0 = omega arith in
            let bottom : up_to b.entries 0 ≡ b.entries = level-over store.clauses b 0 stays.trail_is (omega (arith, stays.fresh within)) in
            subst (λ (xs : List Assigned). HasTrue xs c.lits) (sym bottom)
            (narrow-true b.entries c.lits thin (rests-there store.clauses b.entries held c (subst (λ (k : ℕ). slice_get store.clauses k ≡ Some c) same at) rests))
      ];
      done = stays.done;
      floor = stays.floor;
      guarded = stays.guarded;
      late = stays.late;
    }

-- a walk may begin for the next entry
pub walk-begins : (store : Stored) (pool : State) (a : Assignment) (p : Progress) (e : Assigned) → IsUnderway store pool a p →
    slice_get a.entries p.done ≡ Some e → IsOf a.vars (negated e.lit) → IsWalkedFor p.floor p.done (negated e.lit) store.clauses pool a
walk-begins store pool a p e u at of = record {
  of = of;
  few = u.few;
  floor_is = u.floor;
  range = u.range;
  trail_is = u.trail_is;
  linked = u.linked;
  guarded = u.guarded;
  next = record { entry = e; is = at; lit_is = sym (negated-negated e.lit); late = u.late p.done e (omega arith) at };
}

-- where all was seen and done, the clauses are at rest
pub rest-at_end : (store : Stored) (pool : State) (a : Assignment) (p : Progress) → IsUnderway store pool a p → p.seen ≡ length store.clauses →
    p.done ≡ length a.entries → IsAtRest store.clauses (is_on a.entries)
rest-at_end store pool a p u seen done k d l =
    let n : Numbered = get_or store.clauses k d in
    let at : slice_get store.clauses k ≡ Some n = slice_get-get_or store.clauses k d l in
    elim (u.linked.all k n at) [
      | inl in_pool ↦
          let f = and-some (clause_at pool in_pool.place) (λ (x : Entry). x.id ≡ k) in_pool.is in
          let e : Entry = f.value in
          let (m, m_at, same) = in-list a.vars store.clauses pool in_pool.place e u.linked f.is in
          let m_is : m ≡ n = same_Some m n (sym m_at ∙ ap (λ (j : ℕ). slice_get store.clauses j) f.holds ∙ at) in
          let clause : IsClause pool.vars e.lits = at-some (clause_at pool in_pool.place) e (λ (x : Entry). IsClause pool.vars x.lits) f.is (u.linked.sound.clauses in_pool.place) in
          let guarded : IsGuarded p.floor (take p.done a.entries) a.entries e.lits =
          at-some (clause_at pool in_pool.place) e (λ (x : Entry). IsGuarded p.floor (take p.done a.entries) a.entries x.lits) f.is (u.guarded in_pool.place) in
          let whole : take p.done a.entries ≡ a.entries = take_all p.done a.entries (omega arith) in
          let all : up_to a.entries a.level ≡ a.entries = level-over store.clauses a a.level u.trail_is (omega arith) in
          same-rests a.entries n.lits e.lits (subst (λ (x : Numbered). AreSame x.lits e.lits) m_is same)
          (guarded-rests pool.vars p.floor a.level a.entries e.lits clause u.floor all (subst (λ (xs : List Assigned). IsGuarded p.floor xs a.entries e.lits) whole guarded))
      | inr (inl thin) ↦ true-rests a.entries 0 n.lits (u.narrow k n (omega arith) at thin)
      | inr (inr both) ↦ both-rests a.entries n.lits both
    ]

-- there are few entries
pub few-entries : (store : Stored) (pool : State) (a : Assignment) (p : Progress) → IsUnderway store pool a p → length a.entries ≤ a.vars + 1
few-entries store pool a p u = entries-fit a.vars a.entries (stands store.clauses a.vars a.entries u.trail_is.entries)

pub range-negated : (vars : ℕ) (l : Lit) → IsOf vars l → IsOf vars (negated l)
range-negated vars l range = record {
  least = omega (arith, range.least, variable-negated l);
  most = omega (arith, range.most, variable-negated l);
}

-- the negation of an entry is in range
pub entry-range : (store : Stored) (pool : State) (a : Assignment) (p : Progress) (i : ℕ) (d : Assigned) → IsUnderway store pool a p → i < length a.entries →
    IsOf a.vars (negated (get_or a.entries i d).lit)
entry-range store pool a p i d u l = range-negated a.vars (get_or a.entries i d).lit (each-at (MayFollow store.clauses a.vars) a.entries i d u.trail_is.entries l).range

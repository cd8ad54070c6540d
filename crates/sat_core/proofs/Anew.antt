-- How the list is given the new places of the clauses that the pool moved.
use Rattle.std.proofs.Common.{◌≡◌, ◌≢◌, ℕ, ◌+◌, ◌<◌, inl, inr, List, [], ◌∷◌, ◌++◌, length, get_or, set, take, drop, Contains, Option, Some, None, IfSome, IsSomeAnd, sym, ap, ◌∙◌, subst, arith}
use Rattle.std.specs.List.{slice_get}
use Rattle.std.proofs.lemmas.Bool.{cases_eq}
use Rattle.std.proofs.lemmas.Option.{same_Some, none-some, slice_get_within, slice_get-get_or, get_or_from_slice_get}
use Rattle.std.proofs.lemmas.List.{get_or-set_same, get_or-set_other, length-set, take_more, take-append-drop}
use Rattle.std.proofs.lemmas.List.Elements.{Contains-push_cases, Contains-append_left, Contains-get_or}
use Rattle.clause_pool.specs.declared.place.Place.{Place}
use Rattle.clause_pool.specs.Pools.{Entry, State, clause_at}
use Rattle.clause_pool.proofs.Sound.{if-some, and-some}
use Rattle.sat_core.specs.Stores.{Stored}
use Rattle.sat_core.specs.Placed.{AreToMove, IsPlaced}

abbrev pub Moves : Type 0
Moves = List (Place × Place)

-- after these moves
pub record AreAnew (before after : List (Option Place)) (moves : Moves) : Type 0 where
  pub size : length after ≡ length before
  pub done : (k : ℕ) (p q : Place) → slice_get before k ≡ Some (Some p) → Contains moves (p, q) → slice_get after k ≡ Some (Some q)
  pub none : (k : ℕ) → slice_get before k ≡ Some None → slice_get after k ≡ Some None

there-set : {X : Type 0} (xs : List X) (k : ℕ) (x : X) → k < length xs → slice_get (set xs k x) k ≡ Some x
there-set xs k x within = slice_get-get_or (set xs k x) k x (omega (arith, within, length-set xs k x)) ∙ ap Some (get_or-set_same xs k x x within)

beside-set : {X : Type 0} (xs : List X) (k j : ℕ) (x y : X) → j ≢ k → slice_get xs j ≡ Some y → slice_get (set xs k x) j ≡ Some y
beside-set xs k j x y other at =
    let within : j < length xs = slice_get_within xs j y at in
    slice_get-get_or (set xs k x) j y (omega (arith, within, length-set xs k x)) ∙ ap Some (get_or-set_other xs k j x y other ∙ get_or_from_slice_get xs j y y at)

-- what is known of one of the moves
pub record IsMove (store : Stored) (pool : State) (p q : Place) : Type 0 where
  pub entry : Entry
  pub is : clause_at pool q ≡ Some entry
  pub place : slice_get store.places entry.id ≡ Some (Some p)

pub move-of : (store : Stored) (pool : State) (moves : Moves) (p q : Place) → AreToMove store pool moves → Contains moves (p, q) → IsMove store pool p q
move-of store pool moves p q w h =
    let f = and-some (clause_at pool q) (λ (e : Entry). slice_get store.places e.id ≡ Some (Some p)) (w.move p q h) in
    record { entry = f.value; is = f.is; place = f.holds }

pub anew-step : (store : Stored) (pool : State) (moves : Moves) (after : List (Option Place)) (i at : ℕ) (d : Place × Place) → AreToMove store pool moves →
    AreAnew store.places after (take i moves) → i < length moves → (w : IsMove store pool (get_or moves i d).0 (get_or moves i d).1) → at ≡ w.entry.id →
    AreAnew store.places (set after at (Some (get_or moves i d).1)) (take (i + 1) moves)
anew-step store pool moves after i at d to anew within w at_is =
    let m : Place × Place = get_or moves i d in
    let here : slice_get store.places at ≡ Some (Some m.0) = ap (λ (k : ℕ). slice_get store.places k) at_is ∙ w.place in
    let in_all : Contains moves m = Contains-get_or moves i d within in
    let in_after : at < length after = omega (arith, anew.size, slice_get_within store.places at (Some m.0) here) in
    let more : take (i + 1) moves ≡ take i moves ++ m ∷ [] = take_more moves i d within in
    record {
      size = length-set after at (Some m.1) ∙ anew.size;
      done = λ k p q place h. elim (Contains-push_cases (take i moves) m (p, q) (subst (λ (ms : Moves). Contains ms (p, q)) more h)) [
        | inl old ↦ elim (cases_eq k at) [
          | inl same ↦
              let p_is : p ≡ m.0 = same_Some p m.0 (same_Some (Some p) (Some m.0) (sym place ∙ ap (λ (n : ℕ). slice_get store.places n) same ∙ here)) in
              let of_all : Contains moves (p, q) = subst (λ (ms : Moves). Contains ms (p, q)) (take-append-drop i moves) (Contains-append_left (take i moves) (drop i moves) (p, q) old) in
              let q_is : m.1 ≡ q = to.once p m.1 q (subst (λ (r : Place). Contains moves (r, m.1)) (sym p_is) in_all) of_all in
              ap (λ (n : ℕ). slice_get (set after at (Some m.1)) n) same ∙ there-set after at (Some m.1) in_after ∙ ap (λ (r : Place). Some (Some r)) q_is
          | inr other ↦ beside-set after at k (Some m.1) (Some q) other (anew.done k p q place old)
        ]
        | inr is ↦
            let p_is : m.0 ≡ p = ap (λ (x : Place × Place). x.0) is in
            let q_is : m.1 ≡ q = ap (λ (x : Place × Place). x.1) is in
            let same : k ≡ at = to.apart k at p place (here ∙ ap (λ (r : Place). Some (Some r)) p_is) in
            ap (λ (n : ℕ). slice_get (set after at (Some m.1)) n) same ∙ there-set after at (Some m.1) in_after ∙ ap (λ (r : Place). Some (Some r)) q_is
      ];
      none = λ k h. beside-set after at k (Some m.1) None (λ same. none-some m.0 (same_Some None (Some m.0) (sym h ∙ ap (λ (n : ℕ). slice_get store.places n) same ∙ here))) (anew.none k h);
    }

-- all places are new
pub anew-all : (store new : Stored) (pool : State) (moves : Moves) → AreToMove store pool moves → AreAnew store.places new.places moves → new.clauses ≡ store.clauses → IsPlaced new pool
anew-all store new pool moves to anew same = record {
  size = anew.size ∙ to.size ∙ sym (ap length same);
  live = λ k q at.
      let within : k < length store.places = omega (arith, anew.size, slice_get_within new.places k (Some q) at) in
      lives k q at (get_or store.places k None) (slice_get-get_or store.places k None within);
  known = λ q. if-some (clause_at pool q) _ (λ e is.
      let t = only q e is in
      let w = move-of store pool moves t.0 q to t.1 in
      let e_is : w.entry ≡ e = same_Some w.entry e (sym w.is ∙ is) in
      ap (λ (x : Entry). slice_get new.places x.id) (sym e_is) ∙ anew.done w.entry.id t.0 q w.place t.1);
}
  where
    only : (q : Place) (e : Entry) → clause_at pool q ≡ Some e → (p : Place) × Contains moves (p, q)
    only q e is = at (clause_at pool q) is (to.only q)
      where
        at : (o : Option Entry) → o ≡ Some e → IfSome o (λ _. (p : Place) × Contains moves (p, q)) → (p : Place) × Contains moves (p, q)
        at None h k = cc
        at (Some x) h k = k

    lives : (k : ℕ) (q : Place) → slice_get new.places k ≡ Some (Some q) → (o : Option Place) → slice_get store.places k ≡ Some o → IsSomeAnd (clause_at pool q) (λ e. e.id ≡ k)
    lives k q at None h = absurd (none-some q (same_Some None (Some q) (sym (anew.none k h) ∙ at)))
    lives k q at (Some p) h =
        let t = to.each k p h in
        let q_is : t.0 ≡ q = same_Some t.0 q (same_Some (Some t.0) (Some q) (sym (anew.done k p t.0 h t.1) ∙ at)) in
        subst (λ (r : Place). IsSomeAnd (clause_at pool r) (λ e. e.id ≡ k)) q_is t.2

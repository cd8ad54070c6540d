use Rattle.std.proofs.Common.{◌≡◌, ℕ, ◌+◌, ◌<◌, length, get_or, take, is_some, sym, ap, ◌∙◌, subst, arith}
use Rattle.std.proofs.lemmas.Option.{slice_get_within}
use Rattle.std.proofs.lemmas.List.{take_all}
use Rattle.std.proofs.lemmas.List.Elements.{Contains-get_or}
use Rattle.clause_pool.specs.declared.place.Place.{Place}
use Rattle.clause_pool.specs.Pools.{Entry, State, clause_at}
use Rattle.clause_pool.proofs.Sound.{at-some}
use Rattle.sat_core.specs.Stores.{Stored}
use Rattle.sat_core.specs.Placed.{AreToMove}
use Rattle.sat_core.proofs.Anew.{AreAnew, IsMove, Moves, anew-all, anew-step, move-of}
use Rattle.sat_core.proofs.forgetting.put_anew.Goals as goal

abbrev start : Place × Place
start = (record { 0 = 0 }, record { 0 = 0 })

-- the move that is gone through
at-move : (store : Stored) (pool : State) (moves : Moves) (i : ℕ) → AreToMove store pool moves → i < length moves → IsMove store pool (get_or moves i start).0 (get_or moves i start).1
at-move store pool moves i to within = move-of store pool moves (get_or moves i start).0 (get_or moves i start).1 to (Contains-get_or moves i start within)

pub id-at-requires : goal.id-at-requires
id-at-requires c = ap is_some (at-move c.args.store.now c.args.pool.now c.args.moved.now c.loop-place.place-index c.requires.moves c.loop-place-test.true).is

pub overflow_cast-at : goal.overflow_cast-at
overflow_cast-at c =
    let w = at-move c.args.store.now c.args.pool.now c.args.moved.now c.loop-place.place-index c.requires.moves c.loop-place-test.true in
    let at : c.id-at.result ≡ w.entry.id = at-some (clause_at c.args.pool.now _) w.entry (λ (e : Entry). c.id-at.result ≡ e.id) w.is c.id-at.ensures in
    omega (arith, slice_get_within c.args.store.now.places w.entry.id _ w.place, c.requires.moves.size, c.requires.few, at)

pub put_at-requires : goal.put_at-requires
put_at-requires c =
    let w = at-move c.args.store.now c.args.pool.now c.args.moved.now c.loop-place.place-index c.requires.moves c.loop-place-test.true in
    let at : c.id-at.result ≡ w.entry.id = at-some (clause_at c.args.pool.now _) w.entry (λ (e : Entry). c.id-at.result ≡ e.id) w.is c.id-at.ensures in
    omega (arith, slice_get_within c.args.store.now.places w.entry.id _ w.place, c.requires.moves.size, ap length c.loop-place.invariant.clauses, at)

pub loop-place-preserved : goal.loop-place-preserved
loop-place-preserved c =
    let s = c.args.store.now in
    let moves = c.args.moved.now in
    let i : ℕ = c.loop-place.place-index in
    let w = at-move s c.args.pool.now moves i c.requires.moves c.loop-place-test.true in
    let at : c.id-at.result ≡ w.entry.id = at-some (clause_at c.args.pool.now _) w.entry (λ (e : Entry). c.id-at.result ≡ e.id) w.is c.id-at.ensures in
    record {
      clauses = ap (λ (t : Stored). t.clauses) c.put_at.ensures ∙ c.loop-place.invariant.clauses;
      anew = subst (λ (t : Stored). AreAnew s.places t.places (take (i + 1) moves)) (sym c.put_at.ensures)
          (anew-step s c.args.pool.now moves c.loop-place.store.places i c.id-at.result start c.requires.moves c.loop-place.invariant.anew c.loop-place-test.true w at);
    }

pub returns-clause-placed : goal.returns-clause-placed
returns-clause-placed c =
    let s = c.args.store.now in
    let moves = c.args.moved.now in
    anew-all s c.loop-place.store c.args.pool.now moves c.requires.moves
    (subst (λ (ms : Moves). AreAnew s.places c.loop-place.store.places ms) (take_all c.loop-place.place-index moves c.loop-place-test.false) c.loop-place.invariant.anew) c.loop-place.invariant.clauses

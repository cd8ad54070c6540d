use Rattle.std.proofs.Common.{◌≡◌, ◌≤◌, ◌<◌, ◌+◌, ◌-◌, ◌∷◌, ◌++◌, [], All, length, take, drop, max, slice_set, ◌∙◌, arith}
use Rattle.std.specs.Prelude.{slice_index_or}
use Rattle.std.proofs.lemmas.List.{drop_more, drop-set-lt, take_more_set}
use Rattle.std.proofs.lemmas.List.Elements.{All-head, All-tail, All-push}
use Rattle.std.proofs.lemmas.List.Sums.{sum_by_push}
use Rattle.proof_check.specs.declared.tables.Place.{Place}
use Rattle.proof_check.specs.Places.{IsPlace, IsRising, clause_at, nowhere, size}
use Rattle.proof_check.proofs.Places.{moved_clauses, more_places, rising_lower, rising_push, moved_end}
use Rattle.proof_check.proofs.tables.slide.Goals as goal

pub size-end-requires : goal.size-end-requires
size-end-requires c =
    let ps = c.loop-row.places in
    let i = c.loop-row.row in
    let test : i < length ps = omega (arith, c.loop-row-test.true, c.loop-row.auto.places) in
    let rest : drop i ps ≡ slice_index_or ps i nowhere ∷ drop (i + 1) ps = drop_more ps i nowhere test in
    let here : IsPlace (length c.loop-row.lits) (slice_index_or ps i nowhere) = All-head (IsPlace (length c.loop-row.lits)) _ _ (rw rest at c.loop-row.invariant.rest_within) in
    here.start

pub loop-row-preserved : goal.loop-row-preserved
loop-row-preserved c =
    let ps = c.loop-row.places in
    let i = c.loop-row.row in
    let end = c.loop-row.end in
    let count = length c.loop-row.lits in
    let p : Place = slice_index_or ps i nowhere in
    let q = c.move_clause.result in
    let test : i < length ps = omega (arith, c.loop-row-test.true, c.loop-row.auto.places) in
    let rest : drop i ps ≡ p ∷ drop (i + 1) ps = drop_more ps i nowhere test in
    let places : All (IsPlace count) (p ∷ drop (i + 1) ps) = rw rest at c.loop-row.invariant.rest_within in
    let rises : IsRising end (p ∷ drop (i + 1) ps) = rw rest at c.loop-row.invariant.rest_rising in
    let here : IsPlace count p = All-head (IsPlace count) p (drop (i + 1) ps) places in
    let first : p.start ≤ p.stop - 1 = here.start in
    let last : p.stop ≤ count + 1 = here.stop in
    let begins : 0 < p.stop → end ≤ p.start = rises.0 in
    let next : c.size-end.result ≡ size p = c.size-end.ensures in
    let ends : end + size p ≤ max end (p.stop - 1) = moved_end end p first begins in
    let fits : end ≤ count = c.loop-row.invariant.end_within in
    let front : take (i + 1) (slice_set ps i q) ≡ take i ps ++ q ∷ [] = take_more_set ps i q test in
    let back : drop (i + 1) (slice_set ps i q) ≡ drop (i + 1) ps = drop-set-lt (i + 1) ps i q (omega arith) in
    let moved = c.move_clause.ensures in
    record {
      within = rw (front, next) (All-push (IsPlace (end + size p)) (take i ps) q (more_places end (end + size p) (take i ps) (omega arith) c.loop-row.invariant.within) moved.within);
      rising = rw front (rising_push 0 end (take i ps) q (omega arith) c.loop-row.invariant.within c.loop-row.invariant.rising moved.start);
      rest_within = rw (back, moved.len) (All-tail (IsPlace count) p (drop (i + 1) ps) places);
      rest_rising = rw (back, next) (rising_lower (max end (p.stop - 1)) (end + size p) (drop (i + 1) ps) ends rises.1);
      clauses = moved_clauses (clause_at c.loop-row.lits) (clause_at c.move_clause.new.lits) end (p.stop - 1) ps i p q test rest c.loop-row.invariant.within
          (rising_lower (max end (p.stop - 1)) (p.stop - 1) (drop (i + 1) ps) (omega arith) rises.1) moved.front moved.clause moved.back ∙ c.loop-row.invariant.clauses;
      room = rw front (let more = sum_by_push size (take i ps) q in omega (arith, moved.size, c.loop-row.invariant.room));
      end_within = rw (next, moved.len) (omega arith);
    }

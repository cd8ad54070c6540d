use Rattle.std.proofs.Common.{◌≡◌, ◌+◌, ◌∷◌, ◌++◌, [], length, map, ap, ap₂, ◌∙◌, arith, length-append}
use Rattle.std.proofs.lemmas.List.{map_push, length_push}
use Rattle.std.proofs.lemmas.List.Elements.{All-push}
use Rattle.std.proofs.lemmas.List.Sums.{sum_by_push}
use Rattle.proof_check.specs.declared.tables.Place.{Place}
use Rattle.proof_check.specs.Places.{IsPlace, clause_at, size}
use Rattle.proof_check.proofs.Places.{clause_before, clause_pushed, more_places, rising_push, same_clauses}
use Rattle.proof_check.proofs.tables.Table.push.Goals as goal

pub invariant_of-self-in-Ok : goal.invariant_of-self-in-Ok
invariant_of-self-in-Ok c =
    let old = c.self.inside.lits.items in
    let ps = c.self.inside.places.items in
    let tidy = c.self.invariant in
    let p : Place = record { start = c.len-start.result; stop = c.len.result + 1 } in
    let all : c.extend_from_slice.new.self.items ≡ old ++ c.args.clause.now = c.in_ok-extend_from_slice.ensures.items in
    let more : length (old ++ c.args.clause.now) ≡ length old + length c.args.clause.now = length-append old c.args.clause.now in
    let count : c.len.result ≡ length (old ++ c.args.clause.now) = omega (arith, ap length all) in
    let first : c.len-start.result ≡ length old = omega arith in
    let sizes = sum_by_push size ps p in
    let rows = length_push ps p in
    rw (c.in-Ok.ensures.items, all) (record {
      within = All-push (IsPlace (length (old ++ c.args.clause.now))) ps p (more_places (length old) (length (old ++ c.args.clause.now)) ps (omega arith) tidy.within)
          (record { start = omega arith; stop = omega arith });
      rising = rising_push 0 (length old) ps p (omega arith) tidy.within tidy.rising (λ some. omega arith);
      room = omega (arith, tidy.room, sizes);
      dense = omega (arith, tidy.dense, rows);
    })

pub returns-in-Ok-clause-ok : goal.returns-in-Ok-clause-ok
returns-in-Ok-clause-ok c =
    let old = c.self.inside.lits.items in
    let ps = c.self.inside.places.items in
    let all = c.extend_from_slice.new.self.items in
    let p : Place = record { start = c.len-start.result; stop = c.len.result + 1 } in
    ap (map (clause_at all)) c.in-Ok.ensures.items ∙ map_push (clause_at all) ps p
    ∙ ap₂ (λ xs x. xs ++ x ∷ [])
    (same_clauses (clause_at all) (clause_at old) (length old) ps c.self.invariant.within
    (λ q h. ap (λ ls. clause_at ls q) c.in_ok-extend_from_slice.ensures.items ∙ clause_before old c.args.clause.now q h)
    ∙ c.self.view_is) (clause_pushed old c.args.clause.now all p.start p.stop c.in_ok-extend_from_slice.ensures.items (omega arith) (omega arith))

use Rattle.std.proofs.Common.{length, arith}
use Rattle.std.proofs.lemmas.List.{length_push}
use Rattle.std.proofs.lemmas.List.Elements.{All-push}
use Rattle.std.proofs.lemmas.List.Sums.{sum_by_push}
use Rattle.proof_check.specs.Places.{IsPlace, nowhere, size}
use Rattle.proof_check.proofs.Places.{rising_push}
use Rattle.proof_check.proofs.tables.Table.push_none.Goals as goal

pub invariant_of-self-2 : goal.invariant_of-self-2
invariant_of-self-2 c =
    let before = c.self.inside in
    let ps = before.places.items in
    let count = length before.lits.items in
    let tidy = c.self.invariant in
    let sizes = sum_by_push size ps nowhere in
    let rows = length_push ps nowhere in
    rw (c.in_ok-push.ensures.items, c.nowhere.ensures) (record {
      within = All-push (IsPlace count) ps nowhere tidy.within (record { start = omega arith; stop = omega arith });
      rising = rising_push 0 count ps nowhere (omega arith) tidy.within tidy.rising (λ some. absurd (let no : ⊥ = omega (arith, some) in no));
      room = omega (arith, tidy.room, sizes);
      dense = omega (arith, tidy.dense, rows);
    })

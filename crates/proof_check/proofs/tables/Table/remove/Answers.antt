use Rattle.std.proofs.Common.{◌≡◌, ◌<◌, List, Option, None, length, map, slice_set, ap, ◌∙◌, arith}
use Rattle.std.specs.Prelude.{slice_index_or}
use Rattle.std.proofs.lemmas.List.{map-set, length-map, length-set}
use Rattle.std.proofs.lemmas.List.Elements.{All-set}
use Rattle.std.proofs.lemmas.List.Sums.{sum_by-set}
use Rattle.cnf_types.specs.declared.literal.Lit.{Lit}
use Rattle.proof_check.specs.declared.tables.Place.{Place}
use Rattle.proof_check.specs.Places.{IsPlace, clause_at, nowhere, size}
use Rattle.proof_check.proofs.Places.{rising_without}
use Rattle.proof_check.proofs.tables.Table.remove.Goals as goal

pub compact-requires-clause-rising : goal.compact-requires-clause-rising
compact-requires-clause-rising c = rw c.nowhere.ensures (rising_without 0 c.self.inside.places.items c.args.row c.self.invariant.rising)

pub invariant_of-self-else-self-most : goal.invariant_of-self-else-self-most
invariant_of-self-else-self-most c =
    let before = c.self.inside in
    let ps = before.places.items in
    let row = c.args.row in
    let tidy = c.self.invariant in
    let within : row < length ps = omega (arith, c.requires, ap length c.self.view_is, length-map ps (clause_at before.lits.items)) in
    let p : Place = c.index.result.now in
    let item : size p ≡ size (slice_index_or ps row p) = ap size c.index.ensures in
    let sizes = sum_by-set size ps row nowhere p within in
    let rows = length-set ps row nowhere in
    rw c.nowhere.ensures (record {
      within = All-set (IsPlace (length before.lits.items)) ps row nowhere (record { start = omega arith; stop = omega arith }) tidy.within;
      rising = rising_without 0 ps row tidy.rising;
      room = omega (arith, tidy.room, sizes, c.size.ensures);
      dense = omega (arith, rows, c.if-self-most.false);
    })

pub returns-then-self-most : goal.returns-then-self-most
returns-then-self-most c =
    c.compact.ensures.clauses ∙ ap (λ p. map (clause_at c.self.inside.lits.items) (slice_set c.self.inside.places.items c.args.row p)) c.nowhere.ensures
    ∙ map-set (clause_at c.self.inside.lits.items) c.self.inside.places.items c.args.row nowhere ∙ ap (λ (rows : List (Option (List Lit))). slice_set rows c.args.row None) c.self.view_is

pub returns-else-self-most : goal.returns-else-self-most
returns-else-self-most c =
    ap (λ p. map (clause_at c.self.inside.lits.items) (slice_set c.self.inside.places.items c.args.row p)) c.nowhere.ensures
    ∙ map-set (clause_at c.self.inside.lits.items) c.self.inside.places.items c.args.row nowhere ∙ ap (λ (rows : List (Option (List Lit))). slice_set rows c.args.row None) c.self.view_is

use Rattle.std.proofs.Common.{◌≡◌, ℕ, ◌<◌, ◌∙◌, arith, length, take, count_by, sym, ap, Vec, Global, List, IsSome}
use Rattle.std.specs.Option.{is_some}
use Rattle.std.proofs.lemmas.List.{take_all, length_push}
use Rattle.std.proofs.lemmas.List.Sorted.{IsNonDecreasingBy-from_sort, sum_by-IsPermutation, length_permutation}
use Rattle.sat_core.specs.declared.numbered.Numbered.{Numbered}
use Rattle.sat_search.specs.Costs.{cost_of, costing, counts, may_be_named}
use Rattle.sat_search.proofs.Costs.{cost_joins, cost_misses}
use Rattle.sat_search.proofs.Named.{few_join, few_miss}
use Rattle.sat_search.proofs.lemmas.Lemmas.costs.Goals as goal
use Rattle.sat_search.proofs.lemmas.Lemmas.costs.Goals.{in-Some+in_ok-push, in_default}

pub loop-place-preserved : goal.loop-place-preserved
loop-place-preserved c =
    let place = c.loop-place.place in
    let was = c.loop-place.invariant in
    let first = take (length c.args.used.now) c.args.self.now.ids.items in
    let low : place < length c.args.core.now.clauses = omega (arith, c.loop-place-test.true, c.loop-place.auto.place-end, c.clauses-place-end.ensures) in
    elim c.match-cost.branch [
      | in-Some+in_ok-push w ↦
          let items = ap (λ (v : Vec ℕ Global). v.items) w.costs-is ∙ w.in_ok-push.ensures.items in
          let some : IsSome c.cost.result = ap is_some w.in-Some.is in
          record {
            counts = λ rise least. cost_joins least w.in-Some.cost c.loop-place.costs.items c.match-cost.costs.items (cost_of c.args.self.now c.args.used.now c.args.core.now) place
                (was.counts rise least) items (sym w.in-Some.is ∙ c.cost.ensures.exact rise);
            few = omega (
              arith,
              ap (λ (xs : List ℕ). length xs) items,
              length_push c.loop-place.costs.items w.in-Some.cost,
              few_join first c.args.core.now.clauses place low (length c.loop-place.costs.items) was.few (c.cost.ensures.old some) (c.cost.ensures.long some),
            );
          }
      | in_default w ↦
          let items = ap (λ (v : Vec ℕ Global). v.items) w.costs-is in
          record {
            counts = λ rise least. cost_misses least c.loop-place.costs.items c.match-cost.costs.items (cost_of c.args.self.now c.args.used.now c.args.core.now) place
                (was.counts rise least) items (sym w.in_default.is ∙ c.cost.ensures.exact rise);
            few = omega (arith, ap (λ (xs : List ℕ). length xs) items, few_miss first c.args.core.now.clauses place low (length c.loop-place.costs.items) was.few);
          }
    ]

pub returns-clause-sorted : goal.returns-clause-sorted
returns-clause-sorted c = IsNonDecreasingBy-from_sort (λ (n : ℕ). n) c.sort_unstable.new.self.items c.sort_unstable.ensures.sorted

pub returns-clause-counts : goal.returns-clause-counts
returns-clause-counts c = λ rise least.
    let place : c.loop-place.place ≡ length c.args.core.now.clauses = omega (arith, c.loop-place-test.false, c.loop-place.auto.place-end, c.clauses-place-end.ensures) in
    sum_by-IsPermutation (counts least) c.loop-place.costs.items c.sort_unstable.new.self.items c.sort_unstable.ensures.permutation ∙ c.loop-place.invariant.counts rise least
    ∙ ap (costing c.args.self.now c.args.used.now least c.args.core.now) place

pub returns-clause-few : goal.returns-clause-few
returns-clause-few c =
    let first = take (length c.args.used.now) c.args.self.now.ids.items in
    let all = ap (λ (cs : List Numbered). count_by (may_be_named first) cs)
    (take_all c.loop-place.place c.args.core.now.clauses (omega (arith, c.loop-place-test.false, c.loop-place.auto.place-end, c.clauses-place-end.ensures))) in
    omega (arith, length_permutation c.loop-place.costs.items c.sort_unstable.new.self.items c.sort_unstable.ensures.permutation, c.loop-place.invariant.few, all)

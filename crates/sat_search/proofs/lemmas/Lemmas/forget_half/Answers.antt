use Rattle.std.proofs.Common.{◌≡◌, ℕ, ◌+◌, ◌-◌, ◌/◌, ◌≤◌, List, length, take, get_or, All, Contains, subst, sym, ap, rules, arith}
use Rattle.std.specs.List.{sum_by}
use Rattle.sat_search.specs.Costs.{cost_of, costing, counts, is_as_much}
use Rattle.std.proofs.lemmas.List.Elements.{All-nil}
use Rattle.sat_search.specs.Dropping.{Forgets}
use Rattle.sat_search.proofs.Forgetting.{forgets_none, forgets_more}
use Rattle.sat_search.proofs.Halves.{all_count, upper_half}
use Rattle.sat_search.proofs.Costs.{all_cost, count_most, count_next}
use Rattle.sat_search.proofs.Named.{named_few}
use Rattle.sat_search.proofs.lemmas.Lemmas.forget_half.Goals as goal
use Rattle.sat_search.proofs.lemmas.Lemmas.forget_half.Goals.{then-loop-place-test+else-len-half, else-loop-place-test}

pub loop-place-init : goal.loop-place-init
loop-place-init c =
    let items = c.in_ok-costs.costs.items in
    let least = c.unwrap_or-least.result in
    let none : length c.make-ids.result ≡ 0 = ap (λ (ids : List ℕ). length ids) c.make-ids.ensures in
    let middle : least ≡ get_or items (length items / 2) 0 = search rules in
    record {
      different = c.requires;
      forgets = subst (λ (ids : List ℕ). Forgets c.args.core.now ids c.args.core.now) (sym c.make-ids.ensures) (forgets_none c.args.core.now);
      old = subst (All (Contains (take (length c.args.used.now) c.args.self.now.ids.items))) (sym c.make-ids.ensures) (All-nil (Contains (take (length c.args.used.now) c.args.self.now.ids.items)));
      place = omega (arith, c.clauses-place.ensures);
      fewer = omega (arith, none);
      most = omega (arith, none);
      half = λ rise.
          let costed = c.in_ok-costs.ensures.counts rise least in
          let upper = upper_half items least c.in_ok-costs.ensures.sorted middle in
          let all = ap (costing c.args.self.now c.args.used.now least c.args.core.now) c.clauses-place.ensures in
          omega (arith, none, costed, upper, all, c.min-half.ensures, c.div_ceil.ensures, c.len.ensures);
    }

pub loop-place-preserved : goal.loop-place-preserved
loop-place-preserved c =
    let was = c.loop-place.invariant in
    let e = c.in_ok-forget.ensures in
    record {
      different = e.different;
      forgets = forgets_more c.args.core.now c.loop-place.core c.forget.new.core c.loop-place.ids c.forget.new.ids was.forgets e.forgets;
      old = e.old was.old;
      place = e.places;
      fewer = omega (arith, e.fewer, was.fewer);
      most = omega (arith, e.one, c.if-len-half.true, c.len-in-loop-place.ensures);
      half = λ rise.
          let s = c.args.self.now in
          let u = c.args.used.now in
          let least = c.unwrap_or-least.result in
          let at = c.loop-place.place - 1 in
          let test = is_as_much least (cost_of s u c.loop-place.core at) in
          let taken = e.takes rise in
          let before = e.before at (omega arith) in
          let next = count_next (λ (k : ℕ). is_as_much least (cost_of s u c.loop-place.core k)) at in
          let here : c.loop-place.place ≡ at + 1 = omega (arith, c.loop-place-test.true) in
          let there = ap (costing s u least c.loop-place.core) here in
          omega (arith, taken, before, next, there, was.half rise);
    }

pub returns-clause-half : goal.returns-clause-half
returns-clause-half c = λ rise.
    let s = c.args.self.now in
    let u = c.args.used.now in
    let items = c.in_ok-costs.costs.items in
    let h = c.loop-place.invariant.half rise in
    let full : c.min-half.result ≤ length c.loop-place.ids = elim c.loop-place-test.branch [
      | then-loop-place-test+else-len-half w ↦ omega (arith, w.if-len-half.false, w.len-in-loop-place.ensures)
      | else-loop-place-test w ↦
          let end : c.loop-place.place ≡ 0 = omega (arith, w.loop-place-test.false) in
          let none : costing s u c.unwrap_or-least.result c.loop-place.core c.loop-place.place ≡ 0 = ap (costing s u c.unwrap_or-least.result c.loop-place.core) end in
          omega (arith, h, none)
    ] in
    let size : sum_by (counts 0) items ≡ length items = all_count 0 items (λ i low. omega arith) in
    let total = c.in_ok-costs.ensures.counts rise 0 in
    let each = all_cost s u c.args.core.now in
    let few : costing s u 0 c.args.core.now (length c.args.core.now.clauses) ≤ length c.args.core.now.clauses =
    count_most (λ (k : ℕ). is_as_much 0 (cost_of s u c.args.core.now k)) (length c.args.core.now.clauses) in
    omega (arith, full, c.loop-place.invariant.most, size, total, each, few, c.min-half.ensures, c.div_ceil.ensures, c.len.ensures, c.clauses-place.ensures, c.clauses-place.type_inv)

pub returns-clause-most : goal.returns-clause-most
returns-clause-most c =
    let first = take (length c.args.used.now) c.args.self.now.ids.items in
    let few = c.in_ok-costs.ensures.few in
    let named = named_few first c.args.core.now.clauses c.requires in
    omega (arith, c.loop-place.invariant.most, few, named, c.min-half.ensures, c.div_ceil.ensures, c.len.ensures)

use Rattle.std.proofs.Common.{◌≡◌, ◌-◌, ◌<◌, length, arith}
use Rattle.std.proofs.lemmas.List.{get_or_default}
use Rattle.variable_heap.proofs.heap.VariableHeap.make.Goals as goal

pub returns-clause-all : goal.returns-clause-all
returns-clause-all c v =
    let xs = c.loop-var.heap.items in
    let inv = c.loop-var.invariant in
    let size = inv.size in
    let all : length xs ≡ c.args.vars = omega (arith, size, c.loop-var.auto.var-end) in (
      λ h.
          let here = inv.each h.0 h.1 in
          let same = get_or_default xs h.0 v 0 h.1 in
          let at = h.2 in
          (omega arith, omega arith),
      λ h.
          let least = h.0 in
          let most = h.1 in
          let within : v - 1 < length xs = omega arith in
          let here = inv.each (v - 1) within in
          let same = get_or_default xs (v - 1) v 0 within in
          (v - 1, within, omega arith),
    )

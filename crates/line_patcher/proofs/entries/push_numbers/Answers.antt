use Rattle.std.proofs.Common.{◌≡◌, ℕ, ◌+◌, ◌*◌, ap, arith, get_or}
use Rattle.std.proofs.lemmas.List.{get_or_default}
use Rattle.line_patcher.specs.EntryLines.{new_number}
use Rattle.line_patcher.specs.declared.additions.NewNumber.{NewNumber}
use Rattle.line_patcher.proofs.Growing.{counted_grown}
use Rattle.line_patcher.proofs.entries.push_numbers.Goals as goal

pub loop-at-preserved : goal.loop-at-preserved
loop-at-preserved c =
    let lines = c.slice-line-items.result.now in
    let line : ℕ = get_or lines c.loop-at.at 0 in
    let numbered : ℕ → ℕ × NewNumber = λ n. (line, record { word = c.args.word; number = n }) in
    let e : c.args.count + c.loop-at.at + 1 ≡ c.args.count + (c.loop-at.at + 1) = omega arith in
    counted_grown (new_number c.args.word c.args.step c.args.count) lines c.loop-at.at line c.args.numbers.now.items c.loop-at.numbers.items c.push.new.self.items
    (numbered (c.args.step * (c.args.count + c.loop-at.at + 1))) c.loop-at-test.true
    (get_or_default lines c.loop-at.at 0 line c.loop-at-test.true) (ap (λ (n : ℕ). numbered (c.args.step * n)) e) c.loop-at.invariant c.in_ok-push.ensures.items

use Rattle.std.proofs.Common.{◌≡◌, ◌++◌, List, ℕ, length, length-append, sym, ◌∙◌, ap, arith}
use Rattle.file_copies.specs.Outputs.{one_copy}
use Rattle.file_copies.proofs.Copied.{copies_more, one_few}
use Rattle.file_copies.proofs.outputs.copies.Goals as goal

pub loop-at-preserved : goal.loop-at-preserved
loop-at-preserved c =
    let suffix : List ℕ = c.args.suffix.now in
    let name : List ℕ = c.index-names-at.result in
    let old : List ℕ = c.index-old-at.result in
    let new : List ℕ = c.text-item.result in
    let news : List (List ℕ) = c.slice-text-items.result.now in
    let same_news : length news ≡ length c.args.names.now = ap length c.slice-text-items.ensures.items ∙ c.requires.new in
    record {
      writes =
          c.in_ok-push_changed.ensures ∙ ap (λ (ws : List (List ℕ × List ℕ)). ws ++ one_copy suffix name old new) c.loop-at.invariant.writes ∙
          sym (copies_more suffix c.args.names.now c.args.old.now news c.loop-at.at name old new (omega (arith, c.loop-at-test.true, same_news)) c.requires.old same_news (sym c.index-names-at.is)
          (sym c.index-old-at.is) (sym c.text-item.is));
      few = omega (arith, ap length c.in_ok-push_changed.ensures, length-append c.loop-at.writes (one_copy suffix name old new), one_few suffix name old new, c.loop-at.invariant.few);
    }

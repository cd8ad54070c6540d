use Rattle.std.proofs.Common.{ℕ, List, nat_eq, refl, ◌∙◌}
use Rattle.std.specs.Prelude.{option_map}
use denote.Ref.{Bor}
use Rattle.indexmap.specs.IndexMap.{get}
use Rattle.net_rules.specs.Neighbors.{says_filter}
use Rattle.net_rules.proofs.Lasts.{last_more}
use Rattle.row_making.proofs.bound_lists.filters.Goals as goal

abbrev text : Bor (List ℕ) → List ℕ
text list = list.now

pub loop-line-preserved : goal.loop-line-preserved
loop-line-preserved c = record {
  unique = c.in_ok-add_filter.ensures.unique;
  said = λ peer.
      c.in_ok-add_filter.ensures.filters peer ∙
      last_more (says_filter peer) c.args.lines.now c.loop-line.line-index c.line-item.result (option_map text (get nat_eq c.loop-line.filters peer))
      (says_filter peer c.line-item.result.value) c.loop-line-test.true c.line-item.is
      (c.loop-line.invariant.said peer) refl;
}

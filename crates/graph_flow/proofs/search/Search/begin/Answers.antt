use Rattle.std.proofs.Common.{◌≡◌, ℕ, length, List, inl, inr, ap, ◌∙◌, arith}
use Rattle.std.proofs.lemmas.Bool.{cases_lt}
use Rattle.std.proofs.lemmas.List.{get_or_past, with_items_is}
use Rattle.graph_flow.specs.declared.search.Mark.{Mark}
use Rattle.graph_flow.specs.declared.search.Mark.TheVariants.{Unseen}
use Rattle.graph_flow.specs.Marks.{mark_at}
use Rattle.graph_flow.proofs.Searches.{begun}
use Rattle.graph_flow.proofs.search.Search.begin.Goals as goal

pub returns-clause-search : goal.returns-clause-search
returns-clause-search c arcs =
    let size : length c.loop-mark.mark-items ≡ c.args.self.now.marks.len = omega arith in
    let unseen : (node : ℕ) → mark_at c.loop-mark.mark-items node ≡ Unseen = λ node. elim (cases_lt node c.loop-mark.mark-index) [
      | inl l ↦ c.loop-mark.invariant node l
      | inr past ↦ get_or_past c.loop-mark.mark-items node Unseen (omega arith)
    ] in
    let same = with_items_is c.args.self.now.marks c.loop-mark.mark-items size in
    begun arcs c.args.from _ _ (λ node. ap (λ (marks : List Mark). mark_at marks node) same ∙ unseen node) (omega (arith, ap length same)) (omega arith)

use Rattle.std.proofs.Common.{rules, ◌≡◌, ◌↔◌, List, Bool, sym, subst}
use Rattle.std.specs.Prelude.{AllPairs, Contains}
use Rattle.std.specs.List.Sorted.{IsSortedBy}
use Rattle.std.specs.Ordering.{is_lt}
use Rattle.std.proofs.lemmas.List.Sorted.{ranks_by, answers_always}
use Rattle.std.proofs.lemmas.Result.{IfOk-weaker}
use Rattle.edit_list.specs.Ordered.{IsKeyBefore}
use Rattle.edit_space.specs.declared.order.Keyed.{Keyed}
use Rattle.edit_space.specs.Working.{key_of, compare_keys}
use Rattle.edit_space.proofs.Keys.{keys_total, in_key_order, same_lists}
use Rattle.edit_space.proofs.order.in_order.Goals as goal

pub returns-clause-order : goal.returns-clause-order
returns-clause-order c =
    let before : Keyed → Keyed → Bool = λ x y. is_lt (compare_keys (key_of x) (key_of y)) in
    let up : IsSortedBy before c.sort_by.new.self.items = c.in_ok-sort_by.ensures.sorted before (ranks_by keys_total key_of) (answers_always _ _ _ (λ f a r g h. search rules)) in
    let Ordered : List Keyed → Type 0 = AllPairs (λ (x : Keyed) (y : Keyed). IsKeyBefore (key_of x) (key_of y)) in
    let all : Ordered c.sort_by.new.self.items = in_key_order c.args.lists.items c.sort_by.new.self.items c.sort_by.ensures.permutation up c.requires in
    IfOk-weaker c.of.result (λ (l : List Keyed). l ≡ c.sort_by.new.self.items) Ordered (λ l e. subst Ordered (sym e) all) c.of.ensures.ok

pub returns-clause-same : goal.returns-clause-same
returns-clause-same c =
    let Same : List Keyed → Type 0 = λ l. (x : Keyed) → Contains l x ↔ Contains c.args.lists.items x in
    IfOk-weaker c.of.result (λ (l : List Keyed). l ≡ c.sort_by.new.self.items) Same
    (λ l e. subst Same (sym e) (same_lists c.args.lists.items c.sort_by.new.self.items c.sort_by.ensures.permutation)) c.of.ensures.ok

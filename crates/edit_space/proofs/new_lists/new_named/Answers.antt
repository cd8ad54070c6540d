use Rattle.std.proofs.Common.{ℕ, ◌<◌, ◌^◌, List, length, sym, ◌∙◌, subst}
use Rattle.std.specs.Prelude.{All}
use Rattle.edit_list.specs.declared.list_kinds.NewList.{NewList}
use Rattle.edit_space.specs.Working.{AreNewNames, AreNamed}
use Rattle.edit_list.proofs.NewListFacts.{new_lists_within}
use Rattle.edit_space.proofs.new_lists.new_named.Goals as goal

pub named_lists-requires-clause-within : goal.named_lists-requires-clause-within
named_lists-requires-clause-within c =
    let net = c.args.net.now in
    subst (λ (l : List (ℕ × NewList)). All (λ (x : ℕ × NewList). x.0 < length net.routers) l) (sym (c.deref-3.ensures.value ∙ c.in_ok-lists.ensures.lists))
    (new_lists_within net c.requires.valid c.args.changes.now.edits.items)

pub returns : goal.returns
returns c =
    let net = c.args.net.now in
    let lists = c.in_ok-lists.ensures.lists in
    let names = c.in_ok-names.names.items in
    let named = c.in_ok-named.named.items in
    record {
      new_names = subst (λ (l : List (ℕ × NewList)). AreNewNames net l names) (c.deref.ensures.value ∙ lists) c.in_ok-names.ensures;
      are_named = subst (λ (l : List (ℕ × NewList)). AreNamed l names named) (c.deref-3.ensures.value ∙ lists)
          (subst (λ (n : List (List (List ℕ))). AreNamed c.deref-3.result.now n named) c.deref-2.ensures.value c.in_ok-named.ensures);
      few = subst (λ (l : List (ℕ × NewList)). length l < 2 ^ 33) lists c.in_ok-lists.ensures.few;
    }

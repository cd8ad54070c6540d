use Rattle.std.proofs.Common.{◌≡◌, ℕ, List, [], sym, subst, ◌∙◌}
use Rattle.std.specs.Prelude.{AllPairs}
use Rattle.std.proofs.lemmas.Result.{IfOk-weaker}
use Rattle.std.specs.Map.Iter.{deref}
use Rattle.std.proofs.lemmas.Map.Iter.{rest_all}
use Rattle.arc_base.specs.NameForms.{IsNameBefore, texts_at}
use Rattle.edit_space.proofs.NameSets.{listed_all, in_byte_order}
use Rattle.edit_space.proofs.names.listed.Goals as goal

pub returns-clause-order : goal.returns-clause-order
returns-clause-order c =
    let none : c.loop-name.name-iterator ≡ [] = rest_all deref c.loop-name.name-iterator c.next.new.self c.next.result c.in-None.is c.next.ensures.steps in
    let all : c.loop-name.listed.items ≡ texts_at c.args.names.now.keys = listed_all c.loop-name.listed.items (texts_at c.args.names.now.keys) c.loop-name.name-iterator none c.loop-name.invariant in
    IfOk-weaker c.of.result (λ (l : List (List ℕ)). l ≡ c.loop-name.listed.items) (AllPairs IsNameBefore)
    (λ l e. subst (AllPairs IsNameBefore) (sym (e ∙ all)) (in_byte_order c.args.names.now.keys c.into_iter-name-iterator.ensures.into_iter_gives.4)) c.of.ensures.ok

use Rattle.std.proofs.Common.{◌≡◌, ℕ, List, [], ◌∷◌, ◌++◌, sym, ◌∙◌, ap, subst}
use Rattle.std.specs.Prelude.{AllPairs}
use Rattle.std.specs.Map.Iter.{deref}
use Rattle.std.proofs.lemmas.Map.Iter.{rest_more, rest_all}
use denote.Ref.{Bor}
use Rattle.arc_base.specs.NameForms.{IsNameBefore, texts_at}
use Rattle.row_making.proofs.ListsNames.{listed_more, listed_all, in_byte_order}
use Rattle.row_making.proofs.lists.listed.Goals as goal

pub loop-name-preserved : goal.loop-name-preserved
loop-name-preserved c =
    let name : Bor (List ℕ) = c.in-Some.name.now in
    let is : c.loop-name.name-iterator ≡ name ∷ c.next.new.self = rest_more deref c.loop-name.name-iterator c.next.new.self c.next.result c.in-Some.name c.in-Some.is c.next.ensures.steps in
    listed_more c.loop-name.listed.items c.push.new.self.items (texts_at c.args.names.now.keys) name c.loop-name.name-iterator c.next.new.self is c.loop-name.invariant
    (c.in_ok-push.ensures.items ∙ ap (λ (n : List ℕ). c.loop-name.listed.items ++ n ∷ []) c.in_ok-make.ensures)

pub returns : goal.returns
returns c =
    let none : c.loop-name.name-iterator ≡ [] = rest_all deref c.loop-name.name-iterator c.next.new.self c.next.result c.in-None.is c.next.ensures.steps in
    let all : c.loop-name.listed.items ≡ texts_at c.args.names.now.keys = listed_all c.loop-name.listed.items (texts_at c.args.names.now.keys) c.loop-name.name-iterator none c.loop-name.invariant in
    record { names = all; order = subst (AllPairs IsNameBefore) (sym all) (in_byte_order c.args.names.now.keys c.into_iter-name-iterator.ensures.into_iter_gives.4) }

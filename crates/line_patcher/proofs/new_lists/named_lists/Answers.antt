use Rattle.std.proofs.Common.{◌∙◌, ℕ, List, get_or}
use Rattle.std.proofs.lemmas.List.{get_or_default}
use Rattle.edit_list.specs.declared.list_kinds.NewList.{NewList}
use Rattle.edit_list.specs.declared.list_kinds.NewList.TheVariants.{Route}
use Rattle.line_patcher.proofs.Growing.{zip_more, zip_all}
use Rattle.line_patcher.proofs.new_lists.named_lists.Goals as goal

pub loop-place-preserved : goal.loop-place-preserved
loop-place-preserved c =
    let lists : List NewList = c.args.lists.now in
    let i : ℕ = c.loop-place.place in
    let list : NewList = get_or lists i (Route (record { 0 = 0 })) in
    let name : List ℕ = c.index-names-place.result in
    zip_more lists c.args.names.now i list name c.loop-place.named.items c.push.new.self.items (list, c.in_ok-make.field-0) c.requires c.loop-place-test.true
    (get_or_default lists i (Route (record { 0 = 0 })) list c.loop-place-test.true)
    c.index-names-place.is (λ j. (list, (c.in_ok-make.ensures ∙ c.bytes.ensures) j)) c.loop-place.invariant c.in_ok-push.ensures.items

pub returns : goal.returns
returns c = zip_all c.args.lists.now c.args.names.now c.loop-place.place c.loop-place.named.items c.requires c.loop-place-test.false c.loop-place.invariant

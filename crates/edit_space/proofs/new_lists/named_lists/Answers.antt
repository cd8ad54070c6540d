use Rattle.std.proofs.Common.{◌≡◌, ◌<◌, ◌∙◌, ℕ, List, length, get_or, replicate, refl, ap}
use Rattle.std.proofs.lemmas.List.{get_or_default}
use Rattle.edit_list.specs.declared.list_kinds.NewList.{NewList}
use Rattle.edit_list.specs.declared.list_kinds.NewList.TheVariants.{Route}
use Rattle.edit_space.specs.Working.{IsNamed}
use Rattle.edit_space.proofs.Naming.{none_named, used_more, has_next, is_named, rows_more, no_rows, all_rows}
use Rattle.edit_space.proofs.new_lists.named_lists.Goals as goal

pub loop-router-init : goal.loop-router-init
loop-router-init c = record {
  used = none_named (length c.args.net.now.routers) c.in_ok-used.used.items (c.in_ok-used.ensures.items_if_clones_equal (λ y h. h) ∙ ap (λ n. replicate n 0) c.len.ensures);
  named = no_rows (λ (place : ℕ). IsNamed c.args.lists.now c.args.names.now) c.new-named.result.items c.new-named.ensures.items;
}

pub take_name-requires : goal.take_name-requires
take_name-requires c =
    let lists : List (ℕ × NewList) = c.args.lists.now in
    let i : ℕ = c.loop-router.router-index in
    let list : ℕ × NewList = get_or lists i (0, Route (record { 0 = 0 })) in
    has_next c.args.net.now lists c.args.names.now i list c.loop-router.used.items c.loop-router-test.true (get_or_default lists i (0, Route (record { 0 = 0 })) list c.loop-router-test.true)
    (c.requires.within i (0, Route (record { 0 = 0 })) c.loop-router-test.true) c.requires.names c.loop-router.invariant.used

pub loop-router-preserved : goal.loop-router-preserved
loop-router-preserved c =
    let lists : List (ℕ × NewList) = c.args.lists.now in
    let i : ℕ = c.loop-router.router-index in
    let list : ℕ × NewList = get_or lists i (0, Route (record { 0 = 0 })) in
    let within : i < length lists = c.loop-router-test.true in
    let is : list ≡ get_or lists i list = get_or_default lists i (0, Route (record { 0 = 0 })) list within in
    let low : list.0 < length c.args.net.now.routers = c.requires.within i (0, Route (record { 0 = 0 })) within in
    record {
      used = used_more (length c.args.net.now.routers) lists i list c.loop-router.used.items c.take_name.new.used.items within is low c.loop-router.invariant.used c.in_ok-name.ensures.used;
      named =
          rows_more (λ (place : ℕ). IsNamed lists c.args.names.now) lists i list c.loop-router.named.items c.push.new.self.items
          (record { router = list.0; list = list.1; name = c.in_ok-name.name }) within is
          (is_named c.args.net.now lists c.args.names.now i list c.loop-router.used.items c.in_ok-name.name
          (record { router = list.0; list = list.1; name = c.in_ok-name.name }) within is low c.loop-router.invariant.used
          c.in_ok-name.ensures.name refl) c.in_ok-push.ensures.items c.loop-router.invariant.named;
    }

pub returns : goal.returns
returns c = all_rows (λ (place : ℕ). IsNamed c.args.lists.now c.args.names.now) c.args.lists.now c.args.lists.now c.loop-router.router-index c.loop-router.named.items
    c.loop-router-test.false refl c.loop-router.invariant.named

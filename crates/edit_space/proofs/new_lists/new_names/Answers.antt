use Rattle.std.proofs.Common.{◌≡◌, ◌<◌, ◌≤◌, ◌∙◌, ℕ, List, length, get_or, ap, arith}
use Rattle.std.proofs.lemmas.List.FromFn.{length-map-range_with_len}
use Rattle.net_model.specs.declared.rows.Network.{Network}
use Rattle.net_model.specs.declared.rows.RouterRow.{RouterRow}
use Rattle.edit_list.specs.declared.list_kinds.NewList.{NewList}
use Rattle.edit_list.specs.NewLists.{free_names, names_of}
use Rattle.arc_base.specs.Numbered.{if_number, of_number}
use Rattle.edit_list.proofs.Counts.{few_picked}
use Rattle.arc_base.proofs.Grouped.{told_all}
use Rattle.edit_space.proofs.Naming.{new_names_more, counted_more, few_more, group_of}
use Rattle.edit_space.proofs.new_lists.new_names.Goals as goal

pub free_names-requires : goal.free_names-requires
free_names-requires c =
    let lists : List (ℕ × NewList) = c.args.lists.now in
    let i : ℕ = c.loop-place.place in
    let within : i < c.len.result = omega (arith, c.loop-place-test.true, ap length c.slice-router-items.ensures.items, c.len.ensures) in
    let group : c.things_at-count.result.now ≡ of_number i lists =
    group_of lists c.deref.result.now c.len.result i c.things_at-count.result.now (c.deref.ensures.value ∙ c.in_ok-groups.ensures) within c.things_at-count.ensures in
    omega (arith, ap length group, few_picked (if_number i) lists, c.requires)

pub loop-place-preserved : goal.loop-place-preserved
loop-place-preserved c =
    let net : Network = c.args.net.now in
    let lists : List (ℕ × NewList) = c.args.lists.now in
    let i : ℕ = c.loop-place.place in
    let routers : List RouterRow = c.slice-router-items.result.now in
    let router : RouterRow = c.router-item.result in
    let within : i < length net.routers = omega (arith, c.loop-place-test.true, ap length c.slice-router-items.ensures.items) in
    let is : router ≡ get_or net.routers i router = c.router-item.is ∙ ap (λ (l : List RouterRow). get_or l i router) c.slice-router-items.ensures.items in
    let inside : i < c.len.result = omega (arith, within, c.len.ensures) in
    let group : c.things_at-count.result.now ≡ of_number i lists =
    group_of lists c.deref.result.now c.len.result i c.things_at-count.result.now (c.deref.ensures.value ∙ c.in_ok-groups.ensures) inside c.things_at-count.ensures in
    let named : List (List (List ℕ)) = c.loop-place.names.items in
    let size : length named ≡ i = ap length c.loop-place.invariant.names ∙ length-map-range_with_len (λ (r : ℕ). free_names (names_of net r) (length (of_number r lists))) 0 i in
    record {
      names =
          new_names_more net lists i router (length c.things_at-count.result.now) named c.push.new.self.items c.in_ok-free_names.field-0 within is (ap length
          group) c.in_ok-free_names.ensures.names c.loop-place.invariant.names
          c.in_ok-push.ensures.items;
      counted = counted_more named c.push.new.self.items lists i c.in_ok-free_names.field-0 size c.in_ok-push.ensures.items
          (c.in_ok-free_names.ensures.count ∙ ap length group) c.loop-place.invariant.counted;
      few = few_more net i router within is c.in_ok-free_names.ensures.limit c.loop-place.invariant.few;
    }

pub returns : goal.returns
returns c =
    let net : Network = c.args.net.now in
    let lists : List (ℕ × NewList) = c.args.lists.now in
    let past : length net.routers ≤ c.loop-place.place = omega (arith, c.loop-place-test.false, ap length c.slice-router-items.ensures.items) in
    let before : c.loop-place.place ≤ length net.routers = omega (arith, c.loop-place.auto.place-end, ap length c.slice-router-items.ensures.items) in
    record {
      told = told_all (λ (r : ℕ). free_names (names_of net r) (length (of_number r lists))) c.loop-place.names.items c.loop-place.place (length net.routers) before past c.loop-place.invariant.names;
      counted = λ r low. c.loop-place.invariant.counted r (omega (arith, low, past));
      few = λ r low. c.loop-place.invariant.few r (omega (arith, low, past));
    }

use Rattle.std.proofs.Common.{◌∙◌, ℕ, List, length, ap, subst}
use Rattle.std.specs.List.{filter_map}
use Rattle.net_model.specs.declared.rows.Network.{Network}
use Rattle.edit_list.specs.declared.edit_kinds.Edit.{Edit}
use Rattle.edit_list.specs.declared.list_kinds.NewList.{NewList}
use Rattle.edit_list.specs.NewLists.{new_lists}
use Rattle.edit_space.specs.Working.{AreNewNames}
use Rattle.line_patcher.specs.SessionLines.{turned_face}
use Rattle.line_patcher.specs.NewListLines.{face_places}
use Rattle.line_patcher.proofs.Tables.{grouped_are}
use Rattle.line_patcher.proofs.plans.Plan.of.Goals as goal

pub returns-clause-plan : goal.returns-clause-plan
returns-clause-plan c =
    let net : Network = c.args.built.now.net in
    let chosen : List Edit = c.in_ok-changes.changes.edits.items in
    let count : ℕ = length net.routers in
    record {
      changes = c.in_ok-changes.ensures.are;
      faces = c.in_ok-face_places.ensures ∙ ap face_places c.slice.ensures.items;
      turned =
          grouped_are c.len-routers.result count c.deref-2.result.now (filter_map (turned_face net) chosen) c.in_ok-grouped.field-0.items c.len-routers.ensures
          (c.deref-2.ensures.value ∙ c.in_ok-turned.ensures ∙ ap (filter_map (turned_face net)) c.deref.ensures.value) c.in_ok-grouped.ensures;
      lists = grouped_are c.len-routers.result count c.deref-3.result.now (new_lists net chosen) c.in_ok-grouped-2.field-0.items c.len-routers.ensures
          (c.deref-3.ensures.value ∙ c.in_ok-lists.ensures.lists) c.in_ok-grouped-2.ensures;
      names = subst (λ (l : List (ℕ × NewList)). AreNewNames net l c.in_ok-new_names.field-0.items) (c.deref-4.ensures.value ∙ c.in_ok-lists.ensures.lists) c.in_ok-new_names.ensures;
    }

use Rattle.std.proofs.Common.{◌≡◌, ◌∙◌, ℕ, ◌++◌, List, length, ap}
use Rattle.std.specs.List.{filter_map}
use Rattle.net_model.specs.declared.rows.Network.{Network}
use Rattle.ios_words.specs.declared.commands.Command.{Command}
use Rattle.net_build.specs.declared.built.FacePlace.{FacePlace}
use Rattle.net_build.specs.declared.built.Places.{Places}
use Rattle.edit_list.specs.declared.edit_kinds.Edit.{Edit}
use Rattle.edit_list.specs.declared.list_kinds.NewList.{NewList}
use Rattle.line_patcher.specs.Additions.{all_at}
use Rattle.line_patcher.specs.SessionLines.{session_command, turned_faces}
use Rattle.line_patcher.specs.NewListLines.{filter_command, group_command, face_places}
use Rattle.arc_base.proofs.Grouped.{things_told}
use Rattle.line_patcher.proofs.additions.commands_after.Goals as goal

pub returns : goal.returns
returns c =
    let net : Network = c.args.built.now.net in
    let own : Places = c.args.own.now in
    let chosen : List Edit = c.args.plan.now.changes.edits.items in
    let router : ℕ = c.args.router in
    let sessions : List ℕ → List Command = filter_map (session_command net) in
    let filters : List (NewList × List ℕ) → List Command = filter_map (λ n. filter_command net n.0 n.1) in
    let groups : List FacePlace → List (NewList × List ℕ) → List (ℕ × Command) = λ faces. filter_map (λ n. group_command faces n.0 n.1) in
    let turned : c.things_at.result.now ≡ turned_faces net chosen router =
    things_told c.deref.result.now (turned_faces net chosen) (length net.routers) router c.things_at.result.now
    (c.deref.ensures.value ∙ c.requires.plan.turned) c.requires.router c.things_at.ensures in
    let faces : c.deref-2.result.now ≡ face_places c.args.built.now.places = c.deref-2.ensures.value ∙ c.requires.plan.faces in
    let process : c.push_filter_commands.new.commands.items ≡ sessions c.things_at.result.now ++ filters c.args.named.now =
    c.in_ok-push_filter_commands.ensures ∙ ap (λ l. l ++ filters c.args.named.now)
    (c.in_ok-push_session_commands.ensures ∙ ap (λ l. l ++ sessions c.things_at.result.now) c.new-process.ensures.items) in
    c.in_ok-push_group_commands.ensures ∙ ap (λ l. l ++ groups c.deref-2.result.now c.args.named.now) (c.in_ok-commands.ensures ∙ ap (all_at own.process_last) process) ∙
    (λ i. all_at own.process_last (sessions (turned i) ++ filters (c.requires.named i)) ++ groups (faces i) (c.requires.named i))

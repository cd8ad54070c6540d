use Rattle.std.proofs.Common.{◌≡◌, ◌∙◌, ℕ, ◌++◌, List, ap, append_assoc}
use Rattle.std.specs.List.{flat_map}
use Rattle.net_model.specs.declared.rows.Network.{Network}
use Rattle.ios_words.specs.declared.commands.Command.{Command}
use Rattle.net_build.specs.declared.built.Places.{Places}
use Rattle.edit_list.specs.declared.edit_kinds.Edit.{Edit}
use Rattle.line_patcher.specs.declared.additions.NewNumber.{NewNumber}
use Rattle.line_patcher.specs.Additions.{all_at}
use Rattle.line_patcher.specs.NewListLines.{new_list_commands, commands_of_new_lists}
use Rattle.line_patcher.specs.EntryLines.{edited_packet_lists, edited_route_lists, packet_list_entries, route_list_entries, packet_list_numbers, route_list_numbers}
use Rattle.line_patcher.proofs.NewFaces.{named-faces}
use Rattle.line_patcher.proofs.additions.commands_before.Goals as goal

pub commands_of_new_lists-requires-clause-within : goal.commands_of_new_lists-requires-clause-within
commands_of_new_lists-requires-clause-within c = named-faces c.args.built.now.net c.args.plan.now.changes.edits.items c.args.router c.args.named.now c.requires.named

pub returns-clause-commands : goal.returns-clause-commands
returns-clause-commands c =
    let net : Network = c.args.built.now.net in
    let own : Places = c.args.own.now in
    let chosen : List Edit = c.args.plan.now.changes.edits.items in
    let router : ℕ = c.args.router in
    let new : c.in_ok-new.new.items ≡ commands_of_new_lists net chosen router = c.in_ok-new.ensures ∙ ap (flat_map (λ n. new_list_commands chosen n.0 n.1)) c.requires.named in
    let packets : List (ℕ × Command) = flat_map (packet_list_entries net own chosen) (edited_packet_lists net chosen router) in
    let routes : List (ℕ × Command) = flat_map (route_list_entries net own chosen) (edited_route_lists net chosen router) in
    c.in_ok-push_lists-2.ensures.commands ∙ ap (λ l. l ++ routes) (c.in_ok-push_lists.ensures.commands ∙ ap (λ l. l ++ packets) (c.in_ok-commands.ensures ∙ ap (all_at own.process) new)) ∙
    append_assoc (all_at own.process (commands_of_new_lists net chosen router)) packets routes

pub returns-clause-numbers : goal.returns-clause-numbers
returns-clause-numbers c =
    let net : Network = c.args.built.now.net in
    let own : Places = c.args.own.now in
    let chosen : List Edit = c.args.plan.now.changes.edits.items in
    let packets : List (ℕ × NewNumber) = flat_map (packet_list_numbers net own chosen) (edited_packet_lists net chosen c.args.router) in
    let routes : List (ℕ × NewNumber) = flat_map (route_list_numbers net own chosen) (edited_route_lists net chosen c.args.router) in
    c.in_ok-push_lists-2.ensures.numbers ∙ ap (λ l. l ++ routes) c.in_ok-push_lists.ensures.numbers ∙ append_assoc c.args.numbers.now.items packets routes

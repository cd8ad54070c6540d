use Rattle.std.proofs.Common.{◌∙◌, [], ◌∷◌, ◌++◌, List, map, ap, append_assoc}
use Rattle.std.proofs.lemmas.List.{take_all}
use Rattle.ios_words.specs.declared.commands.Command.{Command}
use Rattle.edit_list.specs.After.{every_packet}
use Rattle.line_patcher.specs.NewListLines.{deny_class, new_entry}
use Rattle.line_patcher.proofs.new_lists.push_new_entries.Goals as goal

pub returns : goal.returns
returns c =
    let old : List Command = c.args.commands.now.items in
    let denied : List Command = map deny_class c.args.classes.now in
    let before = c.loop-class.invariant ∙ ap (λ l. old ++ map deny_class l) (take_all c.loop-class.class-index c.args.classes.now c.loop-class-test.false) in
    c.in_ok-push-2.ensures.items ∙ ap (λ (command : Command). c.loop-class.commands.items ++ command ∷ []) c.permit_every_packet.ensures
    ∙ ap (λ (l : List Command). l ++ new_entry every_packet ∷ []) before ∙ append_assoc old denied (new_entry every_packet ∷ [])

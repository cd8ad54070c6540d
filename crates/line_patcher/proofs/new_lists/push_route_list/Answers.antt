use Rattle.std.proofs.Common.{◌∙◌, ◌+◌, ◌*◌, [], ◌∷◌, ◌++◌, List, length, map, ap, append_assoc}
use Rattle.std.specs.List.{enumerate_from}
use Rattle.ios_words.specs.declared.commands.Command.{Command}
use Rattle.line_patcher.specs.NewListLines.{deny_prefix, permit_all}
use Rattle.line_patcher.proofs.new_lists.push_route_list.Goals as goal

pub returns : goal.returns
returns c =
    let one : List Command = c.push_deny_prefixes.new.commands.items in
    let denied : List Command = map (deny_prefix c.args.name.now) (enumerate_from 1 c.args.prefixes.now) in
    let last : Command = permit_all c.args.name.now (5 * (length c.args.prefixes.now + 1)) in
    c.in_ok-push.ensures.items ∙ ap (λ (command : Command). one ++ command ∷ []) c.in_ok-permit_all.ensures
    ∙ ap (λ (commands : List Command). commands ++ last ∷ []) c.in_ok-push_deny_prefixes.ensures ∙ append_assoc c.args.commands.now.items denied (last ∷ [])

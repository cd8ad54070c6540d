use Rattle.std.proofs.Common.{◌∙◌, [], ◌∷◌, ◌++◌, List, ap}
use Rattle.ios_words.specs.declared.commands.Command.{Command}
use Rattle.ios_words.specs.declared.commands.Command.TheVariants.{Inert, ListBlock}
use Rattle.std.proofs.Common.{ℕ, true}
use Rattle.line_patcher.specs.NewListLines.{new_entries}
use Rattle.line_patcher.proofs.Growing.{framed}
use Rattle.line_patcher.proofs.new_lists.push_packet_list.Goals as goal

pub returns : goal.returns
returns c =
    let old : List Command = c.args.commands.now.items in
    framed old (new_entries c.args.classes.now) (ListBlock true c.args.name.now) Inert c.push.new.self.items c.push_new_entries.new.commands.items c.push-2.new.self.items
    (c.in_ok-push.ensures.items ∙ ap (λ (name : List ℕ). old ++ ListBlock true name ∷ []) c.in_ok-make.ensures) c.in_ok-push_new_entries.ensures c.in_ok-push-2.ensures.items

use Rattle.std.proofs.Common.{◌++◌, ◌∷◌, [], List, Vec, sym, ◌∙◌, ap, take}
use Rattle.std.specs.declared.alloc.Global.{Global}
use Rattle.ios_words.specs.declared.commands.Command.{Command}
use Rattle.ios_config.specs.declared.settings.Given.{Given}
use Rattle.ios_config.specs.Seen.{commands_seen}
use Rattle.ios_config.specs.Texts.{entries}
use Rattle.ios_config.proofs.Pieces.{entries_more, entries_same}
use Rattle.ios_config.proofs.lists.entries.Goals as goal
use Rattle.ios_config.proofs.lists.entries.Goals.{then-is_entry+in_ok-given+in_ok-push, else-is_entry}

pub loop-command-preserved : goal.loop-command-preserved
loop-command-preserved c =
    elim c.if-is_entry.branch [
      | then-is_entry+in_ok-given+in_ok-push w ↦ ap (λ (v : Vec (Given Command) Global). v.items) w.found-is ∙ w.in_ok-push.ensures.items ∙
          ap (λ (l : List (Given Command)). l ++ w.in_ok-given.field-0 ∷ []) c.loop-command.invariant ∙
          ap (λ (g : Given Command). entries (commands_seen (take c.loop-command.command-index c.args.commands.now)) ++ g ∷ []) w.in_ok-given.ensures ∙
          sym (entries_more c.args.commands.now c.loop-command.command-index c.command-item.result c.loop-command-test.true c.command-item.is
          (sym c.is_entry.ensures ∙ w.if-is_entry.true))
      | else-is_entry w ↦ ap (λ (v : Vec (Given Command) Global). v.items) w.found-is ∙ c.loop-command.invariant ∙
          sym (entries_same c.args.commands.now c.loop-command.command-index c.command-item.result c.loop-command-test.true c.command-item.is
          (sym c.is_entry.ensures ∙ w.if-is_entry.false))
    ]

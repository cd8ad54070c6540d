use Rattle.std.proofs.Common.{◌≡◌, ◌∙◌, Option, IfSome, sym, subst}
use Rattle.command_words.specs.Commands.{HasLimit}
use Rattle.command_words.specs.declared.commands.Command.{Command}
use Rattle.command_words.proofs.SearchLimits.{command_limited}
use Rattle.command_words.proofs.reading.read_words.Goals as goal

pub returns-in-Ok : goal.returns-in-Ok
returns-in-Ok c =
    let is = c.ok.ensures.value ∙ c.in-Ok.ensures in
    record { command = is; limit = subst (λ (o : Option Command). IfSome o HasLimit) (sym is) (command_limited c.args.words.now) }

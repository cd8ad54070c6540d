use Rattle.std.proofs.Common.{◌∙◌, ap}
use Rattle.std.proofs.lemmas.Result.{IfOk-weaker}
use Rattle.clap.specs.Simple.{App, app_of, with_subcommand}
use Rattle.command_words.specs.Commands.{form_of_row}
use Rattle.command_words.proofs.PlainCommands.{command_plain}
use Rattle.command_words.proofs.grammar.with_form.Goals as goal

pub above-requires : goal.above-requires
above-requires c = record { plain = ap (λ (a : App). a.top.is_plain) c.in_ok-command_of.ensures ∙ command_plain (form_of_row c.args.form.now) }

pub returns : goal.returns
returns c =
    IfOk-weaker c.above.result _ _ (λ more is. is ∙ ap (λ (a : App). with_subcommand (app_of c.args.command) a.top) c.in_ok-command_of.ensures) c.above.ensures

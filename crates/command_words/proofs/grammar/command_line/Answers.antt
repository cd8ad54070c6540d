use Rattle.std.proofs.Common.{◌∙◌}
use Rattle.clap.specs.Simple.{app_of}
use Rattle.command_words.specs.Commands.{form_of_row}
use Rattle.command_words.specs.Grammar.{with_form}
use Rattle.command_words.proofs.PlainCommands.{added_one}
use Rattle.command_words.proofs.grammar.command_line.Goals as goal

pub loop-form-preserved : goal.loop-form-preserved
loop-form-preserved c =
    c.loop-form.invariant
    ∙ added_one with_form form_of_row (app_of c.loop-form.arcv) (app_of c.in_ok-arcv.arcv) c.args.forms.now c.loop-form.form-index _ c.loop-form-test.true c.in_ok-arcv.ensures

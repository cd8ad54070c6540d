use Rattle.std.proofs.Common.{◌≡◌, drop, fold, map}
use Rattle.clap.specs.Simple.{app_of}
use Rattle.command_words.specs.Commands.{form_of_row}
use Rattle.command_words.specs.Grammar.{bare, with_form}
use Rattle.command_words.proofs.grammar.command_line.Given as goal

abbrev pub invariant-loop-form : goal.invariant-loop-form
invariant-loop-form l = fold with_form bare (map form_of_row l.forms) ≡ fold with_form (app_of l.arcv) (map form_of_row (drop l.form-index l.forms))

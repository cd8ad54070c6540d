-- The command with the values that `clap` found.
use Rattle.std.specs.Prelude.{List, Option, option_and_then}
use Rattle.clap.specs.Walk.{Row, Text, first_of}
use Rattle.command_words.specs.Commands.{command_by, form_named}
use Rattle.command_words.specs.declared.commands.Command.{Command}

abbrev pub matched_named : Text → List Row → Option Command
matched_named name rows =
    option_and_then (λ form. command_by form.kind (λ id. first_of id rows)) (form_named name)

abbrev pub matched_command : Option (Text × List Row) → Option Command
matched_command found = option_and_then (λ p. matched_named p.0 p.1) found

use Rattle.std.proofs.Common.{refl}
use Rattle.clap.specs.Simple.{app_of}
use Rattle.command_words.proofs.PlainCommands.{local}
use Rattle.command_words.proofs.grammar.above.Goals as goal

pub returns : goal.returns
returns c = c.in_ok-subcommand.ensures.shape (local c.args.below (app_of c.args.below) refl c.requires.plain)

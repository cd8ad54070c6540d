use Rattle.command_words.specs.Commands.{command_of}
use Rattle.arc_run.proofs.Headline.{tells}
use Rattle.arc_run.proofs.Owns.{usage_only}
use Rattle.arc_run.proofs.top.run_telling.Goals as goal

pub returns-clause-usage : goal.returns-clause-usage
returns-clause-usage g c = usage_only (command_of c.args.words.now) c.run_defined.ensures.runs

pub returns-clause-told : goal.returns-clause-told
returns-clause-told g c command is = tells (command_of c.args.words.now) c.run_defined.ensures.runs command is

use Rattle.generate_commands.proofs.Made.{few_failures}
use Rattle.generate_commands.proofs.generating.build.Goals as goal

pub returns-in-Ok-clause-fit : goal.returns-in-Ok-clause-fit
returns-in-Ok-clause-fit c = record {
  valid = c.in-Ok.ensures.valid;
  ends = c.in-Ok.ensures.ends;
  failures = few_failures c.requires.generated.0 c.args.made.now c.requires.generated.1.is;
}

pub unreachable-requires : goal.unreachable-requires
unreachable-requires c =
    c.generated_files_are_not_refused.ensures c.requires.generated.0 _ c.args.made.now c.in-Err-Refused.field-0-0 c.requires.generated.1
    (rw c.in-Err-Refused.field-0-is at c.in-Err-Refused.ensures.answer)

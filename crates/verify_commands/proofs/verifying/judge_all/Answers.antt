use Rattle.verify_commands.proofs.Judging.{all_on}
use Rattle.run_inputs.proofs.ClassCounts.{few_each}
use Rattle.verify_commands.proofs.verifying.judge_all.Goals as goal

pub judge_all-requires-clause-classes : goal.judge_all-requires-clause-classes
judge_all-requires-clause-classes g c = few_each c.args.input.now.net c.args.input.now.doc.policies c.requires.few

pub returns : goal.returns
returns g c = all_on c.args.input.now.net c.args.input.now.doc.policies c.judge_all.result c.judge_all.ensures.right c.judge_all.ensures.fixed

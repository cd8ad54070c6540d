use Rattle.std.proofs.Common.{◌∙◌}
use Rattle.run_inputs.proofs.ClassCounts.{few_each}
use Rattle.reach_commands.proofs.router_failures.judge_last.Goals as goal

pub judge_nodes_of-requires-clause-few : goal.judge_nodes_of-requires-clause-few
judge_nodes_of-requires-clause-few c =
    few_each c.args.net.now c.args.policies.now c.requires.few c.args.policy c.requires.one c.in_ok-parts.parts (c.in_ok-parts.ensures.classes c.args.net.now c.args.policies.now c.in_ok-marks.ensures)

pub returns-clause-answer : goal.returns-clause-answer
returns-clause-answer c = record {
  verdict = c.in_ok-verdict.verdict;
  right = c.in_ok-verdict.ensures.right;
  given = c.in_ok-verdict.ensures.given;
  text = c.of-2.ensures ∙ c.in_ok-text.ensures;
  writes = c.make.ensures;
  status = c.status_of.ensures.value;
}

pub returns-clause-judging : goal.returns-clause-judging
returns-clause-judging c = record { status = c.status_of.ensures.small; writes = c.make.ensures }

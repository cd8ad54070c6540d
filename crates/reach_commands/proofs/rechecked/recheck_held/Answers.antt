use Rattle.std.proofs.Common.{◌∙◌, ap}
use Rattle.reach_commands.specs.RecheckRuns.{rechecked_status}
use Rattle.reach_commands.proofs.RecheckedEach.{are_right}
use Rattle.reach_commands.proofs.rechecked.recheck_held.Goals as goal

pub alone_all-requires-clause-right : goal.alone_all-requires-clause-right
alone_all-requires-clause-right g c =
    are_right c.args.input.now.net c.args.input.now.doc.policies c.args.held.now c.in_ok-rechecked.rechecked c.in_ok-rechecked.ensures

pub recheck_text-requires : goal.recheck_text-requires
recheck_text-requires g c = c.in_ok-rechecked.ensures.count

pub returns-clause-answer : goal.returns-clause-answer
returns-clause-answer g c = record {
  rechecked = c.in_ok-rechecked.rechecked;
  are_rechecked = c.in_ok-rechecked.ensures;
  alone = c.in_ok-found.found;
  are_alone = c.in_ok-found.ensures;
  text = c.of.ensures ∙ c.in_ok-text.ensures;
  writes = c.make.ensures;
  status = c.status_of.ensures.value ∙ ap rechecked_status c.slice.ensures.items;
}

pub returns-clause-judging : goal.returns-clause-judging
returns-clause-judging g c = record { status = c.status_of.ensures.small; writes = c.make.ensures }

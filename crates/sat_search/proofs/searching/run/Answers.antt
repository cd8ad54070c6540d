use Rattle.std.proofs.Common.{ℕ, ap, arith, rules, subst}
use Rattle.clean_logs.specs.CleanLogs.{additions}
use Rattle.sat_search.specs.Orders.{IsFresh}
use Rattle.sat_search.proofs.Following.{follows_start, follows_taught, taught_log, taught_few, taught_more, taught_empty}
use Rattle.sat_search.proofs.Following.{follows_dropped, dropped_additions, log_same, log_short, log_additions, taught_different}
use Rattle.sat_search.proofs.Outcomes.{ends_err}
use Rattle.sat_search.proofs.Unset.{fresh_waits, waits_dropped}
use Rattle.sat_search.proofs.searching.run.Goals as goal

pub loop-conflict-init : goal.loop-conflict-init
loop-conflict-init g c =
    let order = c.in_ok-learner.learner.order in
    record {
      follows = follows_start c.args.core.now c.args.log.now.steps;
      ready = search rules;
      waiting = fresh_waits c.args.core.now.vars c.args.core.now.trail order (subst (λ (n : ℕ). IsFresh n order) c.vars.ensures.value c.in_ok-learner.ensures.fresh);
      added = search rules;
      most = search rules;
    }

pub learn-requires-clause-ids : goal.learn-requires-clause-ids
learn-requires-clause-ids g c =
    let s = c.args.core.now in
    let follows = c.loop-conflict.invariant.follows in
    let count = log_additions s c.args.log.now.steps c.loop-conflict.log.steps follows.log in
    omega (arith, count, follows.last, c.dive.ensures.kept.last_id, c.loop-conflict.invariant.added, c.loop-conflict.invariant.most, c.if-added-limit.false, c.requires.numbers)

pub learn-requires-clause-short : goal.learn-requires-clause-short
learn-requires-clause-short g c =
    let s = c.args.core.now in
    let follows = c.loop-conflict.invariant.follows in
    let count = log_additions s c.args.log.now.steps c.loop-conflict.log.steps follows.log in
    let size = log_short s c.args.log.now.steps c.loop-conflict.log.steps follows.log in
    omega (arith, count, size, c.loop-conflict.invariant.added, c.loop-conflict.invariant.most, c.requires.short, c.requires.few)

pub returns-then-branch : goal.returns-then-branch
returns-then-branch g c =
    let follows = c.loop-conflict.invariant.follows in
    let kept = c.dive.ensures.kept in
    let taught = c.in_ok-learn.ensures.teaches in
    let more = taught_more c.args.core.now c.loop-conflict.core c.dive.new.core c.learn.new.core c.args.log.now.steps c.loop-conflict.log.steps c.learn.new.log.steps
    c.in_ok-learn.field-0 follows kept taught in
    record {
      log = taught_log c.args.core.now c.loop-conflict.core c.dive.new.core c.learn.new.core c.args.log.now.steps c.loop-conflict.log.steps c.learn.new.log.steps c.in_ok-learn.field-0
          follows kept taught;
      most = omega (arith, more, c.loop-conflict.invariant.added, c.loop-conflict.invariant.most, c.if-added-limit.false);
      ends = taught_empty c.args.core.now c.loop-conflict.core c.dive.new.core c.learn.new.core c.args.log.now.steps c.loop-conflict.log.steps c.learn.new.log.steps
          c.in_ok-learn.field-0 follows kept taught c.if-branch.true;
    }

pub drop_lemmas-requires-clause-different : goal.drop_lemmas-requires-clause-different
drop_lemmas-requires-clause-different g c = taught_different c.dive.new.core c.learn.new.core c.loop-conflict.log.steps c.learn.new.log.steps c.in_ok-learn.field-0
    c.dive.ensures.sound.different c.in_ok-learn.ensures.teaches

pub drop_lemmas-requires-clause-short : goal.drop_lemmas-requires-clause-short
drop_lemmas-requires-clause-short g c =
    let s = c.args.core.now in
    let follows = c.loop-conflict.invariant.follows in
    let kept = c.dive.ensures.kept in
    let taught = c.in_ok-learn.ensures.teaches in
    let log = taught_log s c.loop-conflict.core c.dive.new.core c.learn.new.core c.args.log.now.steps c.loop-conflict.log.steps c.learn.new.log.steps c.in_ok-learn.field-0 follows kept taught in
    let more = taught_more s c.loop-conflict.core c.dive.new.core c.learn.new.core c.args.log.now.steps c.loop-conflict.log.steps c.learn.new.log.steps c.in_ok-learn.field-0 follows kept taught in
    let count = log_additions s c.args.log.now.steps c.learn.new.log.steps log in
    let size = log_short s c.args.log.now.steps c.learn.new.log.steps log in
    omega (arith, more, count, size, c.loop-conflict.invariant.added, c.loop-conflict.invariant.most, c.requires.short, c.requires.few)

pub returns-in_err-drop_lemmas : goal.returns-in_err-drop_lemmas
returns-in_err-drop_lemmas g c =
    let s = c.args.core.now in
    let follows = c.loop-conflict.invariant.follows in
    let kept = c.dive.ensures.kept in
    let taught = c.in_ok-learn.ensures.teaches in
    let log = taught_log s c.loop-conflict.core c.dive.new.core c.learn.new.core c.args.log.now.steps c.loop-conflict.log.steps c.learn.new.log.steps c.in_ok-learn.field-0 follows kept taught in
    let more = taught_more s c.loop-conflict.core c.dive.new.core c.learn.new.core c.args.log.now.steps c.loop-conflict.log.steps c.learn.new.log.steps c.in_ok-learn.field-0 follows kept taught in
    let same = c.in_err-drop_lemmas.ensures.err in
    record {
      log = log_same s c.args.log.now.steps c.learn.new.log.steps c.drop_lemmas.new.log.steps log same;
      most = omega (arith, more, ap additions same, c.loop-conflict.invariant.added, c.loop-conflict.invariant.most, c.if-added-limit.false);
      ends = ends_err s c.args.log.now.steps c.args.limit c.drop_lemmas.new.core c.drop_lemmas.new.log.steps c.from_residual-in_err-drop_lemmas.result c.from_residual-in_err-drop_lemmas.ensures.0;
    }

pub loop-conflict-preserved : goal.loop-conflict-preserved
loop-conflict-preserved g c =
    let s = c.args.core.now in
    let follows = c.loop-conflict.invariant.follows in
    let kept = c.dive.ensures.kept in
    let taught = c.in_ok-learn.ensures.teaches in
    let more = taught_more s c.loop-conflict.core c.dive.new.core c.learn.new.core c.args.log.now.steps c.loop-conflict.log.steps c.learn.new.log.steps c.in_ok-learn.field-0 follows kept taught in
    let few = taught_few s c.loop-conflict.core c.dive.new.core c.learn.new.core c.args.log.now.steps c.loop-conflict.log.steps c.learn.new.log.steps c.in_ok-learn.field-0 follows kept taught in
    let next = follows_taught s c.loop-conflict.core c.dive.new.core c.learn.new.core c.args.log.now.steps c.loop-conflict.log.steps c.learn.new.log.steps c.in_ok-learn.field-0
    follows kept taught c.if-branch.false in
    let drops = c.in_ok-drop_lemmas.ensures.drops in
    let same = dropped_additions s c.learn.new.core c.drop_lemmas.new.core c.args.log.now.steps c.learn.new.log.steps c.drop_lemmas.new.log.steps next few drops in
    record {
      follows = follows_dropped s c.learn.new.core c.drop_lemmas.new.core c.args.log.now.steps c.learn.new.log.steps c.drop_lemmas.new.log.steps next few drops;
      ready = c.in_ok-drop_lemmas.ensures.ready;
      waiting = waits_dropped c.learn.new.core c.drop_lemmas.new.core c.learn.new.log.steps c.drop_lemmas.new.log.steps c.learn.new.self.order c.drop_lemmas.new.self.order
          c.in_ok-learn.ensures.waiting drops c.drop_lemmas.ensures.order;
      added = omega (arith, more, same, c.loop-conflict.invariant.added);
      most = omega (arith, c.loop-conflict.invariant.most, c.if-added-limit.false);
    }

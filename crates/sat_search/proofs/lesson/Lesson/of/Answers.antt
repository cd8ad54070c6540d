use Rattle.std.proofs.Common.{sym, ap, ◌∙◌, arith, length, rules}
use Rattle.sat_search.proofs.Passing.{none_open}
use Rattle.sat_search.proofs.Lessons.{conflict_pass, pass_learnt}
use Rattle.sat_search.proofs.lesson.Lesson.of.Goals as goal

pub join-requires-clause-counted : goal.join-requires-clause-counted
join-requires-clause-counted c = sym (none_open c.args.core.now.level c.args.core.now.trail c.args.marks.now c.requires.none)

pub loop-place-init : goal.loop-place-init
loop-place-init c = record {
  pass = conflict_pass c.args.core.now c.entries-entries.ensures.sound c.args.conflict c.args.marks.now c.join.new.marks _ c.join.new.self.current c.new-2.result.items
      c.join.new.self.hints.items c.join.new.self.lits.items c.requires.none c.requires.conflict c.in_ok-join.ensures.joined
      (c.join.ensures.size ∙ c.requires.size) c.in_ok-join.ensures.counted c.new-2.ensures.items c.in_ok-join.ensures.hint (c.join.ensures.lits ∙ c.new.ensures.items)
      (ap length c.entries-entries.ensures.entries);
  met = search rules;
  size = search rules;
}

pub returns-clause-learnt : goal.returns-clause-learnt
returns-clause-learnt c = pass_learnt c.args.core.now c.entries-entries.ensures.sound c.loop-place.place c.loop-place.marks c.loop-place.lesson.lits.items
    c.loop-place.lesson.hints.items c.reverse.new.self.items c.loop-place.lesson.current c.loop-place.invariant.pass (omega arith) c.reverse.ensures.items

use Rattle.std.proofs.Common.{◌<◌, ◌++◌, ◌∷◌, [], List, length, get_or, reverse, ap, sym, ◌∙◌, subst, None, Result, Ok, Err, OnOk}
use Rattle.cnf_types.specs.declared.literal.Lit.{Lit}
use Rattle.sat_core.specs.declared.assigned.Assigned.{Assigned}
use Rattle.sat_search.specs.Passes.{is_marked}
use Rattle.sat_search.proofs.Passing.{pass_skips}
use Rattle.sat_search.proofs.Visiting.{visited_keeps, visited_resolves, leave_counted, reason_held, visited, in_range, negated_below}
use Rattle.sat_search.proofs.lesson.Lesson.visit.Goals as goal

abbrev unset : Assigned
unset = record { lit = record { code = 0 }; level = 0; reason = None }

all_ok : {A E : Type 0} (r : Result A E) (P Q R X : Type 0) → OnOk r P → OnOk r Q → OnOk r R → (P → Q → R → X) → OnOk r X
all_ok (Ok a) P Q R X p q r f = f p q r
all_ok (Err e) P Q R X p q r f = p

pub has-requires : goal.has-requires
has-requires c =
    let a : Assigned = get_or c.entries.result.now c.args.place unset in
    let at = visited c.args.core.now.trail c.entries.result.now c.args.place unset c.entries.ensures.entries c.requires.place in
    subst (λ (l : Lit). l.code < length c.args.marks.now) (sym c.negated-negation.ensures)
    (negated_below c.args.core.now.vars a.lit (length c.args.marks.now) (in_range c.args.core.now c.requires.sound c.args.place a at) c.requires.room.size)

pub returns-then-not-has-clause-pass : goal.returns-then-not-has-clause-pass
returns-then-not-has-clause-pass c =
    let a : Assigned = get_or c.entries.result.now c.args.place unset in
    let at = visited c.args.core.now.trail c.entries.result.now c.args.place unset c.entries.ensures.entries c.requires.place in
    pass_skips c.args.core.now c.requires.sound c.args.place c.args.marks.now c.args.self.now.lits.items (reverse c.args.self.now.hints.items) c.args.self.now.current a at
    (ap (is_marked c.args.marks.now) (sym c.negated-negation.ensures) ∙ sym c.has.ensures ∙ c.if-not-has.true) c.requires.pass

pub join-requires-clause-held : goal.join-requires-clause-held
join-requires-clause-held c =
    let a : Assigned = get_or c.entries.result.now c.args.place unset in
    let at = visited c.args.core.now.trail c.entries.result.now c.args.place unset c.entries.ensures.entries c.requires.place in
    reason_held c.args.core.now c.requires.sound c.args.place c.args.marks.now c.args.self.now.lits.items (reverse c.args.self.now.hints.items) c.args.self.now.current a at
    (ap (is_marked c.args.marks.now) (sym c.negated-negation.ensures) ∙ sym c.has.ensures ∙ c.if-not-has.false) c.requires.pass c.leave.new.marks c.leave.ensures.cleared
    c.level.result c.is_spared-spared.result c.in-Some.held (sym c.resolving_reason-reason.ensures ∙ c.in-Some.is)

pub join-requires-clause-counted : goal.join-requires-clause-counted
join-requires-clause-counted c =
    let a : Assigned = get_or c.entries.result.now c.args.place unset in
    let at = visited c.args.core.now.trail c.entries.result.now c.args.place unset c.entries.ensures.entries c.requires.place in
    leave_counted c.args.core.now c.requires.sound c.args.place c.args.marks.now c.args.self.now.lits.items (reverse c.args.self.now.hints.items) c.args.self.now.current a at
    (ap (is_marked c.args.marks.now) (sym c.negated-negation.ensures) ∙ sym c.has.ensures ∙ c.if-not-has.false) c.requires.pass c.leave.new.marks c.leave.ensures.cleared
    c.level-2.result c.leave.new.self.current c.level-2.ensures c.leave.ensures.less

pub returns-in-Some-clause-pass : goal.returns-in-Some-clause-pass
returns-in-Some-clause-pass c =
    let a : Assigned = get_or c.entries.result.now c.args.place unset in
    let at = visited c.args.core.now.trail c.entries.result.now c.args.place unset c.entries.ensures.entries c.requires.place in
    all_ok c.join.result _ _ _ _ c.join.ensures.joined c.join.ensures.hint c.join.ensures.counted (λ joined hint counted.
    visited_resolves c.args.core.now c.requires.sound c.args.place c.args.marks.now c.args.self.now.lits.items (reverse c.args.self.now.hints.items) c.args.self.now.current a at
    (ap (is_marked c.args.marks.now) (sym c.negated-negation.ensures) ∙ sym c.has.ensures ∙ c.if-not-has.false) c.requires.pass c.leave.new.marks c.leave.ensures.cleared
    c.level.result c.level-2.result c.is_spared-spared.result c.in-Some.held c.join.new.marks c.leave.new.self.current c.join.new.self.current c.join.new.self.lits.items
    c.leave.new.self.hints.items c.join.new.self.hints.items c.level.ensures c.level-2.ensures (c.join.ensures.size ∙ c.leave.ensures.size) c.leave.ensures.less
    (sym c.resolving_reason-reason.ensures ∙ c.in-Some.is)
    joined counted (ap reverse c.leave.ensures.hints) hint (c.join.ensures.lits ∙ c.leave.ensures.lits))

pub returns-in_ok-push-in-None-clause-pass : goal.returns-in_ok-push-in-None-clause-pass
returns-in_ok-push-in-None-clause-pass c =
    let a : Assigned = get_or c.entries.result.now c.args.place unset in
    let at = visited c.args.core.now.trail c.entries.result.now c.args.place unset c.entries.ensures.entries c.requires.place in
    visited_keeps c.args.core.now c.requires.sound c.args.place c.args.marks.now c.args.self.now.lits.items (reverse c.args.self.now.hints.items) c.args.self.now.current a at
    (ap (is_marked c.args.marks.now) (sym c.negated-negation.ensures) ∙ sym c.has.ensures ∙ c.if-not-has.false) c.requires.pass c.leave.new.marks c.leave.ensures.cleared
    c.level.result c.level-2.result c.leave.new.self.current c.is_spared-spared.result c.push.new.self.items
    (reverse c.leave.new.self.hints.items) c.level.ensures c.level-2.ensures c.leave.ensures.size c.leave.ensures.less (sym c.resolving_reason-reason.ensures ∙ c.in-None.is)
    (c.in_ok-push-in-None.ensures.items ∙ ap (λ (ls : List Lit). ls ++ c.negated-negation.result ∷ []) c.leave.ensures.lits
    ∙ ap (λ (l : Lit). c.args.self.now.lits.items ++ l ∷ []) c.negated-negation.ensures)
    (ap reverse c.leave.ensures.hints)

use Rattle.std.proofs.Common.{sym, ◌∙◌, ap, arith}
use Rattle.net_model.specs.declared.policies.Class.{Class}
use Rattle.witness_check.specs.Boxes.{classes_meet, splits}
use Rattle.witness_check.proofs.Matches.{passed_by, decided, other_answer}
use Rattle.witness_check.proofs.answers.shows_none.Goals as goal

pub loop-entry-preserved-then-not-classes_meet : goal.loop-entry-preserved-then-not-classes_meet
loop-entry-preserved-then-not-classes_meet c p at gets =
    sym (passed_by c.args.class c.args.entries.now c.loop-entry.entry-index c.entry-item.result (omega arith) c.entry-item.is
    (ap (λ (d : Class). classes_meet c.args.class d) (sym c.entry_class-other.ensures) ∙ sym c.classes_meet.ensures ∙ c.if-not-classes_meet.true) p at)
    ∙ c.loop-entry.invariant p at gets

pub returns-then-not-splits : goal.returns-then-not-splits
returns-then-not-splits c shown p at gets =
    other_answer c.entry-item.result.permit c.args.answer c.if-entry-answer.false
    (sym (decided c.args.class c.args.entries.now c.loop-entry.entry-index c.entry-item.result (omega arith) c.entry-item.is
    (ap (λ (d : Class). classes_meet c.args.class d) (sym c.entry_class-other.ensures) ∙ sym c.classes_meet.ensures ∙ c.if-not-classes_meet.false)
    (ap (λ (d : Class). splits c.args.class d) (sym c.entry_class-other.ensures) ∙ sym c.splits.ensures ∙ c.if-not-splits.true) p at) ∙ c.loop-entry.invariant p at gets)

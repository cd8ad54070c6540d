use Rattle.std.proofs.Common.{not, true, false}
use Rattle.std.specs.List.{list_any}
use Rattle.condition_formula.specs.declared.network.ConditionArc.{ConditionArc}
use Rattle.policy_encode.specs.Questions.{is_never, arc_over}
use Rattle.policy_encode.proofs.Making.{two_added}
use Rattle.policy_encode.proofs.condition_arcs.ArcContext.add_able.Goals as goal

pub returns : goal.returns
returns c = λ list is.
    two_added (λ (x : ConditionArc). not (list_any is_never x.routing)) c.in_ok-forth.forth c.in_ok-back.back
    (arc_over c.args.self.now.net.now list c.args.self.now.to c.args.self.now.classes.now (c.args.ends.now.link.0, c.args.ends.now.row.now) c.args.ends.now.a.now c.args.ends.now.b.now true)
    (arc_over c.args.self.now.net.now list c.args.self.now.to c.args.self.now.classes.now (c.args.ends.now.link.0, c.args.ends.now.row.now) c.args.ends.now.a.now c.args.ends.now.b.now false)
    c.args.arcs.now c.add.new.arcs c.add-2.new.arcs c.in_ok-add.ensures c.in_ok-add-2.ensures (c.in_ok-forth.ensures list is) (c.in_ok-back.ensures list is)

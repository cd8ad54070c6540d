use Rattle.std.proofs.Common.{refl, sym, subst, Option, ◌∙◌}
use Rattle.graph_flow.specs.declared.arcs.Arc.{Arc}
use Rattle.graph_flow.specs.Marks.{Steps}
use Rattle.graph_flow.proofs.search.Search.step.Goals as goal

pub follow-requires-clause-head : goal.follow-requires-clause-head
follow-requires-clause-head c = c.requires.head c.in-Some.next (sym c.over.ensures ∙ c.in-Some.is)

pub follow-requires-clause-room : goal.follow-requires-clause-room
follow-requires-clause-room c unseen = c.requires.room c.in-Some.next.head (c.requires.head c.in-Some.next (sym c.over.ensures ∙ c.in-Some.is)) unseen

pub returns-in-Some-clause-steps : goal.returns-in-Some-clause-steps
returns-in-Some-clause-steps c =
    subst (λ (o : Option Arc). Steps o c.args.self.now.marks.items c.args.self.now.queue.items c.args.count c.args.node c.follow.new.self.marks.items c.follow.new.self.queue.items c.follow.result)
    (sym c.in-Some.is ∙ c.over.ensures) c.follow.ensures.follows

pub returns-in-None-clause-steps : goal.returns-in-None-clause-steps
returns-in-None-clause-steps c =
    subst (λ (o : Option Arc). Steps o c.args.self.now.marks.items c.args.self.now.queue.items c.args.count c.args.node c.args.self.now.marks.items c.args.self.now.queue.items c.args.count)
    (sym c.in-None.is ∙ c.over.ensures) (refl, refl, refl)

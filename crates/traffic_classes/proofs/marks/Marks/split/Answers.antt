use Rattle.std.proofs.Common.{◌∙◌, sym, subst}
use Rattle.net_model.specs.Packets.{subject}
use Rattle.traffic_classes.specs.Classes.{AreClasses}
use Rattle.traffic_classes.specs.Parts.{MakeUp}
use Rattle.traffic_classes.proofs.MakingUp.{classes_make_up}
use Rattle.traffic_classes.proofs.Marked.{made}
use Rattle.traffic_classes.proofs.marks.Marks.split.Goals as goal

pub returns-clause-classes : goal.returns-clause-classes
returns-clause-classes c = λ net policies are.
    subst (AreClasses net policies c.args.policy.now) (sym (c.in_ok-classes.ensures.ok ∙ c.in_ok-triples.ensures))
    (made net policies c.args.self.now are c.args.policy.now c.in_ok-leaves.leaves.sources c.in_ok-leaves.leaves.destinations c.in_ok-leaves.leaves.services
    c.in_ok-leaves.ensures.sources c.in_ok-leaves.ensures.destinations c.in_ok-leaves.ensures.services)

pub returns-clause-parts : goal.returns-clause-parts
returns-clause-parts c = λ net policies are.
    subst (MakeUp net (subject c.args.policy.now)) (sym (c.in_ok-classes.ensures.ok ∙ c.in_ok-triples.ensures))
    (classes_make_up net policies c.args.policy.now _
    (made net policies c.args.self.now are c.args.policy.now c.in_ok-leaves.leaves.sources c.in_ok-leaves.leaves.destinations c.in_ok-leaves.leaves.services
    c.in_ok-leaves.ensures.sources c.in_ok-leaves.ensures.destinations c.in_ok-leaves.ensures.services))

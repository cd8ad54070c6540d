use Rattle.std.proofs.Common.{List}
use Rattle.std.specs.Prelude.{IfSome}
use Rattle.std.proofs.lemmas.Result.{IfOk-weaker, IfErr-weaker}
use Rattle.net_model.specs.declared.policies.Policy.{Policy}
use Rattle.net_model.specs.declared.rows.Network.{Network}
use Rattle.net_model.specs.Packets.{subject}
use Rattle.traffic_classes.specs.Classes.{AreMarks, AreClasses, HasClasses}
use Rattle.traffic_classes.specs.Parts.{MakeUp}
use Rattle.traffic_classes.proofs.Marked.{there}
use Rattle.traffic_classes.proofs.Unions.{counts_more}
use Rattle.traffic_classes.proofs.classing.classes.Goals as goal

pub returns-clause-classes : goal.returns-clause-classes
returns-clause-classes c =
    IfOk-weaker c.classes.result _ _
    (λ cs are. there _ c.in-Some.policy.now (λ p. AreClasses c.args.net.now c.args.policies.now p cs) c.in-Some.ensures.item
    (are c.args.net.now c.args.policies.now c.in_ok-marks-in-Some.ensures)) c.classes.ensures.classes

pub returns-clause-parts : goal.returns-clause-parts
returns-clause-parts c =
    IfOk-weaker c.classes.result _ _
    (λ cs make. there _ c.in-Some.policy.now (λ p. MakeUp c.args.net.now (subject p) cs) c.in-Some.ensures.item
    (make c.args.net.now c.args.policies.now c.in_ok-marks-in-Some.ensures)) c.classes.ensures.parts

pub returns-clause-many : goal.returns-clause-many
returns-clause-many c =
    IfErr-weaker c.classes.result _ _
    (λ fault many. counts_more (λ n. (net : Network) (policies : List Policy) → AreMarks net policies c.in_ok-marks-in-Some.marks → HasClasses net policies c.in-Some.policy.now n)
    (λ n. IfSome _ (λ p. HasClasses c.args.net.now c.args.policies.now p n))
    (λ n has. there _ c.in-Some.policy.now (λ p. HasClasses c.args.net.now c.args.policies.now p n) c.in-Some.ensures.item
    (has c.args.net.now c.args.policies.now c.in_ok-marks-in-Some.ensures)) fault many) c.classes.ensures.many

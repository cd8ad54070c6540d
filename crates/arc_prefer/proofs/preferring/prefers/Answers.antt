use Rattle.std.proofs.Common.{List, length, sym, ◌≤◌}
use Rattle.std.specs.Prelude.{IfSome}
use Rattle.std.proofs.lemmas.Option.{IfSome_then}
use Rattle.arc_base.specs.declared.limits.TheConstants.{CLASS_LIMIT}
use Rattle.net_model.specs.declared.policies.Class.{Class}
use Rattle.net_model.specs.Packets.{subject}
use Rattle.traffic_classes.specs.Classes.{AreClasses}
use Rattle.traffic_classes.specs.Parts.{MakeUp}
use Rattle.traffic_classes.proofs.Marked.{there}
use Rattle.arc_prefer.specs.Answers.{IsRightPreferred}
use Rattle.arc_prefer.specs.Firsts.{IsOfFirstClass}
use Rattle.arc_prefer.proofs.Firsts.{at_some}
use Rattle.arc_prefer.proofs.preferring.prefers.Goals as goal

pub prefers_of-requires-clause-classes : goal.prefers_of-requires-clause-classes
prefers_of-requires-clause-classes c =
    at_some _ c.in-Some.policy.now (λ p. AreClasses c.args.net.now c.args.policies.now p c.in_ok-parts.parts) (sym c.in-Some.ensures.item) c.in_ok-parts.ensures.classes

pub prefers_of-requires-clause-parts : goal.prefers_of-requires-clause-parts
prefers_of-requires-clause-parts c =
    at_some _ c.in-Some.policy.now (λ p. MakeUp c.args.net.now (subject p) c.in_ok-parts.parts) (sym c.in-Some.ensures.item) c.in_ok-parts.ensures.parts

pub returns-clause-right : goal.returns-clause-right
returns-clause-right c =
    there _ c.in-Some.policy.now (λ p. IsRightPreferred c.args.net.now p c.args.wanted.now c.in_ok-answer.answer) c.in-Some.ensures.item c.in_ok-answer.ensures.right

pub returns-clause-first : goal.returns-clause-first
returns-clause-first c =
    there _ c.in-Some.policy.now (λ p. IfSome c.in_ok-answer.answer.fault (IsOfFirstClass c.args.net.now c.args.policies.now p c.args.wanted.now)) c.in-Some.ensures.item c.in_ok-answer.ensures.first

pub returns-clause-few : goal.returns-clause-few
returns-clause-few c =
    IfSome_then _ {P = λ p. AreClasses c.args.net.now c.args.policies.now p c.in_ok-parts.parts}
    {Q = λ p. (parts : List Class) × AreClasses c.args.net.now c.args.policies.now p parts × (length parts ≤ CLASS_LIMIT)}
    c.in_ok-parts.ensures.classes (λ p are. (c.in_ok-parts.parts, are, c.in_ok-parts.ensures.few))

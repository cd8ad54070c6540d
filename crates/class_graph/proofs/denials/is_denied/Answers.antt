use Rattle.std.proofs.Common.{true, false, refl}
use Rattle.std.proofs.lemmas.Bool.{false≢true}
use Rattle.class_graph.specs.Denials.{IsDeniedOver}
use Rattle.class_graph.proofs.Denied.{other_way, not_when}
use Rattle.class_graph.proofs.denials.is_denied.Goals as goal

pub returns-then-not-may_deny : goal.returns-then-not-may_deny
returns-then-not-may_deny c = (
  λ off. absurd (false≢true off),
  λ denied. absurd (denied.denied (c.requires.listed.each c.args.link.0 false (c.may_deny.ensures c.if-not-may_deny.true) refl denied.arc denied.is_arc denied.of_link
      c.args.answers.now)),
)

pub returns-then-denies : goal.returns-then-denies
returns-then-denies c = (λ _. (c.denies.ensures.0 c.if-denies.true).denied_by, λ _. refl)

pub returns : goal.returns
returns c = (
  λ on. (c.denies-2.ensures.0 on).denied_by,
  λ denied. c.denies-2.ensures.1 (other_way c.args.net.now c.args.pair.now.to c.args.answers.now c.args.link.0
      (not_when c.denies.result (IsDeniedOver c.args.net.now c.args.pair.now.to c.args.answers.now c.args.link.0 true) c.denies.ensures.1 c.if-denies.false) denied),
)

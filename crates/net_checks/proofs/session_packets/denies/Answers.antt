use Rattle.std.proofs.Common.{sym, ◌∙◌, refl}
use Rattle.std.proofs.lemmas.Bool.{false≢true}
use Rattle.net_checks.proofs.SessionPackets.{needed_at_own, only_own, needed_at_routers, needed_at_designated, one_of_three}
use Rattle.net_checks.proofs.session_packets.denies.Goals as goal

pub returns-then-denies_at : goal.returns-then-denies_at
returns-then-denies_at c =
    (λ t. needed_at_own c.args.list.now.entries c.args.from c.args.own c.args.protocol (c.denies_at.ensures.0 c.if-denies_at.true), λ h. refl)

pub returns-in-Bgp : goal.returns-in-Bgp
returns-in-Bgp c = (
  λ t. absurd (false≢true t),
  λ h. absurd (false≢true (sym c.if-denies_at.false ∙ c.denies_at.ensures.1 (only_own c.args.list.now.entries c.args.from c.args.own c.args.protocol c.in-Bgp.is h))),
)

pub returns-then-denies_at-2 : goal.returns-then-denies_at-2
returns-then-denies_at-2 c =
    (λ t. needed_at_routers c.args.list.now.entries c.args.from c.args.own c.args.protocol c.in-Ospf.is (c.denies_at-in-Ospf.ensures.0 c.if-denies_at-2.true), λ h. c.if-denies_at-2.true)

pub returns-else-denies_at-2 : goal.returns-else-denies_at-2
returns-else-denies_at-2 c = (
  λ t. needed_at_designated c.args.list.now.entries c.args.from c.args.own c.args.protocol c.in-Ospf.is (c.denies_at-else-denies_at-2.ensures.0 t),
  λ h. c.denies_at-else-denies_at-2.ensures.1
      (one_of_three c.args.list.now.entries c.args.from c.args.own c.args.protocol c.in-Ospf.is h
      (λ at_own. false≢true (sym c.if-denies_at.false ∙ c.denies_at.ensures.1 at_own))
      (λ at_routers. false≢true (sym c.if-denies_at-2.false ∙ c.denies_at-in-Ospf.ensures.1 at_routers))),
)

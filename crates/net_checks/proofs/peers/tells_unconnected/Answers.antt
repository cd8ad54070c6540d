use Rattle.std.proofs.Common.{◌≡◌, refl, sym, ◌∙◌, subst, arith}
use Rattle.std.proofs.lemmas.Bool.{false≢true}
use Rattle.arc_base.specs.declared.prefix.Prefix.{Prefix}
use Rattle.net_rules.specs.Peers.{IsConnected}
use Rattle.net_checks.proofs.peers.tells_unconnected.Goals as goal

pub returns-then-has_prefix : goal.returns-then-has_prefix
returns-then-has_prefix c = λ config are n bad.
    let same : c.in-Tells.p ≡ bad.1.0 = cc in
    bad.1.2 (subst (λ (p : Prefix). IsConnected config.faces p) same ((are c.in-Tells.p).0 (c.has_prefix.ensures.0 c.if-has_prefix.true)))

pub returns-else-has_prefix : goal.returns-else-has_prefix
returns-else-has_prefix c = λ config are. record {
  has = (refl, (c.in-Tells.p, c.in-Tells.is, λ known. false≢true (sym c.if-has_prefix.false ∙ c.has_prefix.ensures.1 ((are c.in-Tells.p).1 known))));
  least = λ m bad. omega (arith, bad.0);
}

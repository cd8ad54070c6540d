use Rattle.std.proofs.Common.{◌≢◌, ℕ, not, nat_eq, inl, inr, IsTrue, ◌↔◌, sym, ◌∙◌, ap}
use Rattle.std.proofs.lemmas.Bool.{false≢true, eq-eqb}
use Rattle.std.proofs.lemmas.Bool.Decides.{eqb_tells}
use Rattle.net_model.proofs.Hosts.{one_host}
use Rattle.net_checks.proofs.ends.has_endpoints.Goals as goal

differ : (a b : ℕ) → IsTrue (not (nat_eq a b)) ↔ (a ≢ b)
differ a b = (
  λ t e. false≢true (sym (ap not (eq-eqb a b e)) ∙ t),
  λ n. elim (eqb_tells a b) [ inl same ↦ absurd (n same.1) | inr other ↦ ap not other.0 ],
)

pub returns-in-None : goal.returns-in-None
returns-in-None c = (λ t. absurd (false≢true t), λ h. absurd (c.in-None.ensures.none h.source h.from))

pub returns-in-None-host_of : goal.returns-in-None-host_of
returns-in-None-host_of c = (λ t. absurd (false≢true t), λ h. absurd (c.in-None-host_of.ensures.none h.target h.to))

pub returns-in-Some-host_of : goal.returns-in-Some-host_of
returns-in-Some-host_of c = (
  λ told. record {
    source = c.in-Some.source.0;
    target = c.in-Some-host_of.target.0;
    from = c.in-Some.ensures.found;
    to = c.in-Some-host_of.ensures.found;
    apart = (differ c.in-Some.source.0 c.in-Some-host_of.target.0).0 told;
  },
  λ h. (differ c.in-Some.source.0 c.in-Some-host_of.target.0).1 (λ same. h.apart (
      one_host c.args.net.now c.requires c.args.from h.source c.in-Some.source.0 h.from c.in-Some.ensures.found ∙ same ∙
      one_host c.args.net.now c.requires c.args.to c.in-Some-host_of.target.0 h.target c.in-Some-host_of.ensures.found h.to
      )),
)

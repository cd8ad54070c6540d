use Rattle.std.proofs.Common.{ℕ, true, sym, ◌∙◌, subst}
use Rattle.std.proofs.lemmas.Bool.{eqb-true, eq-eqb, false≢true}
use Rattle.witness_check.specs.Cases.{TestGives}
use Rattle.witness_check.specs.Trails.{IsTrail}
use Rattle.witness_check.proofs.Following.{one_end}
use Rattle.witness_check.proofs.cases.Case.leads.Goals as goal

pub returns-in-Some-clause-yes : goal.returns-in-Some-clause-yes
returns-in-Some-clause-yes g c t =
    subst (λ (v : ℕ). IsTrail c.args.self.now.net.now c.args.self.now.to (TestGives (goal.F-post g c.args.test) true) c.args.from.0 c.args.links.now v)
    (eqb-true c.in-Some.router.0 c.args.self.now.target.now.router.0 t) c.in-Some.ensures.found

pub returns-in-Some-clause-no : goal.returns-in-Some-clause-no
returns-in-Some-clause-no g c off trail =
    false≢true (sym off ∙ eq-eqb c.in-Some.router.0 c.args.self.now.target.now.router.0 (one_end c.args.self.now.net.now c.args.self.now.to c.requires.valid _ _ c.args.from.0
    c.args.links.now c.in-Some.router.0 c.args.self.now.target.now.router.0 c.in-Some.ensures.found trail))

pub returns-in-None-clause-no : goal.returns-in-None-clause-no
returns-in-None-clause-no g c off trail = c.in-None.ensures.none c.args.self.now.target.now.router.0 trail

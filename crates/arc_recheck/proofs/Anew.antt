-- A verdict that is given anew, since the old one cannot be kept.
use Rattle.std.proofs.Common.{◌≡◌, false, Option, Some, List, sym, subst}
use Rattle.std.specs.Prelude.{IfSome}
use Rattle.std.proofs.lemmas.Bool.{false≢true}
use Rattle.net_model.specs.declared.policies.Policy.{Policy}
use Rattle.net_model.specs.declared.rows.Network.{Network}
use Rattle.net_model.specs.declared.verdicts.Verdict.{Verdict}
use Rattle.net_model.specs.Witnesses.{IsRight}
use Rattle.traffic_classes.specs.Classes.{HasClasses}
use Rattle.verdicts.specs.declared.fault.JudgeFault.{JudgeFault}
use Rattle.verdicts.specs.declared.fault.JudgeFault.TheVariants.{TooMany, Memory}
use Rattle.verdicts.specs.Fixed.{IsFixed}
use Rattle.verdicts.specs.Judged.{CountsMore}
use Rattle.arc_recheck.specs.Rechecks.{CanBeKept, HasClassesAnew, IsRechecked}

pub is_anew : (net : Network) (policies : List Policy) (policy : Policy) (old : Option Verdict) (v : Verdict) → ¬ CanBeKept net policy old → IsRight net policy v → IsFixed net policies policy v →
    IsRechecked net policies policy old (record { kept = false; verdict = v })
is_anew net policies policy old v never right fixed = record {
  kept = (λ t. absurd (false≢true t), λ can. absurd (never can));
  same = λ t. absurd (false≢true t);
  anew = λ off. fixed;
  right = right;
}

-- a count of the policy's classes is one of a verdict that is given anew
pub many_anew : (net : Network) (policies : List Policy) (o : Option Policy) (policy : Policy) (old : Option Verdict) → o ≡ Some policy → ¬ CanBeKept net policy old → (fault : JudgeFault) →
    CountsMore (λ n. IfSome o (λ p. HasClasses net policies p n)) fault → CountsMore (λ n. IfSome o (λ p. HasClassesAnew net policies p old n)) fault
many_anew net policies o policy old at never (TooMany count) many = (
  subst (λ (q : Option Policy). IfSome q (λ p. HasClassesAnew net policies p old count)) (sym at)
      (record { anew = never; classes = subst (λ (q : Option Policy). IfSome q (λ p. HasClasses net policies p count)) at many.0 }),
  many.1,
)
many_anew net policies o policy old at never Memory many = tt

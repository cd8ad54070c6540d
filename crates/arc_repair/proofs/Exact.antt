-- A check accepts exactly the certificates.
use Rattle.std.proofs.Common.{◌≡◌, Bool, true, false, not, ◌||◌, List, IsTrue, refl, sym, ◌∙◌, ap, subst}
use Rattle.std.specs.List.{list_any}
use Rattle.std.proofs.lemmas.Bool.{false≢true}
use Rattle.cnf_types.specs.declared.literal.Lit.{Lit}
use Rattle.cnf_types.specs.declared.clauses.Formula.{Formula}
use Rattle.policy_encode.specs.Laws.{HaveOneFormula}
use Rattle.proof_check.specs.Knowledge.{Knowledge, start}
use Rattle.proof_check.specs.Logs.{after_all, adds_empty, IsAccepted}
use Rattle.proof_check.proofs.Verdicts.{refuted_all}
use Rattle.arc_repair.specs.Checks.{knowledge}
use Rattle.arc_repair.specs.Claims.{claim_bound, least_bound, needs_refutation}
use Rattle.arc_repair.specs.Laws.{ChecksAreExact, CertificatesPass}

-- if there is something to refute, it is refuted
met_need : (needs refuted : Bool) → IsTrue (not needs || refuted) → needs ≡ true → IsTrue refuted
met_need true refuted h is = h
met_need false refuted h is = absurd (false≢true is)

need_met : (needs refuted : Bool) → (needs ≡ true → IsTrue refuted) → IsTrue (not needs || refuted)
need_met true refuted h = h refl
need_met false refuted h = refl

pub checks_are_exact : ChecksAreExact
checks_are_exact net doc list claim begun check steps valid b same knows accepted =
    let k : Knowledge = start b.formula (least_bound claim) b.tops in
    let refuted : (knowledge check).refuted ≡ list_any adds_empty steps = ap (λ (x : Knowledge). x.refuted) (knows ∙ ap (λ (x : Knowledge). after_all x steps) b.knows) ∙ refuted_all k steps in
    let needs : check.needs_refutation ≡ needs_refutation claim = same ∙ b.needs in (
      λ agrees. record {
        right = b.right;
        shown = record {
          formula = b.formula;
          tops = b.tops;
          is_formula = b.is_formula;
          accepted = subst (λ (x : Knowledge). IsAccepted x steps) b.knows accepted;
          refuting = λ need. sym refuted ∙ met_need check.needs_refutation (knowledge check).refuted agrees (needs ∙ need);
        };
      },
      λ certificate. need_met check.needs_refutation (knowledge check).refuted (λ need. refuted ∙ certificate.shown.refuting (sym needs ∙ need)),
    )

pub certificates_pass : HaveOneFormula → CertificatesPass
certificates_pass single net doc list claim begun steps valid b certificate =
    let one = single net doc list (claim_bound claim) certificate.shown.formula b.formula certificate.shown.tops b.tops valid certificate.shown.is_formula b.is_formula in
    subst (λ (x : Knowledge). IsAccepted x steps) (sym b.knows)
    (subst (λ (t : List Lit). IsAccepted (start b.formula (least_bound claim) t) steps) one.1
    (subst (λ (f : Formula). IsAccepted (start f (least_bound claim) certificate.shown.tops) steps) one.0 certificate.shown.accepted))

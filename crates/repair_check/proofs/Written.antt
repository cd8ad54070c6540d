-- The text that is written for a claim, with a log that shows it, is a certificate of the claim.
use Rattle.std.proofs.Common.{◌≡◌, ◌∙◌, ◌<◌, List, [], ◌∷◌, length, map, ap, refl, sym, subst, arith}
use Rattle.std.specs.Prelude.{All, IsTrue, Some}
use Rattle.std.specs.List.{AllZip}
use Rattle.std.proofs.lemmas.Bool.{false≢true}
use Rattle.std.proofs.lemmas.List.Elements.{All-cons, All-head, All-nil, All-tail, All-weaker}
use Rattle.arc_base.specs.declared.place.Link.{Link}
use Rattle.net_model.specs.declared.policies.Document.{Document}
use Rattle.net_model.specs.declared.policies.Class.{Class}
use Rattle.net_model.specs.declared.policies.Policy.{Policy}
use Rattle.net_model.specs.declared.policies.PolicyKind.{PolicyKind}
use Rattle.net_model.specs.declared.policies.PolicyKind.TheVariants.{Blocked, Through, Reach}
use Rattle.net_model.specs.declared.rows.Network.{Network}
use Rattle.net_model.specs.declared.verdicts.Verdict as verdicts
use Rattle.net_model.specs.declared.verdicts.Verdict.TheVariants.{Closed, Paths, Walk, Denied, Cut, Refused}
use Rattle.net_model.specs.Forwarding.{Ends}
use Rattle.net_model.specs.Packets.{subject}
use Rattle.net_model.specs.Witnesses.{is_yes, IsPath, IsRightFor, IsRightSide}
use Rattle.edit_list.specs.declared.claims.Claim.{Claim}
use Rattle.edit_list.specs.declared.claims.Claim.TheVariants.{Repaired, NoRepair}
use Rattle.edit_list.specs.declared.edit_kinds.Edit as edits
use Rattle.proof_log.specs.declared.steps.Step.{Step}
use Rattle.policy_report.specs.Recertifying.{CertificatesAreWritten, IsToldClaim, IsYes}
use Rattle.policy_report.specs.Rereading.{AreLinks, MayHaveVerdict, IsReadable, CanBeWritten}
use Rattle.arc_repair.specs.Answers.{ClaimsFew, ShowsFew}
use Rattle.arc_repair.specs.Claims.{IsCertificate, IsRightClaim, IsRightYes}
use Rattle.repair_check.specs.Certifies.{WrittenClaimsAreCertified}
use Rattle.report_check.proofs.Readable.{are_links}
use Rattle.repair_check.proofs.Logs.{steps_told}

-- a right yes that shows few sides or paths can be written, and is an answer to what the policy asks
yes_told : (net : Network) (ends : Ends) (kind : PolicyKind) (whole : Class) (v : verdicts.Verdict) → IsTrue (is_yes v) → IsRightFor net ends kind whole v →
    ShowsFew v → MayHaveVerdict kind v × CanBeWritten net v
yes_told net ends Blocked whole (Closed sides) positive right few =
    (tt, (All-weaker (IsRightSide net ends Blocked whole) (λ s. length s.side ≡ length net.routers) (λ s side. side.closed.flags) sides right.right, omega (arith, few)))
yes_told net ends Through whole (Closed sides) positive right few =
    (tt, (All-weaker (IsRightSide net ends Through whole) (λ s. length s.side ≡ length net.routers) (λ s side. side.closed.flags) sides right.right, omega (arith, few)))
yes_told net ends (Reach k) whole (Closed sides) positive right few = absurd right
yes_told net ends Blocked whole (Paths paths) positive right few = absurd right
yes_told net ends Through whole (Paths paths) positive right few = absurd right
yes_told net ends (Reach k) whole (Paths paths) positive right few =
    (tt, (All-weaker (IsPath net ends) (λ p. AreLinks net p.links) (λ p path. are_links net ends p path) paths right.are_paths, omega (arith, few)))
yes_told net ends kind whole (Walk class path) positive right few = absurd (false≢true positive)
yes_told net ends kind whole (Denied class) positive right few = absurd (false≢true positive)
yes_told net ends kind whole (Cut links side) positive right few = absurd (false≢true positive)
yes_told net ends kind whole (Refused packet link) positive right few = absurd (false≢true positive)

yes_of : (v : verdicts.Verdict) → IsTrue (is_yes v) → IsYes v
yes_of (Closed sides) positive = tt
yes_of (Paths paths) positive = tt
yes_of (Walk class path) positive = absurd (false≢true positive)
yes_of (Denied class) positive = absurd (false≢true positive)
yes_of (Cut links side) positive = absurd (false≢true positive)
yes_of (Refused packet link) positive = absurd (false≢true positive)

-- the network after edits has as many links and routers, so what can be written for the one can be written for the other
module _ (net after : Network) (links : length after.links ≡ length net.links) (routers : length after.routers ≡ length net.routers) where
  told_links : (ls : List Link) → AreLinks after ls → AreLinks net ls
  told_links ls are = All-weaker (λ l. l.0 < length after.links) (λ l. l.0 < length net.links) (λ l below. omega (arith, below, links)) ls are

  told_there : (v : verdicts.Verdict) → IsTrue (is_yes v) → CanBeWritten after v → CanBeWritten net v
  told_there (Closed sides) positive told = (All-weaker (λ s. length s.side ≡ length after.routers) (λ s. length s.side ≡ length net.routers) (λ s each. each ∙ routers) sides told.0, told.1)
  told_there (Paths paths) positive told = (All-weaker (λ p. AreLinks after p.links) (λ p. AreLinks net p.links) (λ p are. told_links p.links are) paths told.0, told.1)
  told_there (Walk class path) positive told = absurd (false≢true positive)
  told_there (Denied class) positive told = absurd (false≢true positive)
  told_there (Cut links side) positive told = absurd (false≢true positive)
  told_there (Refused packet link) positive told = absurd (false≢true positive)

  all_told : (policies : List Policy) (vs : List verdicts.Verdict) → AllZip (IsRightYes after) policies vs → All ShowsFew vs → AllZip (IsReadable net) policies vs
  all_told [] [] right few = tt
  all_told [] (v ∷ vs) right few = absurd right
  all_told (policy ∷ policies) [] right few = absurd right
  all_told (policy ∷ policies) (v ∷ vs) right few =
      let here = yes_told after right.0.right.ends policy.kind (subject policy) v right.0.yes right.0.right.right (All-head ShowsFew v vs few) in (
        record { kind = here.0; told = told_there v right.0.yes here.1 },
        all_told policies vs right.1 (All-tail ShowsFew v vs few),
      )

all_yes : (after : Network) (policies : List Policy) (vs : List verdicts.Verdict) → AllZip (IsRightYes after) policies vs → All IsYes vs
all_yes after [] [] right = All-nil IsYes
all_yes after [] (v ∷ vs) right = absurd right
all_yes after (policy ∷ policies) [] right = absurd right
all_yes after (policy ∷ policies) (v ∷ vs) right = All-cons IsYes v vs (yes_of v right.0.yes) (all_yes after policies vs right.1)

-- a right claim whose verdicts show few sides or paths can be written
can_be_told : (net : Network) (doc : Document) (list : List edits.Edit) (claim : Claim) → IsRightClaim net doc list claim → ClaimsFew claim → IsToldClaim net doc list claim
can_be_told net doc list (Repaired price bound flags vs) right few = (
  omega (arith, right.affordable, right.few),
  omega (arith, right.few),
  right.one_each,
  all_told net right.after (ap length right.is_after.links) right.is_after.routers.whole doc.policies vs right.judged few,
  all_yes right.after doc.policies vs right.judged,
)
can_be_told net doc list (NoRepair bound) right few = omega (arith, right)

-- the steps of lines that each have one
all_steps : (steps : List Step) → steps_told (map Some steps) ≡ steps
all_steps [] = refl
all_steps (s ∷ steps) = ap (λ (l : List Step). s ∷ l) (all_steps steps)

pub written_claims_are_certified : CertificatesAreWritten → WrittenClaimsAreCertified
written_claims_are_certified written net doc list claim log certificate few lines =
    let P : List Step → Type 0 = λ steps. IsCertificate net doc list claim steps in
    record {
      told = map Some log.steps;
      is_text = written net doc list claim log (can_be_told net doc list claim certificate.right few) lines;
      certificate = subst P (sym (all_steps log.steps)) certificate;
    }

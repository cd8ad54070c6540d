-- Every report that `verify` printed is one that `check` accepts: its verdicts are right, and each witness has few lines.
use Rattle.std.proofs.Common.{◌≡◌, ℕ, ◌≤◌, false, inl, inr, List, [], ◌∷◌, length, map, refl, sym, ◌∙◌, ap, subst, arith}
use Rattle.std.proofs.lemmas.Bool.{le-ltb}
use Rattle.std.proofs.lemmas.Bool.Decides.{eqb_tells}
use Rattle.std.proofs.lemmas.List.{length-map}
use Rattle.std.proofs.lemmas.List.Elements.{All-from_recursion, recursion_from_All}
use Rattle.std.specs.Prelude.{Option, Some, None, All, nat_lt, unwrap_or}
use Rattle.std.specs.List.{AllZip, AllByRecursion}
use Rattle.arc_base.specs.TextLines.{lines}
use Rattle.net_model.specs.declared.policies.Class.{Class}
use Rattle.net_model.specs.declared.policies.Policy.{Policy}
use Rattle.net_model.specs.declared.policies.PolicyKind.{PolicyKind}
use Rattle.net_model.specs.declared.policies.PolicyKind.TheVariants.{Blocked, Through, Reach}
use Rattle.net_model.specs.declared.rows.Network.{Network}
use Rattle.net_model.specs.declared.verdicts.ClassSide.{ClassSide}
use Rattle.net_model.specs.declared.verdicts.LinkPath.{LinkPath}
use Rattle.net_model.specs.declared.verdicts.Verdict.{Verdict}
use Rattle.net_model.specs.declared.verdicts.Verdict.TheVariants.{Closed, Paths, Walk, Denied, Cut, Refused}
use Rattle.net_model.specs.Forwarding.{Ends, source_router, target_router}
use Rattle.net_model.specs.Packets.{subject}
use Rattle.net_model.specs.Witnesses.{IsRight, IsRightFor, IsRightPaths}
use Rattle.net_model.specs.Policies.{HasFewFailures}
use Rattle.net_doc.proofs.Forms.{well_formed}
use Rattle.verdicts.specs.Fixed.{IsFixedFor}
use Rattle.policy_report.specs.Reports.{witness_lines, closed_line, path_line, report_text}
use Rattle.report_check.specs.Lengths as lengths
use Rattle.report_check.specs.Lengths.{HasFewLines}
use Rattle.report_check.proofs.Short.{right_reports_are_short}
use Rattle.arc_outside.specs.Files.{Files}
use Rattle.certificate_laws.specs.Laws.{VerifiedIsAccepted}
use Rattle.run_files.specs.declared.limits.Limits.TheVariants.{Judging}
use Rattle.run_files.specs.Limits.{proof_limit}
use Rattle.run_files.specs.Refusals.{bytes_at, read_refusal, refusal_within}
use Rattle.verify_commands.specs.Verifies.{IsVerdictOn}
use Rattle.verify_commands.proofs.Verified.{all_right}
use Rattle.run_inputs.proofs.SameInput.{same_input}

-- one side for each class
few_sides : (net : Network) (classes : List Class) (sides : List ClassSide) → length classes ≤ 4096 → map (λ s. s.class) sides ≡ classes → HasFewLines net (Closed sides)
few_sides net classes sides few in_order = omega (arith, few, ap length in_order, length-map sides (λ s. s.class), length-map sides (closed_line net))

-- one more path than links may fail, or none
few_paths : (net : Network) (ends : Ends) (k : ℕ) (whole : Class) (paths : List LinkPath) → k ≤ 16 → IsRightPaths net ends k whole paths → HasFewLines net (Paths paths)
few_paths net ends k whole paths few right = elim (eqb_tells (source_router ends) (target_router ends)) [
  | inl same ↦ omega (arith, right.together same.1, length-map paths path_line)
  | inr other ↦ omega (arith, few, right.apart other.1, length-map paths path_line)
]

few_lines : (net : Network) (ends others : Ends) (kind : PolicyKind) (whole : Class) (classes : List Class) (v : Verdict) → HasFewFailures kind → length classes ≤ 4096 →
    IsRightFor net ends kind whole v → IsFixedFor net others kind whole classes v → HasFewLines net v
few_lines net ends others kind whole classes (Walk class path) failures few right fixed = omega arith
few_lines net ends others kind whole classes (Denied class) failures few right fixed = omega arith
few_lines net ends others kind whole classes (Cut links side) failures few right fixed = omega arith
few_lines net ends others kind whole classes (Refused p link) failures few right fixed = omega arith
few_lines net ends others Blocked whole classes (Closed sides) failures few right fixed = few_sides net classes sides few fixed.in_order
few_lines net ends others Through whole classes (Closed sides) failures few right fixed = few_sides net classes sides few fixed.in_order
few_lines net ends others (Reach k) whole classes (Closed sides) failures few right fixed = absurd right
few_lines net ends others Blocked whole classes (Paths paths) failures few right fixed = absurd right
few_lines net ends others Through whole classes (Paths paths) failures few right fixed = absurd right
few_lines net ends others (Reach k) whole classes (Paths paths) failures few right fixed = few_paths net ends k whole paths failures right

-- the witnesses of the verdicts have few lines
all_few_lines : (net : Network) (document policies : List Policy) (vs : List Verdict) → AllByRecursion (λ policy. HasFewFailures policy.kind) policies →
    AllZip (IsVerdictOn net document) policies vs → AllByRecursion (HasFewLines net) vs
all_few_lines net document [] [] failures judged = tt
all_few_lines net document [] (v ∷ vs) failures judged = absurd judged
all_few_lines net document (p ∷ ps) [] failures judged = absurd judged
all_few_lines net document (p ∷ ps) (v ∷ vs) failures judged =
    let here : IsVerdictOn net document p v = judged.0 in (
      few_lines net here.right.ends here.fixed.ends p.kind (subject p) here.fixed.classes v failures.0 here.fixed.few here.right.right here.fixed.fixed,
      all_few_lines net document ps vs failures.1 judged.1,
    )

-- the lines of the witnesses can be counted in 32 bits
abbrev HasCount : Network → Verdict → Type 0
HasCount net v = length (witness_lines net v) ≤ 4294967295

counted : (net : Network) (vs : List Verdict) → AllByRecursion (HasFewLines net) vs → AllByRecursion (HasCount net) vs
counted net [] few = tt
counted net (v ∷ vs) few = (omega (arith, few.0), counted net vs few.1)

-- few links may fail
may_fail : (kind : PolicyKind) → HasFewFailures kind → lengths.HasFewFailures kind
may_fail Blocked few = tt
may_fail Through few = tt
may_fail (Reach k) few = omega (arith, few)

all_may_fail : (policies : List Policy) → AllByRecursion (λ policy. HasFewFailures policy.kind) policies → AllByRecursion (λ policy. lengths.HasFewFailures policy.kind) policies
all_may_fail [] few = tt
all_may_fail (p ∷ ps) few = (may_fail p.kind few.0, all_may_fail ps few.1)

-- a text within the limit of certificates is held
held_short : (files : Files) (name text : List ℕ) → files name ≡ Some text → length text ≤ proof_limit → read_refusal proof_limit files name ≡ None
held_short files name text holds short =
    let fits : nat_lt proof_limit (length text) ≡ false = le-ltb proof_limit (length text) short in
    ap (refusal_within proof_limit name) holds ∙ (rw fits refl)

pub verified_is_accepted : VerifiedIsAccepted
verified_is_accepted document certificate before after done verified same holds =
    let policies : List Policy = verified.doc.policies in
    let right : AllZip (IsRight verified.net) policies verified.verdicts = all_right verified.net policies policies verified.verdicts verified.judged in
    let P : Policy → Type 0 = λ policy. HasFewFailures policy.kind in
    let formed = well_formed (bytes_at before document) verified.doc verified.input.files_are.document_is.read in
    let failures : All P policies = formed.few_failures in
    let few : AllByRecursion (HasFewLines verified.net) verified.verdicts =
    all_few_lines verified.net policies policies verified.verdicts (recursion_from_All P policies failures) verified.judged in
    let bytes : bytes_at after certificate ≡ report_text verified.net verified.doc verified.verdicts = ap (λ (o : Option (List ℕ)). unwrap_or o []) holds ∙ verified.text in
    let Q : Policy → Type 0 = λ policy. lengths.HasFewFailures policy.kind in
    let short : length (report_text verified.net verified.doc verified.verdicts) ≤ proof_limit =
    right_reports_are_short verified.net verified.doc verified.verdicts verified.valid formed.few_policies
    (All-from_recursion Q policies (all_may_fail policies (recursion_from_All P policies failures))) right (All-from_recursion (HasFewLines verified.net) verified.verdicts few) in
    record {
      doc = verified.doc;
      net = verified.net;
      input = same_input before after Judging [] document verified.doc verified.net same verified.input;
      held = held_short after certificate done.text holds (subst (λ (l : List ℕ). length l ≤ proof_limit) (sym verified.text) short);
      classes = verified.classes;
      report = record {
        verdicts = verified.verdicts;
        right = right;
        few = All-from_recursion (HasCount verified.net) verified.verdicts (counted verified.net verified.verdicts few);
        is_text = ap lines bytes;
      };
      are_true = verified.are_true;
    }

-- A text that was written as the certificate of a claim is accepted, wherever it is saved.
use Rattle.std.proofs.Common.{◌≡◌, ◌∙◌, ℕ, ◌<◌, ◌≤◌, ◌^◌, Bool, true, false, cond, List, [], ◌∷◌, length, refl, sym, ap, subst, arith}
use Rattle.std.specs.Prelude.{All, Option, Some, Result, Ok, bytes_eq, codes, unwrap_or}
use Rattle.arc_base.specs.declared.certificate.CertKind.TheVariants.{Form}
use Rattle.arc_base.proofs.Items.{All-from}
use Rattle.arc_outside.specs.Files.{Files}
use Rattle.arc_base.specs.TextLines.{lines}
use Rattle.net_model.specs.declared.policies.Document.{Document}
use Rattle.net_model.specs.declared.rows.Network.{Network}
use Rattle.net_build.specs.declared.built.Built.{Built}
use Rattle.net_build.specs.Networks.{IsNetworkOf, IsNetworkWithin}
use Rattle.settings_edit_laws.specs.Laws.{NetworksAreWritable}
use Rattle.edit_list.specs.declared.claims.Claim.{Claim}
use Rattle.edit_list.specs.declared.claims.Claim.TheVariants.{Repaired, NoRepair}
use Rattle.edit_list.specs.declared.edit_kinds.Edit.{Edit}
use Rattle.policy_encode.specs.Formulas.{IsWithin}
use Rattle.proof_log.specs.declared.steps.Log.{Log}
use Rattle.proof_log.specs.Texts.{HasLine}
use Rattle.policy_report.specs.declared.got.Got.{Got}
use Rattle.policy_report.specs.declared.got.Got.TheVariants.{More, Head}
use Rattle.policy_report.specs.declared.got.CertFault.{CertFault}
use Rattle.policy_report.specs.declared.got.CertForm.TheVariants.{Report}
use Rattle.policy_report.specs.declared.stages.Stage.TheVariants as stages
use Rattle.policy_report.specs.declared.stages.Text.TheVariants as texts
use Rattle.policy_report.specs.Certificates.{certificate_text}
use Rattle.policy_report.specs.Edits.{EditsAreToldApart, HasAddresses}
use Rattle.policy_report.specs.Recertifying.{CertificatesAreReadAgain, Told, certificate_answers}
use Rattle.policy_report.specs.Rereading.{answers}
use Rattle.policy_report.specs.Steps.{Step, fails, goes, start}
use Rattle.arc_repair.specs.declared.answer.Answer.{Answer}
use Rattle.arc_repair.specs.declared.answer.Answer.TheVariants.{Done as Claimed}
use Rattle.arc_repair.specs.Answers.{AnswersFew, ClaimsFew, IsRepairAnswer, IsDone, answer_steps}
use Rattle.arc_repair.specs.Claims.{claim_bound}
use Rattle.repair_check.specs.Certifies.{Certifies, CertificatesNameTheirBound, CertifiedClaimsAreTrue, IsCertified, IsCounted, WrittenClaimsAreCertified, text_answers}
use Rattle.file_copies.specs.Changes.{IsEditable}
use Rattle.run_files.specs.declared.limits.Limits.TheVariants.{Editing}
use Rattle.run_files.specs.Limits.{proof_limit}
use Rattle.run_files.specs.Refusals.{bytes_at}
use Rattle.run_inputs.specs.Inputs.{HoldsInput}
use Rattle.repair_commands.specs.Repairs.{IsAnswered}
use Rattle.check_commands.specs.RepairChecks.{begins_repair}
use Rattle.check_commands.specs.Tells.{IsRepairAccepted}
use Rattle.certificate_laws.proofs.LaidOut.{held-short}

-- ---- the first line of a text whose first line is read as that of a repair

by_head : (is_report is_repair : Bool) (rest : List (Result Got CertFault)) (more : Step → List (Result Got CertFault)) →
    let s : Step = cond is_report (goes 1 (stages.Between texts.Report 0) (Head Report)) (cond is_repair (goes 1 stages.Answer More) (fails 1 Form)) in
    s.1 ∷ more s ≡ Ok More ∷ rest → is_repair ≡ true
by_head true is_repair rest more e = absurd (cc)
by_head false true rest more e = refl
by_head false false rest more e = absurd (cc)

begins : (net : Network) (doc : Document) (list : List Edit) (ls : List (List ℕ)) (rest : List (Result Got CertFault)) → answers net doc list start ls ≡ Ok More ∷ rest → begins_repair ls ≡ true
begins net doc list [] rest e = absurd (cc)
begins net doc list (line ∷ ls) rest e =
    by_head (bytes_eq line (codes "arc-report 1")) (bytes_eq line (codes "arc-repair 1")) rest (λ (s : Step). answers net doc list s.0 ls) e

-- a text that is read as a certificate begins as that of a repair
head_read : (net : Network) (doc : Document) (list : List Edit) (ls : List (List ℕ)) (claim : Claim) (told : List Told) →
    answers net doc list start ls ≡ certificate_answers net claim told → begins_repair ls ≡ true
head_read net doc list ls (Repaired price bound flags verdicts) told read = begins net doc list ls _ read
head_read net doc list ls (NoRepair bound) told read = begins net doc list ls _ read

-- the laws of the crates below
pub record Known : Type 0 where
  pub certified : WrittenClaimsAreCertified
  pub bounded : CertificatesNameTheirBound
  pub are_true : CertifiedClaimsAreTrue
  pub read : CertificatesAreReadAgain
  pub apart : EditsAreToldApart
  pub writable : NetworksAreWritable
  pub network : (down : List ℕ) (most : ℕ) (doc : Document) (files : List (List ℕ)) (net : Network) → most ≤ 16384 → IsNetworkWithin down most doc files net → IsNetworkOf doc files net

-- a claim that a repair answered over a network that can be edited
module _ (known : Known) (doc : Document) (built : Built) (files : List (List ℕ)) (list : List Edit) (bound conflicts : ℕ) (answer : Answer) (editable : IsEditable doc built files)
    (network : IsNetworkWithin [] 2048 doc files built.net) (answered : IsAnswered bound conflicts built.net doc list answer) where
  addresses : HasAddresses built.net
  addresses =
      let writable = known.writable doc files built.net (known.network [] 2048 doc files built.net (omega arith) network) in
      All-from (λ session. session.peer < 2 ^ 32) built.net.sessions writable.peers

  few_policies : length doc.policies ≤ 4294967295
  few_policies = omega (arith, editable.well_formed.few_policies)

  module _ (claim : Claim) (log : Log) (same : answer ≡ Claimed claim log) where
    done : IsDone built.net doc list bound claim log.steps
    done = subst (λ (a : Answer). IsRepairAnswer built.net doc list bound conflicts a) same answered.is_answer

    certifies : Certifies built.net doc list claim (certificate_text built.net doc list claim log)
    certifies =
        let few : ClaimsFew claim = subst (λ (a : Answer). AnswersFew a) same answered.few in
        let steps : All HasLine log.steps = subst (λ (a : Answer). All HasLine (answer_steps a)) same answered.lines in
        known.certified built.net doc list claim log done.certificate few steps

    counted : IsCounted built.net doc list (text_answers built.net doc list (certificate_text built.net doc list claim log))
    counted =
        let within : IsWithin built.net doc list (claim_bound claim) = subst (λ (b : ℕ). IsWithin built.net doc list b) (sym done.same_bound) answered.limits.formula in
        known.bounded built.net doc list claim (certificate_text built.net doc list claim log) editable.fit.valid addresses answered.edits few_policies certifies within

    head_is : begins_repair (lines (certificate_text built.net doc list claim log)) ≡ true
    head_is =
        let ls : List (List ℕ) = lines (certificate_text built.net doc list claim log) in
        let read : answers built.net doc list start ls ≡ certificate_answers built.net claim certifies.told =
        known.read built.net doc list claim certifies.told ls editable.fit.valid addresses few_policies
        (known.apart built.net doc list editable.fit.valid addresses answered.edits) certifies.is_text in
        head_read built.net doc list ls claim certifies.told read

    -- is accepted by its text, whatever name it has
    pub accepted : (document name : List ℕ) (after : Files) → HoldsInput Editing [] document after doc built.net → after name ≡ Some (certificate_text built.net doc list claim log)
        → length (certificate_text built.net doc list claim log) ≤ proof_limit → IsRepairAccepted document name after
    accepted document name after input holds short =
        let bytes : bytes_at after name ≡ certificate_text built.net doc list claim log = ap (λ (o : Option (List ℕ)). unwrap_or o []) holds in
        let P : List ℕ → Type 0 = λ t. IsCounted built.net doc list (text_answers built.net doc list t) in
        let Q : List ℕ → Type 0 = λ t. IsCertified built.net doc list t in
        record {
          doc = doc;
          net = built.net;
          list = list;
          judgeable = record {
            holds = record {
              held = held-short proof_limit after name (certificate_text built.net doc list claim log) holds short;
              begins = ap (λ (t : List ℕ). begins_repair (lines t)) bytes ∙ head_is;
            };
            input = input;
            edits = answered.edits;
            classes = answered.limits.classes;
            few = answered.limits.edits;
            counted = subst P (sym bytes) counted;
          };
          certified = subst Q (sym bytes) (claim, certifies);
          are_true = λ other certifies_other. known.are_true built.net doc list (bytes_at after name) other editable.fit.valid editable.countable answered.edits certifies_other;
        }

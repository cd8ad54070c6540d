-- What is accepted as a report begins as one.
use Rattle.std.proofs.Common.{ℕ, List, [], ◌∷◌}
use Rattle.std.specs.Prelude.{Result, Ok, Err}
use Rattle.net_model.specs.declared.policies.Document.{Document}
use Rattle.net_model.specs.declared.policies.Policy.{Policy}
use Rattle.net_model.specs.declared.rows.Network.{Network}
use Rattle.policy_report.specs.declared.got.Got.{Got}
use Rattle.policy_report.specs.declared.got.Got.TheVariants.{More, Head, Verdict, Edit, Step, End}
use Rattle.policy_report.specs.declared.got.CertForm.TheVariants.{Report, Repaired, NoRepair}
use Rattle.policy_report.specs.declared.got.CertFault.{CertFault}
use Rattle.policy_report.specs.Rereading.{answers, IsWholeReport}
use Rattle.policy_report.specs.Steps.{start}
use Rattle.policy_report.proofs.Heads.{BeginsSo, begins_so}
use Rattle.report_check.specs.declared.outcome.Outcome.TheVariants.{Accepted}
use Rattle.report_check.specs.Outcomes.{IsReportOutcome}
use Rattle.report_check.proofs.Rights.{accepted_whole}

-- answers that begin like this and are accepted are those to a report
accepted_so : (net : Network) (policies : List Policy) (told : List (Result Got CertFault)) → BeginsSo told → IsReportOutcome net policies 1 1 told Accepted → IsWholeReport told
accepted_so net policies [] begins h = absurd (cc)
accepted_so net policies (Err fault ∷ rest) begins h = absurd (cc)
accepted_so net policies (Ok (Head Report) ∷ rest) begins h = accepted_whole net policies 2 2 rest h
accepted_so net policies (Ok (Head (Repaired price bound)) ∷ rest) begins h = absurd begins
accepted_so net policies (Ok (Head (NoRepair bound)) ∷ rest) begins h = absurd begins
accepted_so net policies (Ok (Verdict which v) ∷ rest) begins h = absurd begins
accepted_so net policies (Ok (Edit place) ∷ rest) begins h = absurd begins
accepted_so net policies (Ok (Step s) ∷ rest) begins h = absurd begins
accepted_so net policies (Ok End ∷ rest) begins h = absurd begins
accepted_so net policies (Ok More ∷ []) begins h = absurd (cc)
accepted_so net policies (Ok More ∷ (Err fault ∷ rest)) begins h = absurd (cc)
accepted_so net policies (Ok More ∷ (Ok (Head Report) ∷ rest)) begins h = absurd begins
accepted_so net policies (Ok More ∷ (Ok (Head (Repaired price bound)) ∷ rest)) begins h = absurd (cc)
accepted_so net policies (Ok More ∷ (Ok (Head (NoRepair bound)) ∷ rest)) begins h = absurd (cc)
accepted_so net policies (Ok More ∷ (Ok More ∷ rest)) begins h = absurd begins
accepted_so net policies (Ok More ∷ (Ok (Verdict which v) ∷ rest)) begins h = absurd begins
accepted_so net policies (Ok More ∷ (Ok (Edit place) ∷ rest)) begins h = absurd begins
accepted_so net policies (Ok More ∷ (Ok (Step s) ∷ rest)) begins h = absurd begins
accepted_so net policies (Ok More ∷ (Ok End ∷ rest)) begins h = absurd begins

pub accepted_report : (net : Network) (doc : Document) (ls : List (List ℕ)) →
    IsReportOutcome net doc.policies 1 1 (answers net doc [] start ls) Accepted → IsWholeReport (answers net doc [] start ls)
accepted_report net doc ls h = accepted_so net doc.policies (answers net doc [] start ls) (begins_so net doc [] ls) h

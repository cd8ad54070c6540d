use Rattle.std.proofs.Common.{◌≡◌, ◌↔◌, ℕ, List, arith}
use Rattle.std.specs.Prelude.{Some}
use Rattle.arc_outside.specs.Files.{Files}
use Rattle.report_check.specs.LineByLine.{HasComeTo, IsJudgedTo}
use Rattle.report_check.specs.Outcomes.{IsReport}
use Rattle.report_check.specs.declared.outcome.Outcome.{Outcome}
use Rattle.report_check.specs.declared.outcome.Outcome.TheVariants.{Accepted}
use Rattle.run_files.specs.declared.outcome.FileRefusal.{FileRefusal}
use Rattle.run_files.specs.Refusals.{bytes_at, read_refusal}
use Rattle.run_files.proofs.LinesJudged.{text_judged}
use Rattle.check_commands.proofs.report_lines.judge_report.Goals as goal

pub judge_lines-requires-clause-room : goal.judge_lines-requires-clause-room
judge_lines-requires-clause-room g c = omega (arith, c.make-judge.ensures.number, c.requires.limit)

pub returns-clause-told : goal.returns-clause-told
returns-clause-told g c =
    text_judged (λ (ls : List (List ℕ)) (o : Outcome). (text : List ℕ) → HasComeTo c.args.net.now c.args.doc.now text ls c.make-judge.result → IsJudgedTo c.args.net.now c.args.doc.now text o)
    (λ (ls : List (List ℕ)) (r : FileRefusal). ⊥) c.args.limit c.args.certificate.now
    (λ (files : Files) (r : FileRefusal). read_refusal c.args.limit files c.args.certificate.now ≡ Some r)
    (λ (files : Files) (o : Outcome). IsJudgedTo c.args.net.now c.args.doc.now
    (bytes_at files c.args.certificate.now) o × ((o ≡ Accepted) ↔ IsReport c.args.net.now c.args.doc.now (bytes_at files c.args.certificate.now)))
    (λ files r late. late) (λ files r refused. absurd refused)
    (λ files o leads.
    let is = leads (bytes_at files c.args.certificate.now) (c.make-judge.ensures.come c.args.net.now c.args.doc.now (bytes_at files c.args.certificate.now)) in
    (is, c.reports_are_accepted.ensures c.args.net.now c.args.doc.now (bytes_at files c.args.certificate.now) o c.requires.valid c.requires.few is))
    (g.S.Store.held c.args.store.now) c.judge_lines.result c.judge_lines.ensures.told

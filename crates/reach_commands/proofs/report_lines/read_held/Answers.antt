use Rattle.std.proofs.Common.{◌≡◌, ℕ, List}
use Rattle.std.specs.Prelude.{Some}
use Rattle.arc_outside.specs.Files.{Files}
use Rattle.net_model.specs.declared.verdicts.Verdict.{Verdict}
use Rattle.arc_recheck.specs.HeldLines.{HasComeTo}
use Rattle.run_files.specs.declared.outcome.FileRefusal.{FileRefusal}
use Rattle.run_files.specs.Refusals.{bytes_at, read_refusal}
use Rattle.run_files.proofs.LinesJudged.{text_judged}
use Rattle.reach_commands.specs.RecheckRuns.{held_of}
use Rattle.reach_commands.proofs.report_lines.read_held.Goals as goal

pub returns-clause-told : goal.returns-clause-told
returns-clause-told g c =
    text_judged (λ (ls : List (List ℕ)) (held : List Verdict). (text : List ℕ) → HasComeTo c.args.net.now c.args.doc.now text ls c.make-blocks.result →
    held ≡ held_of c.args.net.now c.args.doc.now text)
    (λ (ls : List (List ℕ)) (r : FileRefusal). ⊥) c.args.limit c.args.report.now
    (λ (files : Files) (r : FileRefusal). read_refusal c.args.limit files c.args.report.now ≡ Some r)
    (λ (files : Files) (held : List Verdict). held ≡ held_of c.args.net.now c.args.doc.now (bytes_at files c.args.report.now))
    (λ files r late. late) (λ files r refused. absurd refused)
    (λ files held leads. leads (bytes_at files c.args.report.now) (c.make-blocks.ensures c.args.net.now c.args.doc.now (bytes_at files c.args.report.now)))
    (g.S.Store.held c.args.store.now) c.judge_lines.result c.judge_lines.ensures.told

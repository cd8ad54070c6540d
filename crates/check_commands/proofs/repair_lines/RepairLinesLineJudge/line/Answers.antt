use Rattle.std.proofs.Common.{◌∷◌, ℕ, List, refl}
use Rattle.edit_list.specs.declared.edit_kinds.EditFault.{EditFault}
use Rattle.repair_check.specs.Certifies.{IsCountFault, text_answers}
use Rattle.repair_check.specs.LineByLine.{HasComeTo}
use Rattle.run_inputs.proofs.EditFaults.{limit_refused, stop_cause}
use Rattle.check_commands.proofs.repair_lines.RepairLinesLineJudge.line.Goals as goal

pub returns-in-Ok-Continue-clause-judged : goal.returns-in-Ok-Continue-clause-judged
returns-in-Ok-Continue-clause-judged c rest = record {
  outcomes = λ o leads text come. leads text (rw c.in-Ok-Continue.field-0-is (rw c.in-Ok-Continue.field-0-is at (c.in-Ok-Continue.ensures.judged text rest come)));
  refusals = λ r refuses text come. refuses text (rw c.in-Ok-Continue.field-0-is (rw c.in-Ok-Continue.field-0-is at (c.in-Ok-Continue.ensures.judged text rest come)));
}

pub returns-in-Ok-Break-clause-judged : goal.returns-in-Ok-Break-clause-judged
returns-in-Ok-Break-clause-judged c rest text come = rw c.in-Ok-Break.field-0-is (rw c.in-Ok-Break.field-0-is at (c.in-Ok-Break.ensures.judged text rest come))

pub returns-in-Err-clause-judged : goal.returns-in-Err-clause-judged
returns-in-Err-clause-judged c rest =
    limit_refused {X = ℕ}
    (λ (fault : EditFault). (text : List ℕ) → HasComeTo c.args.self.net.now c.args.self.doc.now c.args.self.list.now text (c.args.line.now ∷ rest) c.args.self.judge →
    IsCountFault c.args.self.net.now c.args.self.doc.now c.args.self.list.now (text_answers c.args.self.net.now c.args.self.doc.now c.args.self.list.now text) fault)
    _ (λ n. ⊥) c.args.self.document.now (λ what count passed text come. (what, count, passed text come, refl)) c.in-Err.fault c.fault_stop.result c.fault_stop.ensures
    (λ text come. c.in-Err.ensures.fault text rest come)

pub returns-in-Err-clause-cause : goal.returns-in-Err-clause-cause
returns-in-Err-clause-cause c = stop_cause ⊥ ⊥ ⊥ c.args.self.document.now c.in-Err.fault c.fault_stop.result c.fault_stop.ensures

use Rattle.std.proofs.Common.{subst}
use Rattle.std.specs.Prelude.{Err}
use Rattle.net_doc.specs.declared.fault.NetFault.{NetFault}
use Rattle.net_doc.specs.Documents.{ReadsDocument}
use Rattle.arc_outside.proofs.Counting.{stood}
use Rattle.run_files.proofs.Stops.{not_failed}
use Rattle.run_inputs.proofs.DocumentCauses.{document_cause}
use Rattle.run_inputs.proofs.inputs.read_document.Goals as goal

pub returns-in-Err-Refused-clause-reads : goal.returns-in-Err-Refused-clause-reads
returns-in-Err-Refused-clause-reads g c =
    let P : NetFault → Type 0 = λ f. ReadsDocument c.as_slice.result.now (Err f) in
    let r = c.in_ok-bytes.ensures.reads in
    record {
      same = r.same;
      cause = document_cause _ _ _ c.as_slice.result.now c.args.name.now c.make.result c.in-Err-Refused.refusal c.named-in-Err-Refused.result
          (subst P c.in-Err-Refused.field-0-is c.in-Err-Refused.ensures.reads) c.named-in-Err-Refused.ensures;
      failed = stood _ _ (r.failed.only (λ is. cc))
          (not_failed (Err c.named-in-Err-Refused.result)
          (document_cause ⊥ ⊥ ⊥ c.as_slice.result.now c.args.name.now c.make.result c.in-Err-Refused.refusal c.named-in-Err-Refused.result
          (subst P c.in-Err-Refused.field-0-is c.in-Err-Refused.ensures.reads) c.named-in-Err-Refused.ensures));
      absences_rise = r.absences_rise;
      taken_rise = r.taken_rise;
    }

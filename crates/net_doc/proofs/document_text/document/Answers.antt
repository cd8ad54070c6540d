use Rattle.std.proofs.Common.{◌≡◌, ◌∙◌, sym, ap, true≢false, Ok, Some, None, option_map}
use Rattle.serde_json.specs.View.{view}
use Rattle.net_doc.specs.Documents.{document_of}
use Rattle.net_doc.specs.Drafts.{document_meant}
use Rattle.net_doc.proofs.Forms.{unread, none_read, read_as, read_within, found_of, well_formed}
use Rattle.net_doc.proofs.document_text.document.Goals as goal

pub returns-in-Err-clause-reads : goal.returns-in-Err-clause-reads
returns-in-Err-clause-reads c =
    none_read c.args.bytes.now (unread c.args.bytes.now (c.in-Err.ensures.err (λ memory. true≢false (sym (c.is_memory.ensures.1 memory) ∙ c.if-is_memory.false))))

pub returns-in-Some-clause-reads : goal.returns-in-Some-clause-reads
returns-in-Some-clause-reads c =
    let found : document_of c.args.bytes.now ≡ Some (document_meant c.in_ok-draft.draft) =
    read_as c.args.bytes.now (view c.in-Ok.value) c.in-Ok.ensures.ok.0 c.in-Ok.ensures.ok.1 ∙ sym c.in_ok-read_draft.ensures
    ∙ ap (option_map document_meant) (found_of c.in_ok-read_draft.field-0 c.in_ok-draft.draft _ c.in_ok-draft.ensures.value) in
    read_within c.args.bytes.now (document_meant c.in_ok-draft.draft) (Some c.in-Some.refusal) found (sym c.in-Some.ensures)

pub returns-clause-reads : goal.returns-clause-reads
returns-clause-reads c =
    let found : document_of c.args.bytes.now ≡ Some (document_meant c.in_ok-draft.draft) =
    read_as c.args.bytes.now (view c.in-Ok.value) c.in-Ok.ensures.ok.0 c.in-Ok.ensures.ok.1 ∙ sym c.in_ok-read_draft.ensures
    ∙ ap (option_map document_meant) (found_of c.in_ok-read_draft.field-0 c.in_ok-draft.draft _ c.in_ok-draft.ensures.value) in
    read_within c.args.bytes.now (document_meant c.in_ok-draft.draft) None found (sym c.in_default.ensures) ∙ ap Ok (sym c.in_ok-meant.ensures)

pub returns-clause-well_formed : goal.returns-clause-well_formed
returns-clause-well_formed c =
    let found : document_of c.args.bytes.now ≡ Some (document_meant c.in_ok-draft.draft) =
    read_as c.args.bytes.now (view c.in-Ok.value) c.in-Ok.ensures.ok.0 c.in-Ok.ensures.ok.1 ∙ sym c.in_ok-read_draft.ensures
    ∙ ap (option_map document_meant) (found_of c.in_ok-read_draft.field-0 c.in_ok-draft.draft _ c.in_ok-draft.ensures.value) in
    well_formed c.args.bytes.now c.in_ok-meant.field-0 (read_within c.args.bytes.now (document_meant c.in_ok-draft.draft) None found (sym c.in_default.ensures) ∙ ap Ok (sym c.in_ok-meant.ensures))

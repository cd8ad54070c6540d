use Rattle.forwarding_notes.proofs.Said.{said_of_edits}
use Rattle.forwarding_notes.proofs.notes.edits_close.Goals as goal

pub returns-clause-told : goal.returns-clause-told
returns-clause-told g c =
    said_of_edits (g.S.Store.held c.args.store.now) c.args.document.now c.args.text.now c.args.doc.now c.in_ok-sources.sources c.in_ok-closes.field-0
    c.in_ok-sources.ensures.told c.in_ok-closes.ensures

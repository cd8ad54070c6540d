use Rattle.forwarding_notes.proofs.Said.{said_of_any}
use Rattle.forwarding_notes.proofs.notes.holds_for_any.Goals as goal

pub returns-clause-told : goal.returns-clause-told
returns-clause-told g c =
    said_of_any (g.S.Store.held c.args.store.now) c.args.document.now c.args.doc c.in_ok-input.input c.runs_everywhere.result c.in_ok-input.ensures.told
    c.runs_everywhere.ensures.exact (c.runs_everywhere.ensures.opened c.in_ok-input.ensures.fit.valid)
    (c.runs_everywhere.ensures.decide c.in_ok-input.ensures.fit.valid)

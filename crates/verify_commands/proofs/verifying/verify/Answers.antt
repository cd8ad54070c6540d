use Rattle.std.proofs.Common.{◌∙◌, ap}
use Rattle.std.proofs.lemmas.Slice.Zip.{AllZip-long}
use Rattle.verify_commands.specs.Verifies.{verdicts_status}
use Rattle.verify_commands.proofs.Judging.{verified}
use Rattle.verify_commands.proofs.verifying.verify.Goals as goal

pub report-requires : goal.report-requires
report-requires g c = AllZip-long _ _ _ c.in_ok-verdicts.ensures

pub returns-clause-answer : goal.returns-clause-answer
returns-clause-answer g c =
    verified (g.S.Store.held c.args.store.now) c.args.document.now c.in_ok-input.input c.in_ok-verdicts.verdicts
    (record { text = c.of.result; writes = c.make.result; status = c.status_of.result })
    c.in_ok-input.ensures.told c.in_ok-input.ensures.fit c.in_ok-count_classes.ensures c.in_ok-verdicts.ensures
    (c.of.ensures ∙ c.in_ok-text.ensures) c.make.ensures (c.status_of.ensures.value ∙ ap verdicts_status c.slice.ensures.items) c.status_of.ensures.small

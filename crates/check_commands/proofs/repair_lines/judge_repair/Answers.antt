use Rattle.std.proofs.Common.{arith}
use Rattle.check_commands.proofs.Given.{counts_stopped, instance, judged_lines}
use Rattle.check_commands.proofs.repair_lines.judge_repair.Goals as goal

pub returns-in-Err-clause-told : goal.returns-in-Err-clause-told
returns-in-Err-clause-told g c =
    counts_stopped c.args.document.now c.args.certificate.now c.args.net.now c.args.doc.now (g.S.Store.held c.args.store.now) c.in-Err.fault c.fault_stop.result
    c.in-Err.ensures.limit c.fault_stop.ensures

pub judge_lines-requires-clause-room : goal.judge_lines-requires-clause-room
judge_lines-requires-clause-room g c = omega (arith, c.make-judge.ensures.number)

pub judge_lines-requires-clause-going : goal.judge_lines-requires-clause-going
judge_lines-requires-clause-going g c = (
  instance c.args.net.now c.args.doc.now c.in-Ok.list c.requires.fit c.requires.few c.in-Ok.ensures.few_classes c.in-Ok.ensures.edits c.in-Ok.ensures.few,
  c.make-judge.ensures.going c.args.net.now c.args.doc.now c.in-Ok.list,
)

pub returns-clause-told : goal.returns-clause-told
returns-clause-told g c =
    judged_lines c.args.document.now c.args.certificate.now c.args.net.now c.args.doc.now c.in-Ok.list
    (instance c.args.net.now c.args.doc.now c.in-Ok.list c.requires.fit c.requires.few c.in-Ok.ensures.few_classes c.in-Ok.ensures.edits c.in-Ok.ensures.few)
    c.in-Ok.ensures.countable c.read_addresses.ensures c.certificates_are_accepted.ensures c.certified_claims_are_true.ensures c.make-judge.result
    (c.make-judge.ensures.come c.args.net.now c.args.doc.now c.in-Ok.list)
    (g.S.Store.held c.args.store.now) c.judge_lines.result c.judge_lines.ensures.told

use Rattle.arc_recheck.proofs.BlocksTaken.{a_report, at_block, at_other, at_refused, no_report}
use Rattle.arc_recheck.proofs.held.HeldBlocks.line.Goals as goal

pub returns-then-not-branch : goal.returns-then-not-branch
returns-then-not-branch c text rest come =
    no_report c.args.net.now c.args.doc.now text c.args.self c.args.line.now rest come c.if-not-self.true c.in_ok-takes_head.field-0 c.in_ok-takes_head.ensures.head c.if-not-branch.true

pub returns-then-not-self : goal.returns-then-not-self
returns-then-not-self c text rest come =
    a_report c.args.net.now c.args.doc.now text c.args.self c.args.line.now rest come c.if-not-self.true c.in_ok-takes_head.field-0
    c.in_ok-takes_head.ensures.head c.takes_head.new.reader c.if-not-branch.false c.in_ok-takes_head.ensures.reader

pub returns-in_ok-add-in-Block : goal.returns-in_ok-add-in-Block
returns-in_ok-add-in-Block c text rest come =
    at_block c.args.net.now c.args.doc.now text c.args.self c.args.line.now rest come c.if-not-self.false c.in_ok-verdict.field-0 c.in_ok-verdict.ensures.told
    c.take_line.new.reader c.in_ok-verdict.ensures.reader
    c.in-Block.verdict c.add.new.held c.in-Block.is c.in_ok-add-in-Block.ensures

pub returns-in-Other : goal.returns-in-Other
returns-in-Other c text rest come =
    at_other c.args.net.now c.args.doc.now text c.args.self c.args.line.now rest come c.if-not-self.false c.in_ok-verdict.field-0 c.in_ok-verdict.ensures.told
    c.take_line.new.reader c.in_ok-verdict.ensures.reader c.in-Other.is

pub returns-in-Refused : goal.returns-in-Refused
returns-in-Refused c text rest come =
    at_refused c.args.net.now c.args.doc.now text c.args.self c.args.line.now rest come c.if-not-self.false c.in_ok-verdict.field-0 c.in_ok-verdict.ensures.told c.in-Refused.is

use Rattle.std.proofs.Common.{sym, ◌∙◌, refl}
use Rattle.ios_lines.proofs.Rows.{orphan-here, is-next}
use Rattle.ios_lines.proofs.reading.next_line.Goals as goal

pub returns-then-is_alone-clause-fault : goal.returns-then-is_alone-clause-fault
returns-then-is_alone-clause-fault c =
    orphan-here c.args.bytes.now c.args.at c.line_end-to.result.0 c.line_end-to.result.1 c.args.state c.kind_within-kind.result c.requires.more
    c.requires.stands c.line_end-to.ensures c.kind_within-kind.ensures
    (sym c.is_alone.ensures ∙ c.if-is_alone.true)

pub returns-clause-next : goal.returns-clause-next
returns-clause-next c =
    is-next c.args.bytes.now c.args.at c.args.state c.after-after.result _ c.kind_within-kind.result c.requires.more c.requires.stands refl c.line_end-to.ensures c.kind_within-kind.ensures
    (sym c.is_alone.ensures ∙ c.if-is_alone.false) c.after-after.ensures.count c.after-after.ensures.block c.after-after.ensures.banner c.after-after.ensures.first
    refl c.is_head.ensures c.is_inert.ensures c.in_ok-words.ensures.spans c.in_ok-words.ensures.texts

use Rattle.std.proofs.Common.{sym, arith}
use Rattle.arc_base.proofs.LinePieces.{line_and_rest, parts_fit, whole_line}
use Rattle.arc_base.proofs.line_words.first_line.Goals as goal

pub returns-in-Some-clause-lines : goal.returns-in-Some-clause-lines
returns-in-Some-clause-lines c = line_and_rest c.args.text.now c.in-Some.parts.0.now c.in-Some.parts.1.now (sym c.in-Some.ensures)

pub returns-in-Some-clause-shorter : goal.returns-in-Some-clause-shorter
returns-in-Some-clause-shorter c = omega (arith, parts_fit c.args.text.now c.in-Some.parts.0.now c.in-Some.parts.1.now (sym c.in-Some.ensures))

pub returns-in-Some-clause-rest : goal.returns-in-Some-clause-rest
returns-in-Some-clause-rest c = omega (arith, parts_fit c.args.text.now c.in-Some.parts.0.now c.in-Some.parts.1.now (sym c.in-Some.ensures))

pub returns-in-None-clause-lines : goal.returns-in-None-clause-lines
returns-in-None-clause-lines c = whole_line c.args.text.now c.split_at.result.0.now c.split_at.result.1.now c.requires (sym c.in-None.ensures) c.split_at.ensures.front c.split_at.ensures.back

use Rattle.std.proofs.Common.{sym, ◌∙◌, arith}
use Rattle.std.proofs.lemmas.Bool.{false≢true}
use Rattle.witness_check.proofs.cases.Case.is_right_cut.Goals as goal

pub returns-then-is_cut : goal.returns-then-is_cut
returns-then-is_cut c = (
  λ t. record {
    apart = λ same. false≢true (sym c.if-is_local.false ∙ c.is_local.ensures.1 same);
    clear = c.is_clear.ensures.0 t;
    flags = (c.parts_ends.ensures.0 c.if-not-parts_ends.false).flags;
    source = (c.parts_ends.ensures.0 c.if-not-parts_ends.false).source;
    target = (c.parts_ends.ensures.0 c.if-not-parts_ends.false).target;
    rising = c.are_rising.ensures.0 c.if-not-are_rising.false;
    cut = c.is_cut.ensures.0 c.if-is_cut.true;
    few = omega (arith, c.if-links-from.false, c.from.ensures);
  },
  λ right. c.is_clear.ensures.1 right.clear,
)

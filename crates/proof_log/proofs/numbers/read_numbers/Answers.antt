use Rattle.std.proofs.Common.{◌∙◌, ap, sym}
use Rattle.proof_log.specs.Reading.{sign}
use Rattle.proof_log.proofs.numbers.read_numbers.Goals as goal

pub returns-clause-sign : goal.returns-clause-sign
returns-clause-sign c =
    c.after_sign-sign.ensures.sign c.in-Some.ensures.first.word ∙ ap sign (sym c.in-Some.ensures.first.words_are)

use Rattle.arc_base.specs.Words.{words}
use Rattle.proof_log.specs.Reading.{number_words}
use Rattle.proof_log.proofs.Within.{same_within}
use Rattle.proof_log.proofs.reading.line_numbers.Goals as goal

pub returns-clause-within : goal.returns-clause-within
returns-clause-within c =
    same_within c.read_numbers.new.all.items (number_words (words c.without_return-text.result.now)) c.in_ok-sign.ensures.all

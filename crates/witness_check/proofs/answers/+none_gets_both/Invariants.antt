use Rattle.witness_check.specs.Boxes.{open_bits}
use Rattle.witness_check.proofs.answers.+none_gets_both.Given as goal

abbrev pub decreases-none_gets_both : goal.decreases-none_gets_both
decreases-none_gets_both l = open_bits l.class

use Rattle.witness_check.specs.Boxes.{open_bits}
use Rattle.witness_check.proofs.answers.+none_gets.Given as goal

abbrev pub decreases-none_gets : goal.decreases-none_gets
decreases-none_gets l = open_bits l.class

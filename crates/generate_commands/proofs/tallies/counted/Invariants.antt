use Rattle.std.proofs.Common.{◌≡◌, take}
use Rattle.generate_commands.specs.Tallies.{tally_of}
use Rattle.generate_commands.proofs.tallies.counted.Given as goal

abbrev pub invariant-loop-verdict : goal.invariant-loop-verdict
invariant-loop-verdict l = l.tally ≡ tally_of (take l.verdict-index l.verdicts)

use Rattle.std.proofs.Common.{take, map}
use Rattle.ios_config.specs.Seen.{stand_seen}
use Rattle.ios_config.specs.Twice.{StandOnce}
use Rattle.ios_config.proofs.StandLists.{Stands}
use Rattle.ios_config.proofs.twice.first_duplicate.Given as goal

abbrev pub invariant-loop-c : goal.invariant-loop-c
invariant-loop-c l = record {
  stands : Stands (map stand_seen l.stands.keys) (take l.c-index l.commands);
  once : StandOnce (take l.c-index l.commands);
}

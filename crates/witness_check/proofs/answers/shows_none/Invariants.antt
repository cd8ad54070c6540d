use Rattle.std.proofs.Common.{◌≡◌, drop}
use Rattle.net_model.specs.declared.lists.Packet.{Packet}
use Rattle.net_model.specs.Lists.{permits}
use Rattle.net_model.specs.Packets.{IsOfClass}
use Rattle.witness_check.proofs.answers.shows_none.Given as goal

abbrev pub invariant-loop-entry : goal.invariant-loop-entry
invariant-loop-entry l = (p : Packet) → IsOfClass l.class p → permits l.entries p ≡ l.answer → permits (drop l.entry-index l.entries) p ≡ l.answer

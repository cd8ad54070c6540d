use Rattle.std.proofs.Common.{◌≡◌, ℕ, ◌<◌, ◌≤◌, drop}
use Rattle.net_model.specs.Lists.{permits}
use Rattle.net_checks.specs.SessionPackets.{at_service}
use Rattle.net_checks.proofs.session_packets.permits_until.Given as goal

abbrev pub invariant-loop-entry : goal.invariant-loop-entry
invariant-loop-entry l = record {
  later : l.packet.service < l.next;
  end : l.next ≤ l.end;
  rest : (service : ℕ) → l.packet.service ≤ service → service < l.next →
      permits l.list.entries (at_service l.packet service) ≡ permits (drop l.entry-index l.list.entries) (at_service l.packet service);
}

use Rattle.std.proofs.Common.{◌≡◌, ◌++◌, map, take}
use Rattle.net_model.specs.declared.lists.PacketEntry.{PacketEntry}
use Rattle.std.specs.List.{flat_map}
use Rattle.traffic_classes.specs.Classes.{marks_of}
use Rattle.traffic_classes.proofs.gathering.Gathered.add_entries.Given as goal

abbrev pub invariant-loop-entry : goal.invariant-loop-entry
invariant-loop-entry l = record {
  sources : l.self.sources.items ≡ l.initial.self.sources.items ++ map (λ (e : PacketEntry). e.from) (take l.entry-index l.entries);
  destinations : l.self.destinations.items ≡ l.initial.self.destinations.items ++ map (λ (e : PacketEntry). e.to) (take l.entry-index l.entries);
  services : l.self.services.items ≡ l.initial.self.services.items ++ flat_map (λ (e : PacketEntry). marks_of e.service) (take l.entry-index l.entries);
}

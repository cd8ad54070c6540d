use Rattle.std.proofs.Common.{◌≡◌, map, take}
use Rattle.std.specs.List.{flat_map}
use Rattle.net_model.specs.declared.lists.PacketEntry.{PacketEntry}
use Rattle.net_model.specs.declared.lists.PacketList.{PacketList}
use Rattle.traffic_classes.specs.Classes.{marks_of}
use Rattle.traffic_classes.proofs.gathering.Gathered.of.Given as goal

abbrev pub invariant-loop-list : goal.invariant-loop-list
invariant-loop-list l = record {
  sources : l.marks.sources.items ≡ flat_map (λ (x : PacketList). map (λ (e : PacketEntry). e.from) x.entries) (take l.list-index l.list-items);
  destinations : l.marks.destinations.items ≡ flat_map (λ (x : PacketList). map (λ (e : PacketEntry). e.to) x.entries) (take l.list-index l.list-items);
  services : l.marks.services.items ≡ flat_map (λ (x : PacketList). flat_map (λ (e : PacketEntry). marks_of e.service) x.entries) (take l.list-index l.list-items);
}

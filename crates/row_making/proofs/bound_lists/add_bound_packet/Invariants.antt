use Rattle.net_rules.specs.Lists.{BindsPacketList}
use Rattle.row_making.proofs.ListsNames.{AddsTo}
use Rattle.row_making.proofs.bound_lists.add_bound_packet.Given as goal

abbrev pub invariant-loop-face : goal.invariant-loop-face
invariant-loop-face l = AddsTo BindsPacketList l.face-items l.face-index l.fn.names.keys l.names.keys

use Rattle.std.proofs.Common.{List, subst}
use Rattle.std.specs.Prelude.{map}
use Rattle.std.specs.List.{AllZip}
use Rattle.net_rules.specs.Lists.{packet_list_key}
use Rattle.net_rules.specs.Rows.{IsFaceRow}
use Rattle.net_rules.specs.Sites.{FullName, sites}
use Rattle.net_build.proofs.assembly.rows.Goals as goal

pub faces_of-requires-clause-lists : goal.faces_of-requires-clause-lists
faces_of-requires-clause-lists c = c.in_ok-packet_lists.ensures

pub returns : goal.returns
returns c = λ doc ends zip. record {
  protocol = c.protocol_of-protocol.ensures;
  routers = c.in_ok-routers.ensures;
  packet_lists = c.in_ok-packet_lists.ensures;
  faces = subst (λ (names : List FullName). AllZip (IsFaceRow c.protocol_of-protocol.result names (map packet_list_key c.in_ok-packet_lists.packet_lists))
      (sites c.args.configs.now) c.in_ok-faces.faces) ends c.in_ok-faces.ensures;
  links = zip;
  route_lists = c.in_ok-route_lists.ensures;
}

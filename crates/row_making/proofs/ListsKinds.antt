-- The rows of packet lists and of route lists.
use Rattle.std.proofs.Common.{◌≡◌, Some, Option, refl, sym, ◌∙◌, ap}
use Rattle.std.specs.Prelude.{option_map}
use Rattle.net_model.specs.declared.lists.PacketList.{PacketList}
use Rattle.net_model.specs.declared.lists.RouteList.{RouteList}
use Rattle.ios_config.specs.declared.settings.ListText.{ListText}
use Rattle.net_rules.specs.Lists.{IsBoundPacketList, IsBoundRouteList, IsPacketListRow, IsRouteListRow, packet_list_named}
use Rattle.net_rules.specs.Lists.{route_list_named, if_defined, packet_row, route_row, packet_row_at, route_row_at}
use Rattle.row_making.proofs.ListsRows.{RowsOfKind, option_parts}

-- a row has what it was made with
pub made_with : {X Y : Type 0} (field : X → Y) (make : ListText → X) (o : Option ListText) (row : X) (y : Y) → ((l : ListText) → field (make l) ≡ y) → option_map make o ≡ Some row → field row ≡ y
made_with field make o row y same is = let made = option_parts make o row is in sym (ap field made.2) ∙ same made.0

abbrev pub packets : RowsOfKind
packets = record {
  Row = PacketList;
  router = λ row. row.router.0;
  name = λ row. row.name;
  row_at = packet_row_at;
  IsBound = IsBoundPacketList;
  IsRow = IsPacketListRow;
  names_it = λ router config name row is. (
    made_with (λ (l : PacketList). l.router.0) (packet_row router name) (if_defined (packet_list_named config name)) row router (λ l. refl) is,
    made_with (λ (l : PacketList). l.name) (packet_row router name) (if_defined (packet_list_named config name)) row name (λ l. refl) is,
  );
  to_row = λ configs config row at bound is. record { config = config; at_router = at; bound = bound; defined = is };
  from_row = λ configs row is. (is.config, is.at_router, is.bound, is.defined);
}

abbrev pub routes : RowsOfKind
routes = record {
  Row = RouteList;
  router = λ row. row.router.0;
  name = λ row. row.name;
  row_at = route_row_at;
  IsBound = IsBoundRouteList;
  IsRow = IsRouteListRow;
  names_it = λ router config name row is. (
    made_with (λ (l : RouteList). l.router.0) (route_row router name) (if_defined (route_list_named config name)) row router (λ l. refl) is,
    made_with (λ (l : RouteList). l.name) (route_row router name) (if_defined (route_list_named config name)) row name (λ l. refl) is,
  );
  to_row = λ configs config row at bound is. record { config = config; at_router = at; bound = bound; defined = is };
  from_row = λ configs row is. (is.config, is.at_router, is.bound, is.defined);
}

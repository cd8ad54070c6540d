-- What new lists answer, and which edits turn what.
use Rattle.network_edit_laws.specs.Turned.{NewClassesAreDenied, OtherPacketsArePermitted, NewPrefixesAreDenied, OtherPrefixesArePermitted, SessionsTurnByTheirEdit, ListsGetTheirEntries}
use Rattle.network_edit_laws.proofs.Changed.{route_list_in, in_route_list, route_new_in, in_route_new, packet_list_in, in_packet_list, packet_new_in, in_packet_new, session_in, in_session}
use Rattle.network_edit_laws.proofs.NewEntries.{new_permits, new_denies, new_takes, new_refuses}

pub new_classes_are_denied : NewClassesAreDenied
new_classes_are_denied classes class there p of_p = new_denies p classes class there of_p

pub other_packets_are_permitted : OtherPacketsArePermitted
other_packets_are_permitted classes whole p of_whole none = new_permits p whole of_whole classes none

pub new_prefixes_are_denied : NewPrefixesAreDenied
new_prefixes_are_denied prefixes prefix there = new_refuses prefix prefixes there

pub other_prefixes_are_permitted : OtherPrefixesArePermitted
other_prefixes_are_permitted prefixes prefix none = new_takes prefix prefixes none

pub sessions_turn : SessionsTurnByTheirEdit
sessions_turn chosen face = (session_in chosen face, in_session chosen face)

pub lists_get_entries : ListsGetTheirEntries
lists_get_entries chosen = record {
  route_lists = λ list prefix. (route_list_in chosen list prefix, in_route_list chosen list prefix);
  new_routes = λ face prefix. (route_new_in chosen face prefix, in_route_new chosen face prefix);
  packet_lists = λ list class. (packet_list_in chosen list class, in_packet_list chosen list class);
  new_packets = λ face class. (packet_new_in chosen face class, in_packet_new chosen face class);
}

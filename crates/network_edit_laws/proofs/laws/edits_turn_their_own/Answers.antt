use Rattle.network_edit_laws.proofs.Turns.{new_classes_are_denied, other_packets_are_permitted, new_prefixes_are_denied, other_prefixes_are_permitted, sessions_turn, lists_get_entries}
use Rattle.network_edit_laws.proofs.laws.edits_turn_their_own.Goals as goal

pub returns-clause-new_classes : goal.returns-clause-new_classes
returns-clause-new_classes c = new_classes_are_denied

pub returns-clause-other_packets : goal.returns-clause-other_packets
returns-clause-other_packets c = other_packets_are_permitted

pub returns-clause-new_prefixes : goal.returns-clause-new_prefixes
returns-clause-new_prefixes c = new_prefixes_are_denied

pub returns-clause-other_prefixes : goal.returns-clause-other_prefixes
returns-clause-other_prefixes c = other_prefixes_are_permitted

pub returns-clause-sessions : goal.returns-clause-sessions
returns-clause-sessions c = sessions_turn

pub returns-clause-entries : goal.returns-clause-entries
returns-clause-entries c = lists_get_entries

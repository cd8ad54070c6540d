use Rattle.network_edit_laws.proofs.Turning.{turning_classes, staying_packets, turning_prefixes, staying_prefixes}
use Rattle.network_edit_laws.proofs.kept.entries_turn_answers.Goals as goal

pub returns-clause-classes : goal.returns-clause-classes
returns-clause-classes c = turning_classes

pub returns-clause-other_packets : goal.returns-clause-other_packets
returns-clause-other_packets c = staying_packets

pub returns-clause-prefixes : goal.returns-clause-prefixes
returns-clause-prefixes c = turning_prefixes

pub returns-clause-other_prefixes : goal.returns-clause-other_prefixes
returns-clause-other_prefixes c = staying_prefixes

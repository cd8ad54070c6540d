use Rattle.network_edit_laws.proofs.Listed.{packet_edits_are_writable, chosen_classes_are_writable}
use Rattle.network_edit_laws.proofs.kept.packet_edits_are_writable.Goals as goal

pub returns-clause-listed : goal.returns-clause-listed
returns-clause-listed c = packet_edits_are_writable

pub returns-clause-chosen : goal.returns-clause-chosen
returns-clause-chosen c = chosen_classes_are_writable

use Rattle.settings_edit_laws.proofs.Writable.{network_written}
use Rattle.settings_edit_laws.proofs.laws.networks_are_writable.Goals as goal

pub returns : goal.returns
returns c = network_written

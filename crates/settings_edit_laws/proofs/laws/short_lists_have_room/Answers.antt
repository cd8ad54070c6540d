use Rattle.settings_edit_laws.proofs.Room.{room_within}
use Rattle.settings_edit_laws.proofs.laws.short_lists_have_room.Goals as goal

pub returns : goal.returns
returns c = room_within

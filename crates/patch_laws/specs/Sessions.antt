-- Edits that turn sessions alone.
use Rattle.std.specs.Prelude.{◌≡◌, List, Contains}
use Rattle.arc_base.specs.declared.place.Face.{Face}
use Rattle.edit_list.specs.declared.edit_kinds.Edit.{Edit}
use Rattle.edit_list.specs.declared.edit_kinds.Edit.TheVariants.{Session}

-- each of the edits turns a session
abbrev pub AreSessions : List Edit → Type 0
AreSessions chosen = (edit : Edit) → Contains chosen edit → (face : Face) × (edit ≡ Session face)

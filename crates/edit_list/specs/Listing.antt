-- What the lister of edits keeps.
use Rattle.std.specs.Prelude.{◌≡◌, ◌<◌, Bool, is_some, Some, List, length, slice_get}
use Rattle.arc_base.specs.declared.place.Face.{Face}
use Rattle.net_model.specs.declared.rows.Network.{Network}
use Rattle.net_model.specs.Routing.{session_at}

-- the flags say, for each interface within them, whether it has a session
abbrev pub KnowsSessions : Network → List Bool → Type 0
KnowsSessions net flags =
    (face : Face) → face.0 < length flags →
    slice_get flags face.0 ≡ Some (is_some (session_at net face))

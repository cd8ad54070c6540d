use Rattle.std.proofs.Common.{◌++◌, List, take}
use Rattle.std.specs.Prelude.{map}
use Rattle.std.specs.List.{AllZip}
use Rattle.ios_config.specs.declared.settings.FaceText.{FaceText}
use Rattle.net_rules.specs.Names.{names_at}
use Rattle.net_rules.specs.Sites.{Site}
use Rattle.net_rules.specs.Lists.{keys_at}
use Rattle.net_rules.specs.Rows.{IsFaceRow}
use Rattle.row_making.proofs.faces.add_face_rows.Given as goal

abbrev pub invariant-loop-face : goal.invariant-loop-face
invariant-loop-face l =
    (before : List Site) → AllZip (IsFaceRow l.fn.around.protocol (names_at l.fn.around.ends.now.keys) (keys_at l.fn.around.lists.now.keys)) before l.fn.rows.items →
    AllZip (IsFaceRow l.fn.around.protocol (names_at l.fn.around.ends.now.keys) (keys_at l.fn.around.lists.now.keys))
    (before ++ map (λ (face : FaceText). record { router = l.fn.router; config = l.fn.config; face = face }) (take l.face-index l.face-items)) l.rows.items

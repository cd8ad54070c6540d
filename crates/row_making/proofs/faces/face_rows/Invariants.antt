use Rattle.std.proofs.Common.{take}
use Rattle.std.specs.List.{AllZip}
use Rattle.net_rules.specs.Names.{names_at}
use Rattle.net_rules.specs.Sites.{sites}
use Rattle.net_rules.specs.Lists.{keys_at}
use Rattle.net_rules.specs.Rows.{IsFaceRow}
use Rattle.row_making.proofs.faces.face_rows.Given as goal

abbrev pub invariant-loop-router : goal.invariant-loop-router
invariant-loop-router l = AllZip (IsFaceRow l.fn.around.protocol (names_at l.fn.around.ends.now.keys) (keys_at l.fn.around.lists.now.keys)) (sites (take l.router l.fn.configs)) l.rows.items

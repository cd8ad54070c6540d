use Rattle.std.proofs.Common.{ℕ, List, subst}
use Rattle.std.specs.Prelude.{IfOk}
use Rattle.std.specs.List.{AllZip}
use Rattle.net_rules.specs.Names.{names_at}
use Rattle.net_rules.specs.Rows.{IsFaceRow}
use Rattle.net_rules.specs.Sites.{sites}
use Rattle.net_rules.proofs.ListKeys.{packet_keys_differ}
use Rattle.net_build.proofs.assembly.faces_of.Goals as goal

pub index_packet_lists-requires : goal.index_packet_lists-requires
index_packet_lists-requires c = packet_keys_differ c.args.configs.now c.args.lists.now c.requires.lists

pub face_rows-requires-clause-few : goal.face_rows-requires-clause-few
face_rows-requires-clause-few c = c.in_ok-lists.ensures.few

pub returns : goal.returns
returns c =
    subst (λ (keys : List (ℕ × List ℕ)). IfOk c.face_rows.result (AllZip (IsFaceRow c.args.protocol (names_at c.args.ends.now.keys) keys) (sites c.args.configs.now)))
    c.in_ok-lists.ensures.keys c.face_rows.ensures

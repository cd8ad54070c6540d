use Rattle.std.proofs.Common.{◌≡◌, bytes_eq, map, string_bytes}
use Rattle.std.specs.List.{list_any, list_all}
use Rattle.serde_json.specs.View.{members_view}
use Rattle.net_doc.specs.Members.{are_among}
use Rattle.net_doc.proofs.members.are_among.Given as goal

abbrev pub invariant-loop-key : goal.invariant-loop-key
invariant-loop-key l =
    are_among (map (λ name. name.now) l.names) (members_view l.members.entries)
    ≡ list_all (λ key. list_any (λ known. bytes_eq known (string_bytes key)) (map (λ name. name.now) l.names)) l.key-iterator

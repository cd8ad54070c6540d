use Rattle.std.proofs.Common.{nat_eq}
use Rattle.std.specs.Prelude.{Contains}
use Rattle.std.proofs.lemmas.Bool.Decides.{Decides-eqb}
use Rattle.net_rules.proofs.PlainKeys.{has_key, same_parts, same_parts-Decides}
use Rattle.net_checks.proofs.peers.is_listed.Goals as goal

pub returns-then-contains : goal.returns-then-contains
returns-then-contains c =
    let in_ends : Contains c.args.ends.now.keys (c.args.router, c.args.peer) =
    (has_key same_parts same_parts-Decides c.args.ends.now.keys (c.args.router, c.args.peer) c.contains.result c.contains.ensures).0 c.if-contains.true in
    let more = has_key nat_eq (λ x y. Decides-eqb x y) c.args.remotes.now.keys c.args.peer c.contains-then-contains.result c.contains-then-contains.ensures in
    (λ t. (in_ends, more.0 t), λ listed. more.1 listed.1)

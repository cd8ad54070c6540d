use Rattle.std.proofs.Common.{◌≡◌, Some, nat_eq, ap}
use Rattle.std.proofs.lemmas.Bool.Decides.{Decides-eqb}
use Rattle.net_checks.proofs.PeersEnds.{gives_remote, not_remote, no_remote, one_remote}
use Rattle.net_rules.proofs.PlainKeys.{keys_added}
use Rattle.net_checks.proofs.peers.add_remote.Goals as goal

pub returns-in_ok-insert_full : goal.returns-in_ok-insert_full
returns-in_ok-insert_full c = λ peer.
    let is : gives_remote c.args.command.now ≡ Some c.in-RemoteAs.peer = ap gives_remote c.in-RemoteAs.is in
    one_remote c.args.command.now c.args.peers.now.keys c.insert_full.new.self.keys c.in-RemoteAs.peer peer is
    (keys_added nat_eq (λ x y. Decides-eqb x y) c.args.peers.now.keys c.insert_full.new.self.keys c.in-RemoteAs.peer peer c.in_ok-insert_full.ensures.keys)

pub returns-in_default : goal.returns-in_default
returns-in_default c = λ peer.
    no_remote c.args.command.now c.args.peers.now.keys (not_remote c.args.command.now (λ other asn. c.in_default.not-RemoteAs other asn)) peer

use Rattle.net_model.proofs.Readings.{place_of_item}
use Rattle.policy_encode.proofs.questions.host_place.Goals as goal

pub unreachable-requires : goal.unreachable-requires
unreachable-requires c =
    let at = place_of_item c.args.net.now.faces c.requires.0 c.requires.1.is_face in
    c.in-None.ensures.none at.0 (record { face = c.requires.0; at_place = at.1; lies = c.requires.1.lies })

use Rattle.std.proofs.Common.{refl}
use Rattle.class_graph.proofs.same_routes.is_told.Goals as goal

pub returns-then-target-2 : goal.returns-then-target-2
returns-then-target-2 c =
    let face = c.requires.face in
    (λ _. (face.0, c.args.target.now, face.1, face.2, record { host = c.requires.host; told = c.if-target.true; up = c.if-target-2.true }), λ _. refl)

use Rattle.std.proofs.Common.{◌≡◌, ◌++◌, take}
use Rattle.std.specs.Prelude.{map}
use Rattle.net_rules.specs.Sites.{host_name}
use Rattle.net_rules.specs.Names.{names_at}
use Rattle.net_rules.proofs.names.add_file.Given as goal

abbrev pub invariant-loop-face : goal.invariant-loop-face
invariant-loop-face l = names_at l.names.keys ≡ names_at l.fn.names.keys ++ map (λ face. (host_name l.fn.config, face.name)) (take l.face-index l.face-items)

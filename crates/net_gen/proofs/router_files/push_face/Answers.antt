use Rattle.std.proofs.Common.{◌≡◌, ◌++◌, List, ℕ, refl, ◌∙◌, ap}
use Rattle.std.specs.Prelude.{codes}
use Rattle.ios_words.specs.declared.commands.Command.TheVariants.{Interface}
use Rattle.ios_words.specs.declared.kinds.BlockKind.TheVariants as blocks
use Rattle.ios_words.specs.Plain.{plain_line}
use Rattle.net_gen.specs.RouterFiles.{face_line, address_line, ended}
use Rattle.net_gen.proofs.Counted.{four_parts}
use Rattle.net_gen.proofs.router_files.push_face.Goals as goal

pub returns : goal.returns
returns c =
    let start : List ℕ = c.args.text.now.items in
    let one : List ℕ = c.push_command.new.text.items in
    let first : one ≡ start ++ ended (face_line c.args.number) =
    c.in_ok-push_command.ensures ∙ ap (λ (name : List ℕ). start ++ ended (plain_line blocks.Top (Interface name))) c.in_ok-name.ensures in
    four_parts start one c.push_command-2.new.text.items c.extend_from_slice.new.self.items start (ended (face_line c.args.number)) (ended (address_line c.args.addr c.args.len)) (codes "!\n")
    refl first c.in_ok-push_command-2.ensures c.in_ok-extend_from_slice.ensures.items

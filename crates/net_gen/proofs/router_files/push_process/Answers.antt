use Rattle.std.proofs.Common.{◌≡◌, ◌++◌, List, ℕ, refl, ◌∙◌, ap}
use Rattle.std.specs.Prelude.{codes}
use Rattle.arc_base.specs.declared.prefix.Prefix.{Prefix}
use Rattle.ios_words.specs.declared.commands.Command.TheVariants.{Covers}
use Rattle.ios_words.specs.declared.kinds.BlockKind.TheVariants as blocks
use Rattle.ios_words.specs.Plain.{plain_line}
use Rattle.net_gen.specs.RouterFiles.{covers_line, process_line, ended}
use Rattle.net_gen.proofs.Counted.{four_parts}
use Rattle.net_gen.proofs.router_files.push_process.Goals as goal

pub returns : goal.returns
returns c =
    let start : List ℕ = c.args.text.now.items in
    let one : List ℕ = c.push_command.new.text.items in
    let two : List ℕ = c.push_command-2.new.text.items in
    let second : two ≡ one ++ ended covers_line = c.in_ok-push_command-2.ensures ∙ ap (λ (p : Prefix). one ++ ended (plain_line blocks.Ospf (Covers p 0))) c.whole.ensures in
    four_parts start one two c.extend_from_slice.new.self.items start (ended process_line) (ended covers_line)
    (codes "!\nend\n") refl c.in_ok-push_command.ensures second c.in_ok-extend_from_slice.ensures.items

use Rattle.std.proofs.Common.{◌≡◌, ◌++◌, List, ℕ, ◌∙◌, ap, append_assoc}
use Rattle.std.specs.Prelude.{codes}
use Rattle.ios_words.specs.declared.commands.Command.TheVariants.{Hostname}
use Rattle.ios_words.specs.declared.kinds.BlockKind.TheVariants as blocks
use Rattle.ios_words.specs.Plain.{plain_line}
use Rattle.net_gen.specs.RouterFiles.{name_line, ended}
use Rattle.net_gen.proofs.router_files.push_name.Goals as goal

pub returns : goal.returns
returns c =
    let start : List ℕ = c.args.text.now.items in
    let first : c.push_command.new.text.items ≡ start ++ ended (name_line c.args.router) =
    c.in_ok-push_command.ensures ∙ ap (λ (name : List ℕ). start ++ ended (plain_line blocks.Top (Hostname name))) c.in_ok-name.ensures in
    c.in_ok-extend_from_slice.ensures.items ∙ ap (λ (t : List ℕ). t ++ codes "!\n") first ∙ append_assoc start (ended (name_line c.args.router)) (codes "!\n")

use Rattle.std.proofs.Common.{◌≡◌, ℕ, List, [], ◌∷◌, ◌++◌, sym, subst, codes}
use Rattle.std.specs.Prelude.{OnOk}
use Rattle.ios_lines.specs.Written.{spaced}
use Rattle.ios_words.specs.declared.commands.Command.{Command}
use Rattle.ios_words.specs.declared.kinds.BlockKind.TheVariants as blocks
use Rattle.ios_words.specs.Plain.{plain_line}
use Rattle.ios_words.specs.Printed.{unless}
use Rattle.ios_words.proofs.printing.print_ospf.Goals as goal

pub returns-in-Passive : goal.returns-in-Passive
returns-in-Passive c =
    let Adds : List ℕ → Type 0 = λ line. OnOk c.push_unless.result (c.push_unless.new.text.items ≡ c.args.text.now.items ++ line) in
    subst (λ (k : Command). Adds (plain_line blocks.Ospf k)) (sym c.in-Passive.is)
    (subst (λ (name : List ℕ). Adds (spaced (unless c.in-Passive.passive (codes "passive-interface" ∷ name ∷ [])))) c.interface_word.ensures c.push_unless.ensures)

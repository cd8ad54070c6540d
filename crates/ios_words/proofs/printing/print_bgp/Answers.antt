use Rattle.std.proofs.Common.{◌≡◌, ℕ, List, [], ◌∷◌, ◌++◌, sym, subst, codes}
use Rattle.std.specs.Prelude.{OnOk}
use Rattle.arc_base.specs.PrefixText.{address_text}
use Rattle.ios_lines.specs.Written.{spaced}
use Rattle.ios_words.specs.declared.commands.Command.{Command}
use Rattle.ios_words.specs.declared.kinds.BlockKind.TheVariants as blocks
use Rattle.ios_words.specs.Plain.{plain_line}
use Rattle.ios_words.proofs.printing.print_bgp.Goals as goal

pub returns-in-RemoteAs : goal.returns-in-RemoteAs
returns-in-RemoteAs c =
    subst (λ (k : Command). OnOk c.push_words.result (c.push_words.new.text.items ≡ c.args.text.now.items ++ plain_line blocks.Bgp k)) (sym c.in-RemoteAs.is) c.push_words.ensures

pub returns-in-NeighborList : goal.returns-in-NeighborList
returns-in-NeighborList c =
    let Adds : List (List ℕ) → Type 0 = λ ws. OnOk c.push_words-in-NeighborList.result (c.push_words-in-NeighborList.new.text.items ≡ c.args.text.now.items ++ spaced ws) in
    let added = subst (λ (name : List ℕ). Adds (codes "neighbor" ∷ address_text c.in-NeighborList.peer ∷ codes "prefix-list" ∷ name ∷ codes "in" ∷ [])) c.bytes.ensures
    c.push_words-in-NeighborList.ensures in
    subst (λ (k : Command). OnOk c.push_words-in-NeighborList.result (c.push_words-in-NeighborList.new.text.items ≡ c.args.text.now.items ++ plain_line blocks.Bgp k)) (sym c.in-NeighborList.is) added

pub returns-in-RouterId : goal.returns-in-RouterId
returns-in-RouterId c =
    subst (λ (k : Command). OnOk c.push_words-in-RouterId.result (c.push_words-in-RouterId.new.text.items ≡ c.args.text.now.items ++ plain_line blocks.Bgp k)) (sym c.in-RouterId.is)
    c.push_words-in-RouterId.ensures

use Rattle.std.proofs.Common.{◌≡◌, ℕ, Bool, true, false, List, [], ◌∷◌, ◌++◌, Option, Some, None, refl, ap, ◌∙◌, codes}
use Rattle.std.specs.Prelude.{unwrap_or}
use Rattle.std.proofs.lemmas.Result.{on_ok_weaker}
use Rattle.arc_base.specs.PrefixText.{number_of}
use Rattle.ios_lines.specs.Written.{spaced}
use Rattle.ios_words.specs.declared.commands.PacketText.{PacketText}
use Rattle.ios_words.specs.Numbers.{list_kind}
use Rattle.ios_words.specs.Printed.{entry_words}
use Rattle.ios_words.proofs.Pushes.{top-and}
use Rattle.ios_words.proofs.printing.print_list_line.Goals as goal

flat-kind : (o : Option Bool) (e : PacketText) → entry_words (Some (unwrap_or o false)) e ≡ entry_words o e
flat-kind None e = refl
flat-kind (Some true) e = refl
flat-kind (Some false) e = refl

pub returns : goal.returns
returns c =
    let start : List ℕ = c.args.text.now.items in
    let number : List ℕ = c.args.number.now in
    let e : PacketText = c.args.entry.now in
    let first : c.push_top.new.text.items ≡ start ++ (codes "access-list" ++ spaced (number ∷ [])) =
    c.in_ok-push_top.ensures ∙ ap (λ (w : List ℕ). start ++ (codes "access-list" ++ spaced (w ∷ []))) c.bytes-2.ensures in
    let kind : entry_words (Some c.unwrap_or-extended.result) e ≡ entry_words (list_kind (number_of number)) e =
    ap (λ (b : Bool). entry_words (Some b) e) c.unwrap_or-extended.ensures ∙ flat-kind c.list_kind.result e
    ∙ ap (λ (o : Option Bool). entry_words o e) (c.list_kind.ensures ∙ ap (λ (w : List ℕ). list_kind (number_of w)) c.bytes.ensures) in
    on_ok_weaker c.push_entry.result
    (λ is. top-and start c.push_top.new.text.items _ (codes "access-list") (number ∷ []) (entry_words (list_kind (number_of number)) e) first
    (is ∙ ap (λ (ws : List (List ℕ)). c.push_top.new.text.items ++ spaced ws) kind))
    c.push_entry.ensures

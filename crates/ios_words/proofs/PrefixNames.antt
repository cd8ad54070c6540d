-- No prefix list is named as the word of an inert row.
use Rattle.std.proofs.Common.{◌≡◌, ℕ, false, List, ◌∷◌, Option, None, Ok, refl, sym, ap, subst, ◌∙◌, codes, find, take}
use Rattle.std.specs.Prelude.{bytes_eq}
use Rattle.std.proofs.lemmas.Bool.{false≢true}
use Rattle.std.proofs.lemmas.Slice.Eq.{bytes_eq-Decides}
use Rattle.ios_words.specs.declared.commands.Command.TheVariants.{PrefixLine}
use Rattle.ios_words.specs.declared.commands.RouteText.{RouteText}
use Rattle.ios_words.specs.declared.kinds.BlockKind.TheVariants as blocks
use Rattle.ios_words.specs.declared.rows.Form.TheVariants.{Name, Order}
use Rattle.ios_words.specs.declared.rows.Meaning.TheVariants as means
use Rattle.ios_words.specs.Commands.{completes}
use Rattle.ios_words.specs.Language.{rows}
use Rattle.ios_words.specs.ListLines.{PrefixListsHaveOtherNames}
use Rattle.ios_words.specs.Meanings.{give}
use Rattle.ios_words.specs.Readings.{read}
use Rattle.ios_words.specs.Rows.{Word, Place, Bracket, Rule}
use Rattle.ios_words.specs.Values.{Values, no_values}
use Rattle.ios_words.proofs.PrintedSteps.{at}
use Rattle.ios_words.proofs.RenumberedLines.{prefix-by, prefix_row, route_parts, named-other}
use Rattle.ios_words.proofs.Sequences.{word-read, name-read, same-values}
use Rattle.ios_words.proofs.ValuesKept.{to_text, changed, map_values, read-kept}

list-text : (list : List ℕ) (order : Option ℕ) (values : Values) (e : RouteText) → PrefixLine list order e ≡ give means.PrefixLine values → list ≡ values.text
list-text list order values e is = cc

pub prefix-names : PrefixListsHaveOtherNames
prefix-names ws list order e reads same =
    let by = prefix-by ws list order e reads in
    let complete : read false ws prefix_row ≡ Ok reads.values = ap (read false ws) (sym by.rule) ∙ reads.complete in
    let given : PrefixLine list order e ≡ give means.PrefixLine reads.values = reads.gives ∙ ap (λ (r : Rule). give r.meaning reads.values) by.rule in
    let one = word-read (codes "ip") (Word (codes "prefix-list") ∷ Place Name ∷ Bracket (codes "seq") (Order 4294967294) ∷ route_parts) 0 ws (no_values false) reads.values complete in
    let two = word-read (codes "prefix-list") (Place Name ∷ Bracket (codes "seq") (Order 4294967294) ∷ route_parts) 1 one.rest (no_values false) reads.values one.later in
    let three = name-read (Bracket (codes "seq") (Order 4294967294) ∷ route_parts) 2 two.rest (no_values false) reads.values two.later in
    let kept : Ok reads.values ≡ map_values (to_text three.name) (Ok reads.values) =
    sym three.later ∙ read-kept (to_text three.name) (Bracket (codes "seq") (Order 4294967294) ∷ route_parts) (at 3 three.rest (record (no_values false) { text = three.name })) refl
    ∙ ap (map_values (to_text three.name)) three.later in
    let text : reads.values.text ≡ three.name = ap (λ (v : Values). v.text) (same-values reads.values (changed (to_text three.name) reads.values) kept) in
    let words : ws ≡ codes "ip" ∷ codes "prefix-list" ∷ three.name ∷ three.rest =
    one.are ∙ ap (λ (l : List (List ℕ)). codes "ip" ∷ l) (two.are ∙ ap (λ (l : List (List ℕ)). codes "prefix-list" ∷ l) three.are) in
    let other : bytes_eq three.name (codes "sequence-number") ≡ false =
    named-other three.name three.rest (subst (λ (l : List (List ℕ)). find (completes false l) (take 81 (rows blocks.Top)) ≡ None) words by.none) in
    let name : three.name ≡ codes "sequence-number" = sym text ∙ sym (list-text list order reads.values e given) ∙ same in
    absurd (false≢true (sym other ∙ (bytes_eq-Decides three.name (codes "sequence-number")).1 name))

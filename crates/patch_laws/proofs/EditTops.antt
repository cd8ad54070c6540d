-- The lines of lists that stand as lines are top lines, and have the numbers that the language gives them.
use Rattle.std.proofs.Common.{◌≡◌, ℕ, ◌+◌, ◌^◌, ◌<◌, ◌≤◌, ◌==◌, ◌||◌, ◌&&◌, ◌⊎◌, inl, inr, Bool, true, false, if◌then◌else◌, Option, Some, None, List, [], ◌∷◌, map, take, get_or, refl, sym}
use Rattle.std.proofs.Common.{ap, subst, ◌∙◌, arith, ⊎_elim, Contains, MatchBool}
use Rattle.std.specs.Prelude.{option_map}
use Rattle.std.specs.Option.{option_map_or}
use Rattle.std.proofs.lemmas.Bool.{cases_Bool, false≢true, eqb-true, le-leb, or_left, or_right}
use Rattle.std.proofs.lemmas.Option.{same_Some, slice_get-map}
use Rattle.ios_lines.specs.declared.line.Lines.{Lines}
use Rattle.ios_lines.specs.Kinds.{is_head, is_mark, is_banner, is_indented, kind, kind_at, kind_within, opens_block, words_kind}
use Rattle.ios_lines.specs.Lines.{AreLinesOf}
use Rattle.ios_lines.specs.Texts.{part, text_lines}
use Rattle.ios_lines.specs.Views.{Mark, mark_seen, open_block, seen, seen_in}
use Rattle.arc_base.specs.Words.{words}
use Rattle.ios_lines.proofs.ChangedTexts.{seen-at}
use Rattle.ios_words.specs.declared.commands.Command.{Command}
use Rattle.ios_words.specs.declared.commands.Command.TheVariants as commands
use Rattle.ios_words.specs.declared.kinds.BlockKind.TheVariants as kinds
use Rattle.ios_words.specs.Commands.{ReadBy}
use Rattle.ios_words.specs.Forms.{IsInForm, IsListNumber, IsStandard, IsExtended}
use Rattle.ios_words.specs.Language.{rows}
use Rattle.ios_words.specs.ListLines.{is_list_line}
use Rattle.ios_words.specs.Numbers.{is_extended, is_from, is_standard, list_kind}
use Rattle.ios_words.proofs.Formed.{in_form}
use Rattle.ios_words.proofs.ListLines.{list-lines-top}
use Rattle.ios_words.proofs.PrefixNames.{prefix-names}
use Rattle.ios_config.specs.declared.commands.FileCommand.{FileCommand}
use Rattle.ios_config.specs.Groups as groups
use Rattle.ios_config.specs.Inserted.{MarkOpens}
use Rattle.ios_config.specs.LineLists.{marks_in, AreCommandsIn}
use Rattle.line_edit_laws.proofs.Shifts.{RowOf, row-of}
use Rattle.arc_base.specs.PrefixText.{number_of}
use Rattle.arc_base.proofs.NumberTexts.{number_of-decimal}
use Rattle.ios_config.specs.declared.settings.ListForm.{ListForm}
use Rattle.ios_config.specs.declared.settings.ListForm.TheVariants as forms
use Rattle.ios_config.specs.declared.settings.ListKind.{ListKind}
use Rattle.ios_config.specs.declared.settings.ListKind.TheVariants.{Extended, Standard}
use Rattle.ios_config.specs.declared.settings.ListText.{ListText}
use Rattle.ios_config.specs.Texts as texts
use Rattle.ios_config.specs.Texts.{config_of}
use Rattle.ios_config.proofs.OwnBlocks.{never-top}
use Rattle.patch_laws.specs.EditFiles.{HaveListLines}
use Rattle.patch_laws.specs.ListsGrow.{list_begun}
use Rattle.patch_laws.proofs.EditLists.{list-group}
use Rattle.patch_laws.proofs.EditNumbers.{first-of, line-entry, lines-begun, prefix-entry, prefixes-begun}
use Rattle.patch_laws.proofs.EditRows.{command-row}

-- a line of a head's kind has words that open a block
words-head : (indented : Bool) (ws : List (List ℕ)) → is_head (words_kind indented ws) ≡ true → opens_block ws ≡ true
words-head indented [] heads = absurd (false≢true heads)
words-head true (w ∷ r) heads = ⊎_elim
    (λ (marked : is_mark w ≡ true). absurd (false≢true (rw marked at heads)))
    (λ (plain : is_mark w ≡ false). absurd (false≢true (rw plain at heads)))
    (cases_Bool (is_mark w))
words-head false (w ∷ r) heads = ⊎_elim
    (λ (marked : is_mark w ≡ true). absurd (false≢true (rw marked at heads)))
    (λ (plain : is_mark w ≡ false). ⊎_elim
    (λ (banner : is_banner (w ∷ r) ≡ true). absurd (false≢true (rw (plain, banner) at heads)))
    (λ (other : is_banner (w ∷ r) ≡ false). ⊎_elim
    (λ (opens : opens_block (w ∷ r) ≡ true). opens)
    (λ (closed : opens_block (w ∷ r) ≡ false). absurd (false≢true (rw (plain, other, closed) at heads)))
    (cases_Bool (opens_block (w ∷ r))))
    (cases_Bool (is_banner (w ∷ r))))
    (cases_Bool (is_mark w))

module _ (lines : List (List ℕ)) (cs : List FileCommand) (stand : AreCommandsIn lines cs) (c : FileCommand) (among : Contains cs c) (list : is_list_line c.command ≡ true) where
  r : RowOf lines cs c
  r = row-of lines cs c stand among

  head-kind : r.mark.head ≡ true → opens_block r.mark.words ≡ true
  head-kind heads =
      let s = seen_in (r.place + 1) (get_or lines r.place []) (kind_at lines r.place) (open_block (take r.place lines)) in
      let same : mark_seen s ≡ r.mark = same_Some (mark_seen s) r.mark (sym (slice_get-map mark_seen (seen lines) r.place ∙ ap (option_map mark_seen) (seen-at lines r.place r.told.within)) ∙ r.at) in
      let here : is_head (kind_at lines r.place) ≡ true = ap (λ (m : Mark). m.head) same ∙ heads in
      let k : kind_at lines r.place ≡ kind (get_or lines r.place []) = ap (λ b. kind_within b (get_or lines r.place [])) r.told.before in
      ap opens_block r.texts ∙ words-head (is_indented (get_or lines r.place [])) (words (get_or lines r.place [])) (ap is_head (sym k) ∙ here)

  pub list-top : c.block ≡ 0
  list-top = by r.mark.head refl (r.mark.block == 0) refl
    where
      by : (h : Bool) → r.mark.head ≡ h → (b : Bool) → (r.mark.block == 0) ≡ b → c.block ≡ 0
      by h heads true none = r.block ∙ eqb-true r.mark.block 0 none
      by false heads false some =
          let inside : (r.mark.head || (r.mark.block == 0)) ≡ false = ap (λ (t : Bool). t || (r.mark.block == 0)) heads ∙ some in
          let opens : MarkOpens (marks_in lines) r.mark.block r.row.within =
          subst (λ (t : Bool). MatchBool t (r.row.within ≡ kinds.Top) (MarkOpens (marks_in lines) r.mark.block r.row.within)) inside r.row.stands in
          absurd (never-top opens.command (sym opens.opens ∙ (list-lines-top r.row.within r.mark.words c.command r.row.reads list).0))
      by true heads false some =
          absurd (false≢true (sym (list-lines-top r.row.within r.mark.words c.command r.row.reads list).1 ∙ head-kind heads))

-- the line of a list is a top line
pub lists-at-top : (lines : List (List ℕ)) (cs : List FileCommand) → AreCommandsIn lines cs → (c : FileCommand) → Contains cs c → (name : List ℕ) →
    (groups.part_of c ≡ groups.Lines name) ⊎ (groups.part_of c ≡ groups.PrefixLines name) → c.block ≡ 0
lists-at-top lines cs stand c among name (inl part) = let (entry, is) = line-entry c.block name c.command part in list-top lines cs stand c among (ap is_list_line is)
lists-at-top lines cs stand c among name (inr part) = let (order, entry, is) = prefix-entry c.block name c.command part in list-top lines cs stand c among (ap is_list_line is)

-- tests of numbers
from-true : (low high n : ℕ) → low ≤ n → n ≤ high → is_from low high n ≡ true
from-true low high n one two = (let first = le-leb low n one in let second = le-leb n high two in λ i. first i && second i)

standard-true : (n : ℕ) → IsStandard n → is_standard n ≡ true
standard-true n (inl low) = or_left (is_from 1 99 n) (is_from 1300 1999 n) (from-true 1 99 n low.0 low.1)
standard-true n (inr high) = or_right (is_from 1 99 n) (is_from 1300 1999 n) (from-true 1300 1999 n high.0 high.1)

extended-true : (n : ℕ) → IsExtended n → is_extended n ≡ true
extended-true n (inl low) = or_left (is_from 100 199 n) (is_from 2000 2699 n) (from-true 100 199 n low.0 low.1)
extended-true n (inr high) = or_right (is_from 100 199 n) (is_from 2000 2699 n) (from-true 2000 2699 n high.0 high.1)

few-digits : (n : ℕ) → IsStandard n ⊎ IsExtended n → n < 2 ^ 64
few-digits n (inl (inl low)) = let few = low.1 in omega arith
few-digits n (inl (inr high)) = let few = high.1 in omega arith
few-digits n (inr (inl low)) = let few = low.1 in omega arith
few-digits n (inr (inr high)) = let few = high.1 in omega arith

kind-false : (b : Bool) → (if b then Standard else Extended) ≡ Extended → b ≡ false
kind-false true e = let clash : Standard ≡ Extended = e in absurd cc
kind-false false e = refl

extended-by : (n : ℕ) → is_standard n ≡ false → is_extended n ≡ true → list_kind (Some n) ≡ Some true
extended-by n one two = λ i. if one i then Some false else (if two i then Some true else None)

-- the number of an extended list that stands as lines
extended-number : (name : List ℕ) → IsListNumber name → texts.kind_of_number name ≡ Extended → list_kind (number_of name) ≡ Some true
extended-number name is kind =
    let number : number_of name ≡ Some is.number = ap number_of is.written ∙ number_of-decimal is.number (few-digits is.number is.ranged) in
    let other : is_standard is.number ≡ false = kind-false (is_standard is.number)
    (ap (λ (o : Option ℕ). if option_map_or texts.is_standard o false then Standard else Extended) (sym number) ∙ kind) in
    ap list_kind number ∙ extended-by is.number other (⊎_elim (λ standard. absurd (false≢true (sym other ∙ standard-true is.number standard))) (extended-true is.number) is.ranged)

module _ (text : List ℕ) (lines : Lines) (cs : List FileCommand) (are : AreLinesOf text lines) (stand : AreCommandsIn (text_lines text) cs) where
  first-row : (list : ListText) (there : Contains (config_of cs).lists list) → (form : is_list_line (list-group cs list there).first.command ≡ true) →
      ReadBy false (map (part text) (command-row text lines cs (list-group cs list there).first are stand (first-of (text_lines text) cs stand list there).0).row.words) (rows kinds.Top)
      (list-group cs list there).first.command
  first-row list there listed =
      let among = (first-of (text_lines text) cs stand list there).0 in
      let row = command-row text lines cs (list-group cs list there).first are stand among in
      let top = list-top (text_lines text) cs stand (list-group cs list there).first among listed in
      row.read kinds.Top (⊎_elim (λ heads. absurd (let own = row.own heads in let number = row.number in omega arith)) (λ none. none) (cases_Bool row.row.head)) (inl (top, refl))

  pub have-list-lines : HaveListLines cs
  have-list-lines = record {
    tops = lists-at-top (text_lines text) cs stand;
    words = λ list there form.
        let h = list-group cs list there in
        let (order, entry, is) = prefixes-begun h.first.command list.name list.kind (h.begun ∙ (λ i. Some (list.name, list.kind, form i))) in
        let reads = first-row list there (ap is_list_line is) in
        let row = command-row text lines cs h.first are stand (first-of (text_lines text) cs stand list there).0 in
        prefix-names (map (part text) row.row.words) list.name order entry (subst (λ (k : Command). ReadBy false (map (part text) row.row.words) (rows kinds.Top) k) is reads);
    numbers = λ list there form kind.
        let h = list-group cs list there in
        let (entry, is) = lines-begun h.first.command list.name list.kind (h.begun ∙ (λ i. Some (list.name, list.kind, form i))) in
        let among = (first-of (text_lines text) cs stand list there).0 in
        let row = command-row text lines cs h.first are stand among in
        let formed : IsInForm h.first.command = in_form text row.row kinds.Top h.first.command (first-row list there (ap is_list_line is)) in
        let number : IsListNumber list.name = subst IsInForm is formed in
        let begun : list_begun (commands.ListLine list.name entry) ≡ Some (list.name, list.kind, list.form) = ap list_begun (sym is) ∙ h.begun in
        extended-number list.name number
        (ap (λ (x : List ℕ × ListKind × ListForm). x.1) (same_Some (list.name, texts.kind_of_number list.name, forms.Lines) (list.name, list.kind, list.form) begun) ∙ kind);
  }

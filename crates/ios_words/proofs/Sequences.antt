-- A prefix list's line that has a number has it as its fifth word.
use Rattle.std.proofs.Common.{◌≡◌, ℕ, ◌+◌, Bool, true, false, cond, List, [], ◌∷◌, Some, None, Result, Ok, Err, refl, sym, ap, ◌∙◌, codes}
use Rattle.std.proofs.lemmas.Option.{none-some}
use Rattle.std.proofs.lemmas.Slice.Eq.{bytes_eq-Decides}
use Rattle.std.specs.Str.{bytes_eq}
use Rattle.ios_words.specs.declared.commands.Command.TheVariants.{PrefixLine}
use Rattle.ios_words.specs.declared.commands.RouteText.{RouteText}
use Rattle.ios_words.specs.declared.kinds.Flaw.TheVariants.{Amiss}
use Rattle.ios_words.specs.declared.kinds.WordFault.{WordFault}
use Rattle.ios_words.specs.declared.rows.Form.TheVariants.{Name, Order}
use Rattle.ios_words.specs.declared.rows.Meaning.TheVariants as means
use Rattle.ios_words.specs.Meanings.{give}
use Rattle.arc_base.specs.NameForms.{is_name}
use Rattle.ios_words.specs.Readings.{passed, place, after_word, then_do, read_parts, finish, read}
use Rattle.ios_words.specs.Renumbered.{NumberedLinesHaveSequences}
use Rattle.ios_words.specs.Rows.{Piece, Word, Place, Bracket, Rule}
use Rattle.ios_words.specs.Values.{Values, with_value, tested, no_values}
use Rattle.ios_words.proofs.ValuesKept.{to_order, changed, map_values, read-kept}
use Rattle.ios_words.proofs.PrintedSteps.{at}
use Rattle.ios_words.proofs.RenumberedLines.{no-ok, prefix-by, prefix_row, route_parts}

-- what was read of a row's word
pub record WordRead (word : List ℕ) (pieces : List Piece) (taken : ℕ) (ws : List (List ℕ)) (v values : Values) : Type 0 where
  pub rest : List (List ℕ)
  pub are : ws ≡ word ∷ rest
  pub later : finish (read_parts pieces (at (taken + 1) rest v)) ≡ Ok values

pub word-read : (word : List ℕ) (pieces : List Piece) (taken : ℕ) (ws : List (List ℕ)) (v values : Values) →
    finish (read_parts (Word word ∷ pieces) (at taken ws v)) ≡ Ok values → WordRead word pieces taken ws v values
word-read word pieces taken [] v values is = no-ok values _ _ is refl
word-read word pieces taken (a ∷ ws) v values is = by (bytes_eq a word) refl
  where
    by : (b : Bool) → bytes_eq a word ≡ b → WordRead word pieces taken (a ∷ ws) v values
    by true same = record {
      rest = ws;
      are = ap (λ (x : List ℕ). x ∷ ws) ((bytes_eq-Decides a word).0 same);
      later = sym (ap (λ b. finish (then_do (read_parts pieces) (after_word (taken + 1) ws (cond b (Ok v) (Err Amiss))))) same) ∙ is;
    }
    by false other = no-ok values _ _ (sym (ap (λ b. finish (then_do (read_parts pieces) (after_word (taken + 1) ws (cond b (Ok v) (Err Amiss))))) other) ∙ is) refl

-- what was read of a row's name
pub record NameRead (pieces : List Piece) (taken : ℕ) (ws : List (List ℕ)) (v values : Values) : Type 0 where
  pub name : List ℕ
  pub rest : List (List ℕ)
  pub are : ws ≡ name ∷ rest
  pub later : finish (read_parts pieces (at (taken + 1) rest (record v { text = name }))) ≡ Ok values

pub name-read : (pieces : List Piece) (taken : ℕ) (ws : List (List ℕ)) (v values : Values) → finish (read_parts (Place Name ∷ pieces) (at taken ws v)) ≡ Ok values → NameRead pieces taken ws v values
name-read pieces taken [] v values is = no-ok values _ _ is refl
name-read pieces taken (a ∷ ws) v values is = by (is_name a) refl
  where
    by : (b : Bool) → is_name a ≡ b → NameRead pieces taken (a ∷ ws) v values
    by true named = record {
      name = a;
      rest = ws;
      are = refl;
      later = sym (ap (λ b. finish (then_do (read_parts pieces) (after_word (taken + 1) ws (with_value (λ w. record v { text = w }) (tested b a))))) named) ∙ is;
    }
    by false unnamed = no-ok values _ _ (sym (ap (λ b. finish (then_do (read_parts pieces) (after_word (taken + 1) ws (with_value (λ w. record v { text = w }) (tested b a))))) unnamed) ∙ is) refl

-- the words of a number in brackets
record SequenceWords (ws : List (List ℕ)) : Type 0 where
  word : List ℕ
  rest : List (List ℕ)
  are : ws ≡ codes "seq" ∷ word ∷ rest

abbrev pub one-of : Values → Result Values WordFault
one-of v = Ok v

pub same-values : (v w : Values) → one-of v ≡ one-of w → v ≡ w
same-values v w e = cc

-- without them there is no number
no-number : (name : List ℕ) (taken : ℕ) (ws : List (List ℕ)) (values : Values) (n : ℕ) →
    finish (read_parts route_parts (at taken ws (record (no_values false) { text = name }))) ≡ Ok values → values.order ≡ Some n → ⊥
no-number name taken ws values n complete ordered =
    let kept : Ok values ≡ map_values (to_order None) (Ok values) =
    sym complete ∙ read-kept (to_order None) route_parts (at taken ws (record (no_values false) { text = name })) refl ∙ ap (map_values (to_order None)) complete in
    let none : values ≡ changed (to_order None) values = same-values values (changed (to_order None) values) kept in
    none-some n (sym (ap (λ (v : Values). v.order) none) ∙ ordered)

sequence-read : (name : List ℕ) (taken : ℕ) (ws : List (List ℕ)) (values : Values) (n : ℕ) →
    finish (read_parts (Bracket (codes "seq") (Order 4294967294) ∷ route_parts) (at taken ws (record (no_values false) { text = name }))) ≡ Ok values → values.order ≡ Some n → SequenceWords ws
sequence-read name taken [] values n complete ordered = no-ok values _ _ complete refl
sequence-read name taken (a ∷ []) values n complete ordered = by (bytes_eq a (codes "seq")) refl
  where
    v : Values
    v = record (no_values false) { text = name }

    by : (b : Bool) → bytes_eq a (codes "seq") ≡ b → SequenceWords (a ∷ [])
    by true same = no-ok values _ _
        (sym (ap (λ b. finish (then_do (read_parts route_parts) (cond b (place (Order 4294967294) (passed (at taken (a ∷ []) v))) (Ok (at taken (a ∷ []) v))))) same) ∙ complete) refl
    by false other = absurd
        (no-number name taken (a ∷ []) values n
        (sym (ap (λ b. finish (then_do (read_parts route_parts) (cond b (place (Order 4294967294) (passed (at taken (a ∷ []) v))) (Ok (at taken (a ∷ []) v))))) other) ∙ complete) ordered)
sequence-read name taken (a ∷ word ∷ ws) values n complete ordered = by (bytes_eq a (codes "seq")) refl
  where
    v : Values
    v = record (no_values false) { text = name }

    by : (b : Bool) → bytes_eq a (codes "seq") ≡ b → SequenceWords (a ∷ word ∷ ws)
    by true same = record { word = word; rest = ws; are = ap (λ (x : List ℕ). x ∷ word ∷ ws) ((bytes_eq-Decides a (codes "seq")).0 same) }
    by false other = absurd
        (no-number name taken (a ∷ word ∷ ws) values n
        (sym (ap (λ b. finish (then_do (read_parts route_parts) (cond b (place (Order 4294967294) (passed (at taken (a ∷ word ∷ ws) v))) (Ok (at taken (a ∷ word ∷ ws) v))))) other)
        ∙ complete) ordered)

prefix-order : (list other : List ℕ) (n : ℕ) (values : Values) (e : RouteText) → PrefixLine list (Some n) e ≡ give means.PrefixLine values → values.order ≡ Some n
prefix-order list other n values e is = cc

pub numbered-sequence : NumberedLinesHaveSequences
numbered-sequence ws list n e reads =
    let by = prefix-by ws list (Some n) e reads in
    let complete : read false ws prefix_row ≡ Ok reads.values = ap (read false ws) (sym by.rule) ∙ reads.complete in
    let given : PrefixLine list (Some n) e ≡ give means.PrefixLine reads.values = reads.gives ∙ ap (λ (r : Rule). give r.meaning reads.values) by.rule in
    let ordered : reads.values.order ≡ Some n = prefix-order list list n reads.values e given in
    let one = word-read (codes "ip") (Word (codes "prefix-list") ∷ Place Name ∷ Bracket (codes "seq") (Order 4294967294) ∷ route_parts) 0 ws (no_values false) reads.values complete in
    let two = word-read (codes "prefix-list") (Place Name ∷ Bracket (codes "seq") (Order 4294967294) ∷ route_parts) 1 one.rest (no_values false) reads.values one.later in
    let three = name-read (Bracket (codes "seq") (Order 4294967294) ∷ route_parts) 2 two.rest (no_values false) reads.values two.later in
    let four = sequence-read three.name 3 three.rest reads.values n three.later ordered in
    record {
      name = three.name;
      word = four.word;
      rest = four.rest;
      are = one.are ∙ ap (λ (l : List (List ℕ)). codes "ip" ∷ l) (two.are ∙ ap (λ (l : List (List ℕ)). codes "prefix-list" ∷ l) (three.are ∙ ap (λ (l : List (List ℕ)). three.name ∷ l) four.are));
    }

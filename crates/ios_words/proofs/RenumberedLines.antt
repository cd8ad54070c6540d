-- Entries whose numbers change are read as the same entries with the other numbers.
use Rattle.std.proofs.Common.{◌≡◌, ℕ, ◌^◌, ◌<◌, ◌||◌, not, Bool, true, false, cond, List, [], ◌∷◌, ◌++◌, take, drop}
use Rattle.std.proofs.Common.{Option, Some, None, Result, Ok, Err, refl, sym, ap, subst, ◌∙◌, arith, codes, decimal, ⊎_elim, is_ok, true≢false}
use Rattle.std.proofs.lemmas.Bool.{cases_Bool, cond-true, cond-false}
use Rattle.std.proofs.lemmas.List.Folds.{find-append}
use Rattle.std.proofs.lemmas.Option.{none-some, same_Some}
use Rattle.std.proofs.lemmas.Slice.Eq.{bytes_eq-Decides}
use Rattle.std.specs.List.{find}
use Rattle.std.specs.Option.{option_or, option_map_or}
use Rattle.std.specs.Str.{bytes_eq}
use Rattle.ios_words.specs.declared.commands.Command.{Command}
use Rattle.ios_words.specs.declared.commands.Command.TheVariants.{Entry, PrefixLine}
use Rattle.ios_words.specs.declared.commands.PacketText.{PacketText}
use Rattle.ios_words.specs.declared.commands.RouteText.{RouteText}
use Rattle.ios_words.specs.declared.kinds.BlockKind.TheVariants as blocks
use Rattle.ios_words.specs.declared.kinds.WordFault.{WordFault}
use Rattle.ios_words.specs.declared.kinds.Flaw.TheVariants.{Amiss}
use Rattle.ios_words.specs.declared.rows.Form.TheVariants.{Name, Order, Route, AtLeast, AtMost}
use Rattle.ios_words.specs.declared.rows.Meaning.{Meaning}
use Rattle.ios_words.specs.declared.rows.Meaning.TheVariants as means
use Rattle.ios_words.specs.Commands.{completes, ReadBy}
use Rattle.ios_words.specs.Language.{rows, fixed, inert}
use Rattle.ios_words.specs.Meanings.{give}
use Rattle.arc_base.specs.NameForms.{is_name}
use Rattle.ios_words.specs.Numbers.{number_in}
use Rattle.ios_words.specs.Readings.{State, begins_verdict, begins_entry, after, after_word, match_words, matches, place, then_do, step, read_parts, finish, start, read}
use Rattle.ios_words.specs.Renumbered.{EntriesMayBeRenumbered, PrefixLinesMayBeRenumbered}
use Rattle.ios_words.specs.Rows.{Piece, Word, Verdict, Place, Bracket, Flag, EntryNumber, Protocol, Source, Destination, Ports, Anything, Rule, row}
use Rattle.ios_words.specs.Values.{Values, with_value, tested, no_values}
use Rattle.ios_words.proofs.Heads.{find-passes}
use Rattle.ios_words.proofs.ValuesKept.{to_order, changed, map_values, read-kept}
use Rattle.ios_words.proofs.Printed.{reads-at, none-split, fails-by}
use Rattle.ios_words.proofs.PrintedSteps.{at, chain, name-step, order-step, number-begins}

-- a row that completes matches
matches-by : (extended : Bool) (ws : List (List ℕ)) (rule : Rule) (b : Bool) → matches ws rule ≡ b → completes extended ws rule ≡ true → matches ws rule ≡ true
matches-by extended ws rule true is completed = is
matches-by extended ws rule false is completed = let no_match = fails-by extended ws rule is in absurd (true≢false (sym completed ∙ no_match))

one-ok : (a b : Values) (r : Result Values WordFault) → r ≡ Ok a → r ≡ Ok b → a ≡ b
one-ok a b r one two = cc

pub no-ok : {A : Type 0} → (v : Values) (f : WordFault) (r : Result Values WordFault) → r ≡ Ok v → r ≡ Err f → A
no-ok v f r one two = absurd cc

-- the rows of an extended list
abbrev remark : Rule
remark = row (EntryNumber ∷ [] ++ fixed (codes "remark") ++ Anything ∷ []) means.Inert

abbrev rest : List Piece
rest = Verdict ∷ Protocol ∷ Source ∷ Destination ∷ Ports ∷ Flag (codes "log") ∷ []

abbrev entry_row : Rule
entry_row = row (EntryNumber ∷ rest) means.Entry

-- which row an entry is read by
entry-by : (ws : List (List ℕ)) (o : Option ℕ) (e : PacketText) (reads : ReadBy true ws (rows blocks.Extended) (Entry o e)) → (completes true ws entry_row ≡ true) × (reads.rule ≡ entry_row)
entry-by ws o e reads = ⊎_elim
    (λ first.
    let rule : remark ≡ reads.rule = same_Some remark reads.rule (sym (cond-true (completes true ws remark) (Some remark) (find (completes true ws) (entry_row ∷ [])) first) ∙ reads.first) in
    let given : Entry o e ≡ give means.Inert reads.values = reads.gives ∙ ap (λ (r : Rule). give r.meaning reads.values) (sym rule) in
    absurd cc)
    (λ other.
    let second : cond (completes true ws entry_row) (Some entry_row) None ≡ Some reads.rule =
    sym (cond-false (completes true ws remark) (Some remark) (find (completes true ws) (entry_row ∷ [])) other) ∙ reads.first in
    ⊎_elim
    (λ here. (here, sym (same_Some entry_row reads.rule (sym (cond-true (completes true ws entry_row) (Some entry_row) None here) ∙ second))))
    (λ none. absurd (none-some reads.rule (sym (cond-false (completes true ws entry_row) (Some entry_row) None none) ∙ second)))
    (cases_Bool (completes true ws entry_row)))
    (cases_Bool (completes true ws remark))

-- words that go on with permit or deny are no remark
verdict-first : (ws : List (List ℕ)) → match_words rest ws ≡ true → match_words (Word (codes "remark") ∷ Anything ∷ []) ws ≡ false
verdict-first [] match = absurd cc
verdict-first (w ∷ ws) match = ⊎_elim
    (λ permit.
    let is : w ≡ codes "permit" = (bytes_eq-Decides w (codes "permit")).0 permit in
    subst (λ v. match_words (Word (codes "remark") ∷ Anything ∷ []) (v ∷ ws) ≡ false) (sym is) refl)
    (λ no_permit. ⊎_elim
    (λ deny.
    let is : w ≡ codes "deny" = (bytes_eq-Decides w (codes "deny")).0 deny in
    subst (λ v. match_words (Word (codes "remark") ∷ Anything ∷ []) (v ∷ ws) ≡ false) (sym is) refl)
    (λ no_deny.
    let none : begins_verdict (w ∷ ws) ≡ false = ap (λ b. b || bytes_eq w (codes "deny")) no_permit ∙ no_deny in
    let fails : match_words rest (w ∷ ws) ≡ false = ap (λ b. option_map_or (match_words (Protocol ∷ Source ∷ Destination ∷ Ports ∷ Flag (codes "log") ∷ [])) (cond b (Some ws) None) false) none in
    absurd (true≢false (sym match ∙ fails)))
    (cases_Bool (bytes_eq w (codes "deny"))))
    (cases_Bool (bytes_eq w (codes "permit")))

-- the number that was read, and what the words after it give
record NumberRead (word : List ℕ) (ws : List (List ℕ)) (values : Values) : Type 0 where
  begins : begins_entry (word ∷ ws) ≡ false
  number : ℕ
  rest_read : finish (read_parts rest (at 1 ws (record (no_values true) { order = Some number }))) ≡ Ok values

number-read : (word : List ℕ) (ws : List (List ℕ)) (values : Values) (n : ℕ) → read true (word ∷ ws) entry_row ≡ Ok values → values.order ≡ Some n → NumberRead word ws values
number-read word ws values n complete ordered = by (begins_entry (word ∷ ws)) refl
  where
    s : List ℕ → List (List ℕ) → State
    s word ws = start true (word ∷ ws)

    some-number : (word : List ℕ) (ws : List (List ℕ)) (values : Values) (o : Option ℕ) → begins_entry (word ∷ ws) ≡ false →
        finish (then_do (read_parts rest) (after_word 1 ws (with_value (λ k. record (no_values true) { order = Some k }) o))) ≡ Ok values → NumberRead word ws values
    some-number word ws values None no_entry is = no-ok values _ _ is refl
    some-number word ws values (Some k) no_entry is = record { begins = no_entry; number = k; rest_read = is }

    by : (b : Bool) → begins_entry (word ∷ ws) ≡ b → NumberRead word ws values
    by true entry =
        let stays : read true (word ∷ ws) entry_row ≡ finish (read_parts rest (start true (word ∷ ws))) =
        ap (λ b. finish (then_do (read_parts rest) (cond b (Ok (start true (word ∷ ws))) (place (Order 2147483647) (start true (word ∷ ws)))))) entry in
        let kept : Ok values ≡ map_values (to_order None) (Ok values) =
        sym (sym stays ∙ complete) ∙ read-kept (to_order None) rest (start true (word ∷ ws)) refl ∙ ap (map_values (to_order None)) (sym stays ∙ complete) in
        let none : values ≡ changed (to_order None) values = one-ok values (changed (to_order None) values) (Ok values) refl kept in
        let clash : None ≡ Some n = sym (ap (λ (v : Values). v.order) none) ∙ ordered in
        absurd (none-some n clash)
    by false no_entry =
        some-number word ws values (number_in 1 2147483647 word) no_entry
        (sym (ap (λ b. finish (then_do (read_parts rest) (cond b (Ok (start true (word ∷ ws))) (place (Order 2147483647) (start true (word ∷ ws)))))) no_entry) ∙ complete)

entry-parts : (o p : Option ℕ) (e f : PacketText) → Entry o e ≡ Entry p f → (o ≡ p) × (e ≡ f)
entry-parts o p e f is = (cc, cc)

pub entries-renumbered : EntriesMayBeRenumbered
entries-renumbered word ws n m e reads ranged =
    let small : m < 2 ^ 64 = let most = ranged.1 in omega arith in
    let (completed, rule) = entry-by (word ∷ ws) (Some n) e reads in
    let complete : read true (word ∷ ws) entry_row ≡ Ok reads.values = ap (read true (word ∷ ws)) (sym rule) ∙ reads.complete in
    let given : Entry (Some n) e ≡ give means.Entry reads.values = reads.gives ∙ ap (λ (r : Rule). give r.meaning reads.values) rule in
    let parts = entry-parts (Some n) reads.values.order e _ given in
    let old = number-read word ws reads.values n complete (sym parts.0) in
    let words = decimal m ∷ ws in
    let v = record (no_values true) { order = Some m } in
    let no_entry : begins_entry words ≡ false = number-begins m ws small in
    let matched : match_words rest ws ≡ true =
    sym (ap (λ b. match_words rest (cond b (word ∷ ws) ws)) old.begins) ∙ matches-by true (word ∷ ws) entry_row (matches (word ∷ ws) entry_row) refl completed in
    let skip : after EntryNumber words ≡ Some ws = ap (λ b. Some (cond b words ws)) no_entry in
    let number : step EntryNumber (at 0 words (no_values true)) ≡ Ok (at 1 ws v) =
    cond-false (begins_entry words) (Ok (at 0 words (no_values true))) (place (Order 2147483647) (at 0 words (no_values true))) no_entry
    ∙ order-step 2147483647 0 m ws (no_values true) ranged.0 ranged.1 small in
    let again : finish (read_parts rest (at 1 ws v)) ≡ Ok (changed (to_order (Some m)) reads.values) =
    read-kept (to_order (Some m)) rest (at 1 ws (record (no_values true) { order = Some old.number })) refl ∙ ap (map_values (to_order (Some m))) old.rest_read in
    reads-at true words (rows blocks.Extended) 1 entry_row [] (changed (to_order (Some m)) reads.values) (Entry (Some m) e) refl
    (none-split (completes true words) [] remark [] refl
    (fails-by true words remark (ap (λ o. option_map_or (match_words (Word (codes "remark") ∷ Anything ∷ [])) o false) skip ∙ verdict-first ws matched)) refl)
    (ap (λ o. option_map_or (match_words rest) o false) skip ∙ matched)
    (ap finish (chain EntryNumber rest (at 0 words (no_values true)) (at 1 ws v) number) ∙ again)
    (ap (Entry (Some m)) parts.1)

-- the parts of a prefix list's line after its number, and its row
abbrev pub route_parts : List Piece
route_parts = Verdict ∷ Place Route ∷ Bracket (codes "ge") AtLeast ∷ Bracket (codes "le") AtMost ∷ []

abbrev pub prefix_row : Rule
prefix_row = row (fixed (codes "ip prefix-list") ++ Place Name ∷ Bracket (codes "seq") (Order 4294967294) ∷ route_parts) means.PrefixLine

abbrev sequence_number : Rule
sequence_number = inert (codes "ip prefix-list sequence-number")

-- whether the meaning is a prefix list's line
abbrev is_prefix : Meaning → Bool
is_prefix means.PrefixLine = true
is_prefix _ = false

abbrev no_prefix : Rule → Bool
no_prefix r = not (is_prefix r.meaning)

-- whether the command is one
abbrev is_prefix_line : Command → Bool
is_prefix_line (PrefixLine list o e) = true
is_prefix_line _ = false

prefix-give : (meaning : Meaning) (values : Values) → is_prefix_line (give meaning values) ≡ is_prefix meaning
prefix-give means.PrefixLine values = refl
prefix-give _ values = refl

-- which row a prefix list's line is read by
pub record PrefixBy (ws : List (List ℕ)) (reads_rule : Rule) : Type 0 where
  pub none : find (completes false ws) (take 81 (rows blocks.Top)) ≡ None
  pub completed : completes false ws prefix_row ≡ true
  pub rule : reads_rule ≡ prefix_row

pub prefix-by : (ws : List (List ℕ)) (list : List ℕ) (o : Option ℕ) (e : RouteText) (reads : ReadBy false ws (rows blocks.Top) (PrefixLine list o e)) → PrefixBy ws reads.rule
prefix-by ws list o e reads = by (find (completes false ws) (take 81 (rows blocks.Top))) refl
  where
    by : (f : Option Rule) → find (completes false ws) (take 81 (rows blocks.Top)) ≡ f → PrefixBy ws reads.rule
    by (Some rule) is =
        let same : rule ≡ reads.rule = same_Some rule reads.rule
        (sym (ap (λ f. option_or f (find (completes false ws) (drop 81 (rows blocks.Top)))) is)
        ∙ sym (find-append (completes false ws) (take 81 (rows blocks.Top)) (drop 81 (rows blocks.Top))) ∙ reads.first) in
        let other : not (is_prefix rule.meaning) ≡ true = find-passes (completes false ws) no_prefix (take 81 (rows blocks.Top)) rule is refl in
        let given : PrefixLine list o e ≡ give rule.meaning reads.values = reads.gives ∙ ap (λ (r : Rule). give r.meaning reads.values) (sym same) in
        let prefix : is_prefix rule.meaning ≡ true = sym (prefix-give rule.meaning reads.values) ∙ ap is_prefix_line (sym given) in
        absurd (true≢false (sym other ∙ ap not prefix))
    by None is =
        let last : cond (completes false ws prefix_row) (Some prefix_row) None ≡ Some reads.rule =
        sym (ap (λ f. option_or f (find (completes false ws) (drop 81 (rows blocks.Top)))) is)
        ∙ sym (find-append (completes false ws) (take 81 (rows blocks.Top)) (drop 81 (rows blocks.Top))) ∙ reads.first in
        ⊎_elim
        (λ here. record { none = is; completed = here; rule = sym (same_Some prefix_row reads.rule (sym (cond-true (completes false ws prefix_row) (Some prefix_row) None here) ∙ last)) })
        (λ other. absurd (none-some reads.rule (sym (cond-false (completes false ws prefix_row) (Some prefix_row) None other) ∙ last)))
        (cases_Bool (completes false ws prefix_row))

-- no row of a list completes where none is found
none-at : (p : Rule → Bool) (before : List Rule) (rule : Rule) (later : List Rule) → find p (before ++ rule ∷ later) ≡ None → p rule ≡ false
none-at p [] rule later none = ⊎_elim
    (λ here. absurd (none-some rule (sym none ∙ cond-true (p rule) (Some rule) (find p later) here)))
    (λ other. other)
    (cases_Bool (p rule))
none-at p (b ∷ before) rule later none = ⊎_elim
    (λ here. absurd (none-some b (sym none ∙ cond-true (p b) (Some b) (find p (before ++ rule ∷ later)) here)))
    (λ other. none-at p before rule later (sym (cond-false (p b) (Some b) (find p (before ++ rule ∷ later)) other) ∙ none))
    (cases_Bool (p b))

-- the name of a list that is read is not the word of the inert row
pub named-other : (name : List ℕ) (ws : List (List ℕ)) →
    find (completes false (codes "ip" ∷ codes "prefix-list" ∷ name ∷ ws)) (take 81 (rows blocks.Top)) ≡ None → bytes_eq name (codes "sequence-number") ≡ false
named-other name ws none = ⊎_elim
    (λ same.
    let words = codes "ip" ∷ codes "prefix-list" ∷ name ∷ ws in
    let yes_it : completes false words sequence_number ≡ true =
    (λ i. cond (option_map_or (match_words (Anything ∷ [])) (cond (same i) (Some ws) None) false)
    (is_ok (finish (then_do (read_parts (Anything ∷ [])) (after_word 3 ws (cond (same i) (Ok (no_values false)) (Err Amiss)))))) false) in
    let no_it = none-at (completes false words) (take 61 (rows blocks.Top)) sequence_number (take 19 (drop 62 (rows blocks.Top))) none in
    absurd (true≢false (sym yes_it ∙ no_it)))
    (λ other. other)
    (cases_Bool (bytes_eq name (codes "sequence-number")))

-- what was read of a prefix list's line that has a number
record SequenceRead (name word : List ℕ) (ws : List (List ℕ)) (values : Values) : Type 0 where
  named : is_name name ≡ true
  number : ℕ
  rest_read : finish (read_parts route_parts (at 5 ws (record (no_values false) { text = name; order = Some number }))) ≡ Ok values

sequence-read : (name word : List ℕ) (ws : List (List ℕ)) (values : Values) →
    read false (codes "ip" ∷ codes "prefix-list" ∷ name ∷ codes "seq" ∷ word ∷ ws) prefix_row ≡ Ok values → SequenceRead name word ws values
sequence-read name word ws values complete = by (is_name name) refl
  where
    some-number : (name word : List ℕ) (ws : List (List ℕ)) (values : Values) (o : Option ℕ) → is_name name ≡ true →
        finish (then_do (read_parts route_parts) (after_word 5 ws (with_value (λ k. record (no_values false) { text = name; order = Some k }) o))) ≡ Ok values → SequenceRead name word ws values
    some-number name word ws values None named is = no-ok values _ _ is refl
    some-number name word ws values (Some k) named is = record { named = named; number = k; rest_read = is }

    by : (b : Bool) → is_name name ≡ b → SequenceRead name word ws values
    by true named =
        some-number name word ws values (number_in 1 4294967294 word) named
        (sym (ap (λ b. finish
        (then_do (read_parts (Bracket (codes "seq") (Order 4294967294) ∷ route_parts))
        (after_word 3 (codes "seq" ∷ word ∷ ws) (with_value (λ w. record (no_values false) { text = w }) (tested b name))))) named) ∙ complete)
    by false unnamed =
        no-ok values _ _ (sym
        (ap (λ b. finish (then_do (read_parts (Bracket (codes "seq") (Order 4294967294) ∷ route_parts))
        (after_word 3 (codes "seq" ∷ word ∷ ws) (with_value (λ w. record (no_values false) { text = w }) (tested b name))))) unnamed) ∙ complete) refl

prefix-parts : (list other : List ℕ) (o p : Option ℕ) (e f : RouteText) → PrefixLine list o e ≡ PrefixLine other p f → (list ≡ other) × (e ≡ f)
prefix-parts list other o p e f is = (cc, cc)

no-sequence : (name : List ℕ) (ws : List (List ℕ)) → bytes_eq name (codes "sequence-number") ≡ false → matches (codes "ip" ∷ codes "prefix-list" ∷ name ∷ ws) sequence_number ≡ false
no-sequence name ws other = ap (λ b. option_map_or (match_words (Anything ∷ [])) (cond b (Some ws) None) false) other

pub prefix-lines-renumbered : PrefixLinesMayBeRenumbered
prefix-lines-renumbered name word list ws n m e reads ranged =
    let small : m < 2 ^ 64 = let most = ranged.1 in omega arith in
    let old_words = codes "ip" ∷ codes "prefix-list" ∷ name ∷ codes "seq" ∷ word ∷ ws in
    let tail = codes "seq" ∷ decimal m ∷ ws in
    let words = codes "ip" ∷ codes "prefix-list" ∷ name ∷ tail in
    let by = prefix-by old_words list (Some n) e reads in
    let other : bytes_eq name (codes "sequence-number") ≡ false = named-other name (codes "seq" ∷ word ∷ ws) by.none in
    let complete : read false old_words prefix_row ≡ Ok reads.values = ap (read false old_words) (sym by.rule) ∙ reads.complete in
    let given : PrefixLine list (Some n) e ≡ give means.PrefixLine reads.values = reads.gives ∙ ap (λ (r : Rule). give r.meaning reads.values) by.rule in
    let parts = prefix-parts list reads.values.text (Some n) reads.values.order e _ given in
    let old = sequence-read name word ws reads.values complete in
    let v = record (no_values false) { text = name } in
    let matched : matches old_words prefix_row ≡ true = matches-by false old_words prefix_row (matches old_words prefix_row) refl by.completed in
    let again : finish (read_parts route_parts (at 5 ws (record v { order = Some m }))) ≡ Ok (changed (to_order (Some m)) reads.values) =
    read-kept (to_order (Some m)) route_parts (at 5 ws (record v { order = Some old.number })) refl ∙ ap (map_values (to_order (Some m))) old.rest_read in
    reads-at false words (rows blocks.Top) 81 prefix_row [] (changed (to_order (Some m)) reads.values) (PrefixLine list (Some m) e) refl
    (none-split (completes false words) (take 61 (rows blocks.Top)) sequence_number (take 19 (drop 62 (rows blocks.Top))) refl
    (fails-by false words sequence_number (no-sequence name tail other)) refl)
    matched
    (ap finish (chain (Place Name) (Bracket (codes "seq") (Order 4294967294) ∷ route_parts) (at 2 (name ∷ tail) (no_values false)) (at 3 tail v) (name-step 2 name tail (no_values false) old.named)
    ∙ chain (Bracket (codes "seq") (Order 4294967294)) route_parts (at 3 tail v) (at 5 ws (record v { order = Some m })) (order-step 4294967294 4 m ws v ranged.0 ranged.1 small)) ∙ again)
    (ap (λ l. PrefixLine l (Some m) e) parts.0 ∙ ap (PrefixLine reads.values.text (Some m)) parts.1)

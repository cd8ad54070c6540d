-- The lines of lists that stand as lines are top lines that open no block.
use Rattle.std.proofs.Common.{◌≡◌, ℕ, ◌||◌, ◌&&◌, not, Bool, true, false, if◌then◌else◌, cond, Some, None, List, [], ◌∷◌, ◌++◌, refl, sym, ap, subst, ◌∙◌, ⊎_elim, codes, find}
use Rattle.std.specs.Prelude.{bytes_eq, is_ok}
use Rattle.std.specs.Option.{option_map_or}
use Rattle.std.specs.List.{list_any, list_all, starts_with}
use Rattle.std.proofs.lemmas.Bool.{cases_Bool, false≢true, true≢false, cond-true, cond-false}
use Rattle.std.proofs.lemmas.Option.{none-some, same_Some}
use Rattle.std.proofs.lemmas.Slice.Eq.{bytes_eq-Decides}
use Rattle.ios_lines.specs.Kinds.{opens_block, single_heads}
use Rattle.ios_words.specs.declared.commands.Command.{Command}
use Rattle.ios_words.specs.declared.kinds.BlockKind.TheVariants as kinds
use Rattle.ios_words.specs.declared.rows.Meaning.{Meaning}
use Rattle.ios_words.specs.declared.rows.Meaning.TheVariants as means
use Rattle.ios_words.specs.Commands.{completes, ReadBy}
use Rattle.ios_words.specs.declared.rows.Form.TheVariants.{ListNumber, Name, Order}
use Rattle.ios_words.specs.Language.{rows, fixed}
use Rattle.ios_words.specs.ListLines.{is_list_line, ListLinesAreTopLines}
use Rattle.ios_words.specs.Meanings.{give}
use Rattle.ios_words.specs.Readings.{match_words, matches, read}
use Rattle.ios_words.specs.Rows.{Rule, row, Word, Verdict, Place, Bracket, Flag, Protocol, Source, Destination, Ports}
use Rattle.ios_words.specs.Values.{Values}
use Rattle.ios_words.proofs.Heads.{find-passes}
use Rattle.ios_words.proofs.RenumberedLines.{prefix_row, route_parts}

-- whether a row of this meaning, and a command, is a line of a list that stands as lines
abbrev lists : Meaning → Bool
lists means.ListLine = true
lists means.PrefixLine = true
lists _ = false

lists-give : (meaning : Meaning) (values : Values) → is_list_line (give meaning values) ≡ lists meaning
lists-give means.ListLine values = refl
lists-give means.PrefixLine values = refl
lists-give _ values = refl

abbrev lists_no : Rule → Bool
lists_no r = not (lists r.meaning)

inner-none : (extended : Bool) (ws : List (List ℕ)) (rules : List Rule) (command : Command) → ReadBy extended ws rules command → list_all lists_no rules ≡ true → is_list_line command ≡ true → ⊥
inner-none extended ws rules command reads all is =
    let passes : not (lists reads.rule.meaning) ≡ true = find-passes _ lists_no rules reads.rule reads.first all in
    let own : lists reads.rule.meaning ≡ true = sym (lists-give reads.rule.meaning reads.values) ∙ ap is_list_line (sym reads.gives) ∙ is in
    true≢false (sym passes ∙ ap not own)

-- what is found passes the test
found-test : {X : Type 0} (p : X → Bool) (xs : List X) (x : X) → find p xs ≡ Some x → p x ≡ true
found-test p [] x is = absurd (none-some x is)
found-test p (y ∷ xs) x is = ⊎_elim
    (λ here. subst (λ r. p r ≡ true) (same_Some y x (sym (cond-true (p y) (Some y) (find p xs) here) ∙ is)) here)
    (λ other. found-test p xs x (sym (cond-false (p y) (Some y) (find p xs) other) ∙ is))
    (cases_Bool (p y))

if-true : (a b : Bool) → (if a then b else false) ≡ true → a ≡ true
if-true true b is = refl
if-true false b is = absurd (false≢true is)

-- whether a row is no such line, or does not match the words
abbrev no_list : List (List ℕ) → Rule → Bool
no_list ws r = not (lists r.meaning && matches ws r)

none-lists : (ws : List (List ℕ)) (command : Command) → list_all (no_list ws) (rows kinds.Top) ≡ true → ReadBy false ws (rows kinds.Top) command → is_list_line command ≡ true → ⊥
none-lists ws command all reads is =
    let matched : matches ws reads.rule ≡ true = if-true (matches ws reads.rule) (is_ok (read false ws reads.rule)) (found-test (completes false ws) (rows kinds.Top) reads.rule reads.first) in
    let own : lists reads.rule.meaning ≡ true = sym (lists-give reads.rule.meaning reads.values) ∙ ap is_list_line (sym reads.gives) ∙ is in
    let passes : not (lists reads.rule.meaning && matches ws reads.rule) ≡ true = find-passes (completes false ws) (no_list ws) (rows kinds.Top) reads.rule reads.first all in
    false≢true (sym (ap (λ (t : Bool). not (t && matches ws reads.rule)) own ∙ ap (λ (t : Bool). not t) matched) ∙ passes)

flipped : (a b : List ℕ) → bytes_eq a b ≡ false → bytes_eq b a ≡ false
flipped a b other = ⊎_elim
    (λ same. absurd (false≢true (sym other ∙ (bytes_eq-Decides a b).1 (sym ((bytes_eq-Decides b a).0 same)))))
    (λ none. none)
    (cases_Bool (bytes_eq b a))

-- the rows of such lines
abbrev list_row : Rule
list_row = row (fixed (codes "access-list") ++ Place ListNumber ∷ Verdict ∷ Protocol ∷ Source ∷ Destination ∷ Ports ∷ Flag (codes "log") ∷ []) means.ListLine

no-row : (ws : List (List ℕ)) → matches ws list_row ≡ false → matches ws prefix_row ≡ false → list_all (no_list ws) (rows kinds.Top) ≡ true
no-row ws one two = λ i. not (one i) && (not (two i) && true)

not-either : (a b : Bool) → (a || b) ≡ false → (a ≡ false) × (b ≡ false)
not-either true b e = absurd (true≢false e)
not-either false b e = (refl, e)

and-true : (a : Bool) → (a && true) ≡ false → a ≡ false
and-true true e = absurd (true≢false e)
and-true false e = refl

opened-by : (t : Bool) → (if t then false else true) ≡ true → t ≡ false
opened-by true e = absurd (false≢true e)
opened-by false e = refl

-- words that open a block are no list's
heads-no-list : (ws : List (List ℕ)) (command : Command) → opens_block ws ≡ true → ReadBy false ws (rows kinds.Top) command → is_list_line command ≡ true → ⊥
heads-no-list [] command opens reads is = none-lists [] command refl reads is
heads-no-list (w ∷ []) command opens reads is =
    let heads = opened-by (list_any (λ head. starts_with bytes_eq (w ∷ []) head) single_heads) opens in
    let later = not-either (starts_with bytes_eq (w ∷ []) (codes "hostname" ∷ [])) _ heads in
    let access = not-either (starts_with bytes_eq (w ∷ []) (codes "access-list" ∷ [])) _ later.1 in
    let one : bytes_eq w (codes "access-list") ≡ false = flipped (codes "access-list") w (and-true (bytes_eq (codes "access-list") w) access.0) in
    none-lists (w ∷ []) command (no-row (w ∷ []) (list-not w [] one) (prefix-alone w)) reads is
  where
    list-not : (w : List ℕ) (r : List (List ℕ)) → bytes_eq w (codes "access-list") ≡ false → matches (w ∷ r) list_row ≡ false
    list-not w r one = ap (λ b. option_map_or (match_words (Place ListNumber ∷ Verdict ∷ Protocol ∷ Source ∷ Destination ∷ Ports ∷ Flag (codes "log") ∷ [])) (cond b (Some r) None) false) one

    prefix-alone : (w : List ℕ) → matches (w ∷ []) prefix_row ≡ false
    prefix-alone w = by (bytes_eq w (codes "ip"))
      where
        by : (b : Bool) → option_map_or (match_words (Word (codes "prefix-list") ∷ Place Name ∷ Bracket (codes "seq") (Order 4294967294) ∷ route_parts)) (cond b (Some []) None) false ≡ false
        by true = refl
        by false = refl
heads-no-list (w ∷ v ∷ r) command opens reads is =
    let heads = opened-by (list_any (λ head. starts_with bytes_eq (w ∷ v ∷ r) head) single_heads) opens in
    let later = not-either (starts_with bytes_eq (w ∷ v ∷ r) (codes "hostname" ∷ [])) _ heads in
    let access = not-either (starts_with bytes_eq (w ∷ v ∷ r) (codes "access-list" ∷ [])) _ later.1 in
    let prefix = not-either (starts_with bytes_eq (w ∷ v ∷ r) (codes "ip" ∷ codes "prefix-list" ∷ [])) false access.1 in
    let one : bytes_eq w (codes "access-list") ≡ false = flipped (codes "access-list") w (and-true (bytes_eq (codes "access-list") w) access.0) in
    none-lists (w ∷ v ∷ r) command (no-row (w ∷ v ∷ r) (list-not one) (prefix-not prefix.0)) reads is
  where
    list-not : bytes_eq w (codes "access-list") ≡ false → matches (w ∷ v ∷ r) list_row ≡ false
    list-not one = ap (λ b. option_map_or (match_words (Place ListNumber ∷ Verdict ∷ Protocol ∷ Source ∷ Destination ∷ Ports ∷ Flag (codes "log") ∷ [])) (cond b (Some (v ∷ r)) None) false) one

    prefix-not : (bytes_eq (codes "ip") w && (bytes_eq (codes "prefix-list") v && true)) ≡ false → matches (w ∷ v ∷ r) prefix_row ≡ false
    prefix-not none = by (bytes_eq w (codes "ip")) refl
      where
        second : (c : Bool) → c ≡ false → option_map_or (match_words (Place Name ∷ Bracket (codes "seq") (Order 4294967294) ∷ route_parts)) (cond c (Some r) None) false ≡ false
        second true e = absurd (true≢false e)
        second false e = refl

        by : (b : Bool) → bytes_eq w (codes "ip") ≡ b →
            option_map_or (match_words (Word (codes "prefix-list") ∷ Place Name ∷ Bracket (codes "seq") (Order 4294967294) ∷ route_parts)) (cond b (Some (v ∷ r)) None) false ≡ false
        by false e = refl
        by true e =
            let same : bytes_eq (codes "ip") w ≡ true = (bytes_eq-Decides (codes "ip") w).1 (sym ((bytes_eq-Decides w (codes "ip")).0 e)) in
            let rest : bytes_eq (codes "prefix-list") v ≡ false = and-true (bytes_eq (codes "prefix-list") v) (sym (ap (λ (b : Bool). b && (bytes_eq (codes "prefix-list") v && true)) same) ∙ none) in
            second (bytes_eq v (codes "prefix-list")) (flipped (codes "prefix-list") v rest)

closed-or : (ws : List (List ℕ)) (command : Command) → ReadBy false ws (rows kinds.Top) command → is_list_line command ≡ true → opens_block ws ≡ false
closed-or ws command reads is = ⊎_elim (λ opens. absurd (heads-no-list ws command opens reads is)) (λ closed. closed) (cases_Bool (opens_block ws))

pub list-lines-top : ListLinesAreTopLines
list-lines-top kinds.Top ws command reads is = (refl, closed-or ws command reads is)
list-lines-top kinds.Interface ws command reads is = absurd (inner-none false ws (rows kinds.Interface) command reads refl is)
list-lines-top kinds.Ospf ws command reads is = absurd (inner-none false ws (rows kinds.Ospf) command reads refl is)
list-lines-top kinds.Bgp ws command reads is = absurd (inner-none false ws (rows kinds.Bgp) command reads refl is)
list-lines-top kinds.Extended ws command reads is = absurd (inner-none true ws (rows kinds.Extended) command reads refl is)
list-lines-top kinds.Standard ws command reads is = absurd (inner-none false ws (rows kinds.Standard) command reads refl is)
list-lines-top kinds.Inert ws command reads is = absurd (inner-none false ws (rows kinds.Inert) command reads refl is)

-- A row finds no other fault of a line than a word's.
use Rattle.std.proofs.Common.{◌≡◌, ℕ, Bool, true, false, cond, List, [], ◌∷◌, Result, Ok, Err, not, ◌&&◌, IsTrue, refl, subst, codes}
use Rattle.ios_words.specs.declared.kinds.Flaw.{Flaw}
use Rattle.ios_words.specs.declared.kinds.Flaw.TheVariants.{Amiss, Scattered}
use Rattle.ios_words.specs.declared.kinds.WordFault.{WordFault}
use Rattle.ios_words.specs.declared.kinds.WordFault.TheVariants.{Unknown, BadWord, WildcardNotPrefix, Memory}
use Rattle.ios_words.specs.declared.rows.Form.{Form}
use Rattle.ios_words.specs.declared.rows.Form.TheVariants.{Host, Address, Wildcard, Order, Port, FirstPort, LastPort}
use Rattle.ios_words.specs.Readings.{State, begins, begins_entry, after_word, next_word, place, passed, then_do, stands_alone}
use Rattle.ios_words.specs.Readings.{width, side, as_source, ports, step, read_parts, finish_words, finish, start, read}
use Rattle.ios_words.specs.Rows.{Piece, Word, Verdict, Place, Bracket, Flag, EntryNumber, Protocol, Source, Destination, Ports, Anything, Rule}
use Rattle.ios_words.specs.Services.{protocol, has_ports}
use Rattle.ios_words.specs.Values.{Values}

-- whether a fault is a word's
abbrev pub is_words : WordFault → Bool
is_words Unknown = false
is_words (BadWord place) = true
is_words WildcardNotPrefix = true
is_words Memory = false

-- the fault, where there is one, is a word's
abbrev pub OnlyWords : {A : Type 0} → Result A WordFault → Type 0
OnlyWords (Ok a) = Unit {0}
OnlyWords (Err fault) = IsTrue (is_words fault)

after_word-only : (place : ℕ) (words : List (List ℕ)) (r : Result Values Flaw) → OnlyWords (after_word place words r)
after_word-only place words (Ok values) = tt
after_word-only place words (Err Amiss) = refl
after_word-only place words (Err Scattered) = refl

next_word-only : (give : List ℕ → Result Values Flaw) (taken : ℕ) (words : List (List ℕ)) → OnlyWords (next_word give taken words)
next_word-only give taken [] = refl
next_word-only give taken (word ∷ words) = after_word-only _ words (give word)

place-only : (form : Form) (s : State) → OnlyWords (place form s)
place-only form s = next_word-only _ s.taken s.words

if-only : (b : Bool) (x y : Result State WordFault) → OnlyWords x → OnlyWords y → OnlyWords (cond b x y)
if-only true x y p q = p
if-only false x y p q = q

then-only : (next : State → Result State WordFault) (r : Result State WordFault) → ((s : State) → OnlyWords (next s)) → OnlyWords r → OnlyWords (then_do next r)
then-only next (Ok s) p q = p s
then-only next (Err fault) p q = q

width-only : (extended : Bool) (s : State) → OnlyWords (width extended s)
width-only extended s = if-only (not extended && stands_alone s.words) _ _ tt (place-only Wildcard s)

side-only : (extended : Bool) (s : State) → OnlyWords (side extended s)
side-only extended s = if-only (begins (codes "any") s.words) _ _ tt
    (if-only (begins (codes "host") s.words) _ _ (place-only Host (passed s)) (then-only (width extended) (place Address s) (width-only extended) (place-only Address s)))

ports-only : (s : State) → OnlyWords (ports s)
ports-only s = if-only (begins (codes "eq") s.words) _ _ (place-only Port (passed s))
    (if-only (begins (codes "range") s.words) _ _ (then-only (place LastPort) (place FirstPort (passed s)) (place-only LastPort) (place-only FirstPort (passed s))) tt)

step-only : (piece : Piece) (s : State) → OnlyWords (step piece s)
step-only (Word word) s = next_word-only _ s.taken s.words
step-only Verdict s = next_word-only _ s.taken s.words
step-only (Place form) s = place-only form s
step-only (Bracket word form) s = if-only (begins word s.words) _ _ (place-only form (passed s)) tt
step-only (Flag word) s = if-only (begins word s.words) _ _ tt tt
step-only EntryNumber s = if-only (begins_entry s.words) _ _ tt (place-only (Order 2147483647) s)
step-only Protocol s = if-only s.values.extended _ _ (next_word-only _ s.taken s.words) tt
step-only Source s = then-only as_source (side s.values.extended s) (λ s'. tt) (side-only s.values.extended s)
step-only Destination s = if-only s.values.extended _ _ (side-only true s) tt
step-only Ports s = if-only (has_ports (protocol s.values.services.low)) _ _ (ports-only s) tt
step-only Anything s = tt

parts-only : (pieces : List Piece) (s : State) → OnlyWords (read_parts pieces s)
parts-only [] s = tt
parts-only (piece ∷ pieces) s = then-only (read_parts pieces) (step piece s) (parts-only pieces) (step-only piece s)

words-only : (s : State) (words : List (List ℕ)) → OnlyWords (finish_words s words)
words-only s [] = tt
words-only s (word ∷ words) = refl

finish-only : (r : Result State WordFault) → OnlyWords r → OnlyWords (finish r)
finish-only (Ok s) p = words-only s s.words
finish-only (Err fault) p = p

pub read-only : (extended : Bool) (words : List (List ℕ)) (rule : Rule) → OnlyWords (read extended words rule)
read-only extended words rule = finish-only (read_parts rule.pieces (start extended words)) (parts-only rule.pieces (start extended words))

pub read-fault : (extended : Bool) (words : List (List ℕ)) (rule : Rule) (fault : WordFault) → read extended words rule ≡ Err fault → IsTrue (is_words fault)
read-fault extended words rule fault e = let P : Result Values WordFault → Type 0 = λ r. OnlyWords r in subst P e (read-only extended words rule)

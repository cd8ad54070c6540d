-- How a line is read by a row: whether the row matches, and what its words give or which word is
-- faulty.
use Rattle.std.specs.Prelude.{ℕ, ◌+◌, ◌&&◌, ◌||◌, Bool, true, false, not, List, [], ◌∷◌, codes}
use Rattle.std.specs.Prelude.{drop, Option, Some, None, Result, Ok, Err, if◌then◌else◌}
use Rattle.std.specs.Option.{option_map_or}
use Rattle.std.specs.Str.{bytes_eq}
use Rattle.ios_words.specs.declared.kinds.Flaw.{Flaw}
use Rattle.ios_words.specs.declared.kinds.Flaw.TheVariants.{Amiss, Scattered}
use Rattle.ios_words.specs.declared.kinds.WordFault.{WordFault}
use Rattle.ios_words.specs.declared.kinds.WordFault.TheVariants.{BadWord, WildcardNotPrefix}
use Rattle.ios_words.specs.declared.rows.Form.{Form}
use Rattle.ios_words.specs.declared.rows.Form.TheVariants.{Host, Address, Wildcard, Order, Port}
use Rattle.ios_words.specs.declared.rows.Form.TheVariants.{FirstPort, LastPort}
use Rattle.ios_words.specs.declared.rows.Form.TheVariants as forms
use Rattle.ios_words.specs.Prefixes.{holding, whole}
use Rattle.ios_words.specs.Rows.{Piece, Word, Verdict, Place, Bracket, Flag, EntryNumber, Protocol}
use Rattle.ios_words.specs.Rows.{Source, Destination, Ports, Anything, Rule}
use Rattle.ios_words.specs.Services.{protocol, has_ports}
use Rattle.ios_words.specs.Values.{Values, values_with, no_values}

-- whether the words begin with this one
abbrev pub begins : List ℕ → List (List ℕ) → Bool
begins word [] = false
begins word (w ∷ words) = bytes_eq w word

-- whether the words begin with permit or deny
abbrev pub begins_verdict : List (List ℕ) → Bool
begins_verdict words = begins (codes "permit") words || begins (codes "deny") words

-- whether the words begin as an entry without a number does
abbrev pub begins_entry : List (List ℕ) → Bool
begins_entry words = begins_verdict words || begins (codes "remark") words

-- the words after a part of a row, where the line has the part's fixed words; no fixed word comes
-- after the last five
abbrev pub after : Piece → List (List ℕ) → Option (List (List ℕ))
after (Word word) words = if begins word words then Some (drop 1 words) else None
after Verdict words = if begins_verdict words then Some (drop 1 words) else None
after (Place form) words = Some (drop 1 words)
after (Bracket word form) words = Some (if begins word words then drop 2 words else words)
after (Flag word) words = Some (if begins word words then drop 1 words else words)
after EntryNumber words = Some (if begins_entry words then words else drop 1 words)
after Protocol words = Some []
after Source words = Some []
after Destination words = Some []
after Ports words = Some []
after Anything words = Some []

-- whether the words have the fixed words of these parts where the parts have them
abbrev pub match_words : List Piece → List (List ℕ) → Bool
match_words [] words = true
match_words (piece ∷ pieces) words = option_map_or (match_words pieces) (after piece words) false

-- whether the row matches the words
abbrev pub matches : List (List ℕ) → Rule → Bool
matches words rule = match_words rule.pieces words

-- where a line is read: how many words came before, which words are left, and what those before
-- gave
pub record State : Type 0 where
  pub taken : ℕ
  pub words : List (List ℕ)
  pub values : Values

-- what a flaw of the word at a place says of the line
abbrev pub fault_at : ℕ → Flaw → WordFault
fault_at place Amiss = BadWord place
fault_at place Scattered = WildcardNotPrefix

-- the state after a word that gave these values
abbrev pub after_word : ℕ → List (List ℕ) → Result Values Flaw → Result State WordFault
after_word place words (Ok values) = Ok (record { taken = place; words = words; values = values })
after_word place words (Err flaw) = Err (fault_at place flaw)

-- the state after the next word, which is read so; where none is left, the one after the last is
-- missing
abbrev pub next_word : (List ℕ → Result Values Flaw) → ℕ → List (List ℕ) → Result State WordFault
next_word give taken [] = Err (BadWord (taken + 1))
next_word give taken (word ∷ words) = after_word (taken + 1) words (give word)

-- the state after a word of the form
abbrev pub place : Form → State → Result State WordFault
place form s = next_word (values_with form s.values) s.taken s.words

-- the state after this word, or another, malformed one
abbrev pub this_word : List ℕ → State → Result State WordFault
this_word word s =
    next_word (λ w. if bytes_eq w word then Ok s.values else Err Amiss) s.taken s.words

-- whether an entry permits, by its word
abbrev pub permits : Values → List ℕ → Result Values Flaw
permits v word =
    if bytes_eq word (codes "permit") then Ok (record v { permit = true })
    else (if bytes_eq word (codes "deny") then Ok (record v { permit = false }) else Err Amiss)

-- the state after permit or deny
abbrev pub verdict : State → Result State WordFault
verdict s = next_word (permits s.values) s.taken s.words

-- the state with the next word passed over
abbrev pub passed : State → State
passed s = record s { taken = s.taken + 1; words = drop 1 s.words }

-- what follows, where a state was reached
abbrev pub then_do : (State → Result State WordFault) → Result State WordFault →
    Result State WordFault
then_do next (Ok s) = next s
then_do next (Err fault) = Err fault

-- whether no wildcard follows an address, in a standard list
abbrev pub stands_alone : List (List ℕ) → Bool
stands_alone [] = true
stands_alone (word ∷ words) = bytes_eq word (codes "log")

-- the state where the address that was read is one host
abbrev pub alone : State → State
alone s = record s { values = record s.values { to = holding s.values.address 32 } }

-- the state after the word for all addresses
abbrev pub any : State → State
any s = record s
    { taken = s.taken + 1; words = drop 1 s.words; values = record s.values { to = whole } }

-- the state after the wildcard of an address; in a standard list an address alone is one host
abbrev pub width : Bool → State → Result State WordFault
width extended s = if not extended && stands_alone s.words then Ok (alone s) else place Wildcard s

-- the state after any, host and an address, or an address and its wildcard
abbrev pub side : Bool → State → Result State WordFault
side extended s =
    if begins (codes "any") s.words then Ok (any s) else (if begins (codes "host") s.words
    then place Host (passed s) else then_do (width extended) (place Address s))

-- the side that was read is where packets come from
abbrev pub as_source : State → Result State WordFault
as_source s = Ok (record s { values = record s.values { from = s.values.to; to = whole } })

-- the state after eq and a port, or range and two ports, if one of these words comes here
abbrev pub ports : State → Result State WordFault
ports s =
    if begins (codes "eq") s.words then place Port (passed s)
    else (if begins (codes "range") s.words
    then then_do (place LastPort) (place FirstPort (passed s)) else Ok s)

-- the state after a part of a row
abbrev pub step : Piece → State → Result State WordFault
step (Word word) s = this_word word s
step Verdict s = verdict s
step (Place form) s = place form s
step (Bracket word form) s = if begins word s.words then place form (passed s) else Ok s
step (Flag word) s = if begins word s.words then Ok (passed s) else Ok s
step EntryNumber s = if begins_entry s.words then Ok s else place (Order 2147483647) s
step Protocol s = if s.values.extended then place forms.Protocol s else Ok s
step Source s = then_do as_source (side s.values.extended s)
step Destination s = if s.values.extended then side true s else Ok s
step Ports s = if has_ports (protocol s.values.services.low) then ports s else Ok s
step Anything s = Ok (record s { words = [] })

-- the state after these parts
abbrev pub read_parts : List Piece → State → Result State WordFault
read_parts [] s = Ok s
read_parts (piece ∷ pieces) s = then_do (read_parts pieces) (step piece s)

-- the values of a line whose words are all read; a word that is left is one too many
abbrev pub finish_words : State → List (List ℕ) → Result Values WordFault
finish_words s [] = Ok s.values
finish_words s (word ∷ words) = Err (BadWord (s.taken + 1))

abbrev pub finish : Result State WordFault → Result Values WordFault
finish (Err fault) = Err fault
finish (Ok s) = finish_words s s.words

-- what is known before the first word
abbrev pub start : Bool → List (List ℕ) → State
start extended words = record { taken = 0; words = words; values = no_values extended }

-- what the words give by a row that matches them: values where it matches with every word, and else
-- the fault of the first faulty word
abbrev pub read : Bool → List (List ℕ) → Rule → Result Values WordFault
read extended words rule = finish (read_parts rule.pieces (start extended words))

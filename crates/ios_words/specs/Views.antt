-- What the program's values mean.
use Rattle.std.specs.Prelude.{ℕ, Bool, true, false, List, Result, Ok, Err, decimal}
use Rattle.arc_base.specs.PrefixText.{address_text, prefix_text}
use Rattle.ios_words.specs.declared.kinds.BlockKind.{BlockKind}
use Rattle.ios_words.specs.declared.kinds.BlockKind.TheVariants.{Extended, Standard}
use Rattle.ios_words.specs.declared.kinds.WordFault.{WordFault}
use Rattle.ios_words.specs.declared.found.Found.{Found}
use Rattle.ios_words.specs.declared.printed_words.Word.{Word}
use Rattle.ios_words.specs.declared.printed_words.Word.TheVariants.{Text, Number, Address, Route}
use Rattle.ios_words.specs.declared.reading.Reader.{Reader}
use Rattle.ios_words.specs.declared.words.Words.{Words}
use Rattle.ios_words.specs.Readings.{State}
use Rattle.ios_words.specs.Spans.{words_at}
use Rattle.ios_words.specs.Values.{Values}
use Rattle.ios_words.specs.FoundValues.{values_of}

-- the words that are left
abbrev pub words_of : Words → List (List ℕ)
words_of w = words_at w.text.now w.spans.now

-- where a line is read
abbrev pub state_of : Reader → State
state_of r = record { taken = r.taken; words = words_of r.words; values = values_of r.found }

-- where a line is read next, or its fault
abbrev pub next_state : Result Reader WordFault → Result State WordFault
next_state (Ok reader) = Ok (state_of reader)
next_state (Err fault) = Err fault

-- what a whole line gave, or its fault
abbrev pub line_values : Result Found WordFault → Result Values WordFault
line_values (Ok found) = Ok (values_of found)
line_values (Err fault) = Err fault

-- a word, or fixed words, that are printed
abbrev pub text_of : Word → List ℕ
text_of (Text text) = text.now
text_of (Number number) = decimal number
text_of (Address address) = address_text address
text_of (Route prefix) = prefix_text prefix

-- the block of a list, extended or standard
abbrev pub list_block : Bool → BlockKind
list_block true = Extended
list_block false = Standard

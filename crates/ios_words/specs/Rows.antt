-- The parts of a row, as the table of the language writes them.
use Rattle.std.specs.Prelude.{ℕ, List, map}
use Rattle.ios_words.specs.declared.rows.Form.{Form}
use Rattle.ios_words.specs.declared.rows.Meaning.{Meaning}
use Rattle.ios_words.specs.declared.rows.Part.{Part}
use Rattle.ios_words.specs.declared.rows.Part.TheVariants as parts
use Rattle.ios_words.specs.declared.rows.Row.{Row}

-- a part of a row: this word; permit or deny; a word of a form; a word and one of a form after it,
-- or neither; a word, or nothing;
-- the number before an entry, or nothing; the word of a protocol in extended lists; where packets
-- come from; where they go to in extended lists; which ports they are for, after a protocol that
-- has ports, or nothing; any words
pub data Piece : Type 0 where
  Word : (word : List ℕ) → Piece
  Verdict : Piece
  Place : (form : Form) → Piece
  Bracket : (word : List ℕ) (form : Form) → Piece
  Flag : (word : List ℕ) → Piece
  EntryNumber : Piece
  Protocol : Piece
  Source : Piece
  Destination : Piece
  Ports : Piece
  Anything : Piece

-- a row of the language: its parts, and what it means
pub record Rule : Type 0 where
  pub pieces : List Piece
  pub meaning : Meaning

-- a row with these parts
abbrev pub row : List Piece → Meaning → Rule
row pieces meaning = record { pieces = pieces; meaning = meaning }

-- the part that the program's table writes so
abbrev pub piece_of : Part → Piece
piece_of (parts.Word word) = Word word.now
piece_of parts.Verdict = Verdict
piece_of (parts.Place form) = Place form
piece_of (parts.Option word form) = Bracket word.now form
piece_of (parts.Flag word) = Flag word.now
piece_of parts.EntryNumber = EntryNumber
piece_of parts.Protocol = Protocol
piece_of parts.Source = Source
piece_of parts.Destination = Destination
piece_of parts.Ports = Ports
piece_of parts.Anything = Anything

-- the row that the program's table writes so
abbrev pub rule_of : Row → Rule
rule_of r = record { pieces = map piece_of r.parts.now; meaning = r.meaning }

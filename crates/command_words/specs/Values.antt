-- The values that words are read as.
use Rattle.std.specs.Prelude.{ℕ, ◌==◌, ◌&&◌, nat_le, List, [], ◌∷◌, length, Option, Some, None}
use Rattle.std.specs.Prelude.{if◌then◌else◌, unwrap_or}
use Rattle.std.specs.List.{list_all, slice_split}
use Rattle.arc_base.specs.declared.limits.TheConstants.{ROUTER_LIMIT}
use Rattle.arc_base.specs.Cuts.{cut_at}
use Rattle.arc_base.specs.Options.{◌>>=◌}
use Rattle.arc_base.specs.NameForms.{is_name}
use Rattle.arc_base.specs.PrefixText.{address_of, number_of}
use Rattle.arc_base.specs.WordNumbers.{natural}
use Rattle.command_words.specs.declared.values.Fault.{Fault}
use Rattle.command_words.specs.declared.values.Fault.TheVariants.{NotPrefix, PastBits}
use Rattle.command_words.specs.declared.values.TheConstants.{LAST_LINK}

-- what is wrong with a word that is no prefix: it has bits past its length, or is not an address
-- and a length
abbrev pub prefix_fault : List ℕ → Fault
prefix_fault word = unwrap_or (do
  parts ← cut_at 47 word
  address ← address_of parts.0
  length ← number_of parts.1
  if nat_le length 32 then Some (PastBits address length) else None) NotPrefix

-- a number of 1 to 10 decimal digits in a range; zeros may lead
abbrev pub number_within : ℕ → ℕ → List ℕ → Option ℕ
number_within least most word = do
  number ← natural most word
  if nat_le (length word) 10 && nat_le least number then Some number else None

-- the number of a link
abbrev pub link_number : List ℕ → Option ℕ
link_number word = number_within 1 LAST_LINK word

-- the numbers of all these words, where each has one
abbrev pub all_numbers : List (List ℕ) → Option (List ℕ)
all_numbers [] = Some []
all_numbers (word ∷ words) = do
  number ← link_number word
  numbers ← all_numbers words
  Some (number ∷ numbers)

-- the words that commas join
abbrev pub comma_words : List ℕ → List (List ℕ)
comma_words text = slice_split (λ b. b == 44) text

-- the numbers of links that commas join
abbrev pub link_numbers : List ℕ → Option (List ℕ)
link_numbers text = all_numbers (comma_words text)

-- the names of routers that commas join, at most ROUTER_LIMIT
abbrev pub router_names : List ℕ → Option (List (List ℕ))
router_names text =
    if nat_le (length (comma_words text)) ROUTER_LIMIT && list_all is_name (comma_words text)
    then Some (comma_words text) else None

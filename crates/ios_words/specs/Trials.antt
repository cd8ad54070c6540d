-- The rows tried one after another.
use Rattle.std.specs.Prelude.{◌≡◌, ℕ, find, Bool, List, [], ◌∷◌, Option, Some, None, Result, Ok}
use Rattle.std.specs.Prelude.{Err, if◌then◌else◌, unwrap_or, nat_le, length}
use Rattle.ios_words.specs.declared.commands.Command.{Command}
use Rattle.ios_words.specs.declared.found.Found.{Found}
use Rattle.ios_words.specs.declared.kinds.WordFault.{WordFault}
use Rattle.ios_words.specs.declared.kinds.WordFault.TheVariants.{Unknown}
use Rattle.ios_words.specs.declared.rows.Meaning.{Meaning}
use Rattle.ios_words.specs.Commands.{completes}
use Rattle.ios_words.specs.Meanings.{give}
use Rattle.ios_words.specs.Readings.{matches, read}
use Rattle.ios_words.specs.Rows.{Rule}
use Rattle.ios_words.specs.Values.{Values}
use Rattle.ios_words.specs.Views.{line_values}

-- what a row says of the words, where it matches
abbrev pub trial : Bool → List (List ℕ) → Rule → Option (Result Values WordFault)
trial extended words rule = if matches words rule then Some (read extended words rule) else None

-- what a program found of a row
abbrev pub trial_of : Option (Result Found WordFault) → Option (Result Values WordFault)
trial_of None = None
trial_of (Some result) = Some (line_values result)

-- the result after a trial: the row's command, or the result of the rows after it; the first fault
-- is kept
abbrev pub choose : Meaning → (Option WordFault → Result Command WordFault) → Option WordFault →
    Option (Result Values WordFault) → Result Command WordFault
choose meaning go fault None = go fault
choose meaning go fault (Some (Ok values)) = Ok (give meaning values)
choose meaning go fault (Some (Err other)) = go (Some (unwrap_or fault other))

-- what the rows say of the words where those before had this fault
abbrev pub try_rules : Bool → List (List ℕ) → Option WordFault → List Rule →
    Result Command WordFault
try_rules extended words fault [] = Err (unwrap_or fault Unknown)
try_rules extended words fault (rule ∷ rules) =
    choose rule.meaning (λ first. try_rules extended words first rules) fault
    (trial extended words rule)

-- whether a row has few parts
abbrev pub is_short : Rule → Bool
is_short rule = nat_le (length rule.pieces) 100

-- the rows say the same of the words as the others
pub record SaysTheSame (words : List (List ℕ)) (rules others : List Rule) : Type 0 where
  pub matching : find (matches words) rules ≡ find (matches words) others
  pub completing : (extended : Bool) →
      find (completes extended words) rules ≡ find (completes extended words) others

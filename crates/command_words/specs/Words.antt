-- What the words that follow a command's name give it. Options may come before, between and after
-- the positional words. An option is written `--NAME=VALUE` or `--NAME VALUE`.
use Rattle.std.specs.Prelude.{ℕ, Bool, true, not, ◌==◌, ◌&&◌, List, [], ◌∷◌, map, Option, Some}
use Rattle.std.specs.Prelude.{None, is_some, option_map, option_and_then, bytes_eq, if◌then◌else◌}
use Rattle.std.specs.List.{list_any, before_first, after_first}

-- a word by the hyphens that it begins with
pub data Form : Type 0 where
  -- it begins with none, or is `-` alone
  plain : Form
  -- it begins with one, and is more than that
  hyphened : Form
  -- it is `--` alone
  end : Form
  -- it begins with two, and this follows them
  long : List ℕ → Form

abbrev pub after_two : List ℕ → Form
after_two [] = end
after_two (byte ∷ bytes) = long (byte ∷ bytes)

abbrev pub after_one : List ℕ → Form
after_one [] = plain
after_one (byte ∷ bytes) = if byte == 45 then after_two bytes else hyphened

abbrev pub form_of : List ℕ → Form
form_of [] = plain
form_of (byte ∷ bytes) = if byte == 45 then after_one bytes else plain

-- the name in `NAME` or `NAME=VALUE`
abbrev pub name_in : List ℕ → List ℕ
name_in text = before_first (λ byte. byte == 61) text

-- the value in `NAME=VALUE`
abbrev pub value_in : List ℕ → Option (List ℕ)
value_in text =
    if list_any (λ byte. byte == 61) text
    then Some (after_first (λ byte. byte == 61) text) else None

-- what a command is given: a positional word, or an option with its value
pub data Given : Type 0 where
  positional : List ℕ → Given
  option : List ℕ → List ℕ → Given

abbrev pub then_more : Given → Option (List Given) → Option (List Given)
then_more given more = option_map (λ later. given ∷ later) more

-- the option has a name of the command's, and its value is in the same word, or is the next word
abbrev pub option_gives : Bool → List ℕ → Option (List ℕ) →
    (Option (List ℕ) → Option (List Given)) → Option (List Given)
option_gives known name (Some value) more =
    if known then then_more (option name value) (more None) else None
option_gives known name None more = if known then more (Some name) else None

abbrev pub names_one : List (List ℕ) → List ℕ → Bool
names_one options name = list_any (λ known. bytes_eq known name) options

-- a word where no option waits for its value: after `--` each word is positional
abbrev pub word_gives : List (List ℕ) → List ℕ → Form → List (List ℕ) →
    (Option (List ℕ) → Option (List Given)) → Option (List Given)
word_gives options word plain rest more = then_more (positional word) (more None)
word_gives options word hyphened rest more = None
word_gives options word end rest more = Some (map positional rest)
word_gives options word (long text) rest more =
    option_gives (names_one options (name_in text)) (name_in text) (value_in text) more

-- the word where the option of this name waits for its value
abbrev pub value_gives : List ℕ → List ℕ → Form →
    (Option (List ℕ) → Option (List Given)) → Option (List Given)
value_gives name word plain more = then_more (option name word) (more None)
value_gives name word _ more = None

-- what the words give, in order, where an option may wait for its value; none where a word is no
-- option and no positional word, or an option has no value
abbrev pub given_by : List (List ℕ) → List (List ℕ) → Option (List ℕ) → Option (List Given)
given_by options [] None = Some []
given_by options [] (Some name) = None
given_by options (word ∷ rest) None =
    word_gives options word (form_of word) rest (given_by options rest)
given_by options (word ∷ rest) (Some name) =
    value_gives name word (form_of word) (given_by options rest)

-- the positional words
abbrev pub positionals : List Given → List (List ℕ)
positionals [] = []
positionals (positional word ∷ rest) = word ∷ positionals rest
positionals (option name value ∷ rest) = positionals rest

-- the value of an option
abbrev pub value_of : List ℕ → List Given → Option (List ℕ)
value_of name [] = None
value_of name (positional word ∷ rest) = value_of name rest
value_of name (option other value ∷ rest) =
    if bytes_eq other name then Some value else value_of name rest

-- no option occurs twice
abbrev pub is_once : List Given → Bool
is_once [] = true
is_once (positional word ∷ rest) = is_once rest
is_once (option name value ∷ rest) = not (is_some (value_of name rest)) && is_once rest

-- what the words give to a command with options of these names
abbrev pub arguments_of : List (List ℕ) → List (List ℕ) → Option (List Given)
arguments_of options words =
    option_and_then (λ given. if is_once given then Some given else None)
    (given_by options words None)

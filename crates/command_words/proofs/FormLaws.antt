-- `clap` refuses the words exactly where they match no command, but for the values' readers, and else it finds what they give.
use Rattle.std.proofs.Common.{◌≡◌, ◌∙◌, ℕ, zero, suc, ◌==◌, ◌&&◌, ◌||◌, ◌++◌, Bool, true, false, List, []}
use Rattle.std.proofs.Common.{◌∷◌, length, Option, Some, None, refl, sym, ap, subst, slice_get, if◌then◌else◌, option_and_then, is_some, nat_le, arith}
use Rattle.std.specs.List.{AllByRecursion, list_all}
use Rattle.std.specs.Str.{bytes_eq, is_utf8}
use Rattle.std.proofs.lemmas.Bool.{and_parts, eqb-true, leb-true}
use Rattle.std.proofs.lemmas.Slice.Eq.{bytes_eq-Decides}
use Rattle.clap.specs.Walk.{Row, Rule, Text, first_of, nothing_held, rows_after}
use Rattle.clap.specs.Faults.{level_fault}
use Rattle.clap.specs.Kinds.{Kinds}
use Rattle.command_words.specs.Words.{Given, arguments_of, names_one, positionals, value_of}
use Rattle.command_words.specs.Commands.{Form, Look, argument_of, command_by, meaning, options_of, word_at}
use Rattle.command_words.specs.declared.commands.Command.{Command}
use Rattle.command_words.proofs.Entering.{form_rules, form_shape}
use Rattle.command_words.proofs.Levels.{Level, Values, is_whole, level, level_law, rows, whole}
use Rattle.command_words.proofs.Readings.{are_apart, one_of_both, reads}
use Rattle.command_words.proofs.Rules.{Reads}

-- where `clap` refuses the words mean nothing, and else they mean what it found
pub record Answer (kinds : Kinds) (found meant : Option Command) : Type 0 where
  pub taken : kinds ≡ [] → found ≡ meant
  pub refused : (kinds ≡ [] → ⊥) → meant ≡ None

-- a command answers, where it reads what was found as it reads what the words give
module _ (title : Text) (c : List Rule) (ids options needed : List Text) (r : Reads c ids options needed) (by : List Given → Option Command) (matched : List Row → Option Command)
    (fits : (words : List Text) (given : List Given) → is_whole title c ids options needed r given ≡ true → Values title c ids options needed r words given
    → matched (rows title c ids options needed r words) ≡ by given) where
  answers : (words : List Text) → list_all is_utf8 words ≡ true → Answer (level title c ids options needed r words) (matched (rows title c ids options needed r words))
      (option_and_then (λ given. if is_whole title c ids options needed r given then by given else None) (arguments_of options words))
  answers words texts = go (arguments_of options words) (level_law title c ids options needed r words texts)
    where
      some : (given : List Given) (t : Bool) → is_whole title c ids options needed r given ≡ t → Level title c ids options needed r words (if t then Some given else None)
          → Answer (level title c ids options needed r words) (matched (rows title c ids options needed r words)) (if t then by given else None)
      some given true same v = record { taken = λ e. fits words given same v; refused = λ h. absurd (h v.passes) }
      some given false apart h = record { taken = λ e. absurd (h e); refused = λ no. refl }

      go : (o : Option (List Given)) → Level title c ids options needed r words (whole title c ids options needed r o)
          → Answer (level title c ids options needed r words) (matched (rows title c ids options needed r words))
          (option_and_then (λ given. if is_whole title c ids options needed r given then by given else None) o)
      go None h = record { taken = λ e. absurd (h e); refused = λ no. refl }
      go (Some given) h = some given (is_whole title c ids options needed r given) refl h

-- ---- a command of the table

-- the words that follow its name
abbrev form_level : Form → List Text → Kinds
form_level form words = level_fault (form_shape form) [] nothing_held words false []

abbrev form_rows : Form → List Text → List Row
form_rows form words = rows_after (form_rules form) [] words

-- what `clap` makes of them is what they mean
abbrev pub Law : Form → Type 0
Law form = (words : List Text) → list_all is_utf8 words ≡ true → Answer (form_level form words) (command_by form.kind (λ name. first_of name (form_rows form words))) (meaning form words)

-- the names of its places and options
abbrev names_of : Form → List Text
names_of form = form.places ++ options_of form

-- the command that it reads depends on the values of its places and options alone
abbrev pub Depends : Form → Type 0
Depends form = (f g : Look) → ((name : Text) → names_one (names_of form) name ≡ true → f name ≡ g name) → command_by form.kind f ≡ command_by form.kind g

-- the words in its places are found by their names
found_by_place : (places words : List Text) (look : Look) (name : Text) → length words ≡ length places
    → ((j : ℕ) (id : Text) → slice_get places j ≡ Some id → look id ≡ slice_get words j) → names_one places name ≡ true → look name ≡ word_at places words name
found_by_place [] words look name same at known = absurd (cc)
found_by_place (place ∷ places) [] look name same at known = absurd (cc)
found_by_place (place ∷ places) (word ∷ words) look name same at known =
    go (bytes_eq place name) refl (found_by_place places words look name (omega (arith, same)) (λ j id here. at (suc j) id here)) known
  where
    go : (t : Bool) → bytes_eq place name ≡ t → (names_one places name ≡ true → look name ≡ word_at places words name) → (t || names_one places name) ≡ true
        → look name ≡ (if t then Some word else word_at places words name)
    go true e later known = subst (λ (n : Text). look n ≡ Some word) ((bytes_eq-Decides place name).0 e) (at 0 place refl)
    go false e later known = later known

module _ (form : Form) (apart : are_apart (names_of form) ≡ true) (few : nat_le (length form.places) 1000 ≡ true) where
  abbrev table : Reads (form_rules form) form.places (options_of form) form.needed
  table = reads form.places form.needed form.optional apart (leb-true _ _ few)

  -- what was found is what the words give
  agree : (words : List Text) (given : List Given) → is_whole form.name (form_rules form) form.places (options_of form) form.needed table given ≡ true
      → Values form.name (form_rules form) form.places (options_of form) form.needed table words given
      → (name : Text) → names_one (names_of form) name ≡ true → first_of name (form_rows form words) ≡ argument_of form given name
  agree words given same v name known = go (names_one (options_of form) name) refl
    where
      count : length (positionals given) ≡ length form.places
      count = eqb-true _ _ (and_parts (list_all (λ needed. is_some (value_of needed given)) form.needed) (length (positionals given) == length form.places) same).1

      among : (t : Bool) → names_one (options_of form) name ≡ t → (names_one form.places name || t) ≡ true
      among t e = ap (λ (b : Bool). names_one form.places name || b) (sym e) ∙ (sym (one_of_both form.places (options_of form) name) ∙ known)

      or_none : (b : Bool) → (b || false) ≡ true → b ≡ true
      or_none true e = refl
      or_none false e = e

      go : (t : Bool) → names_one (options_of form) name ≡ t
          → first_of name (form_rows form words) ≡ (if t then value_of name given else word_at form.places (positionals given) name)
      go true e = v.named name e
      go false e = found_by_place form.places (positionals given) (λ id. first_of id (form_rows form words)) name count v.places (or_none _ (among false e))

  -- a command of the table answers
  form_law : Depends form → Law form
  form_law depends =
      answers form.name (form_rules form) form.places (options_of form) form.needed table (λ given. command_by form.kind (argument_of form given))
      (λ rows. command_by form.kind (λ name. first_of name rows)) (λ words given same v. depends _ _ (agree words given same v))

-- no name stands twice in a form, it has few places, and its values alone decide
abbrev pub IsFine : Form → Type 0
IsFine form = (are_apart (names_of form) ≡ true) × ((nat_le (length form.places) 1000 ≡ true) × Depends form)

pub laws_of : (table : List Form) → AllByRecursion IsFine table → AllByRecursion Law table
laws_of [] fine = tt
laws_of (form ∷ table) fine = (form_law form fine.0.0 fine.0.1.0 fine.0.1.1, laws_of table fine.1)

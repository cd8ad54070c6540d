-- What `clap` makes of the whole line: the first word names a command, which reads the words that follow.
use Rattle.std.proofs.Common.{◌≡◌, ◌∙◌, ◌&&◌, map, true, false, List, [], ◌∷◌, ◌++◌, append_assoc, append-nil, Option, Some, None, refl, sym, ap, subst, option_map, is_some, find, fold, codes}
use Rattle.std.specs.Option.{option_map_or}
use Rattle.std.specs.Str.{bytes_eq, is_utf8}
use Rattle.std.proofs.lemmas.Slice.Eq.{bytes_eq-Decides}
use Rattle.clap.proofs.OnLiterals.{clap_on_literals}
use Rattle.clap.specs.Walk.{Names, Rule, Text, Walk, answers_to, finished, nothing_held, rows_after, settled, walk, walk_from, walked}
use Rattle.clap.specs.Simple.{Shape, built, entered, is_simple, label_of, rows_at, subcommand_of}
use Rattle.clap.specs.Kinds.{Kinds, or_else}
use Rattle.clap.specs.Faults.{check_fault, defaults_fault, entered_fault, fault_of, flags_fault, is_simple_and_free, level_fault, settle_fault, turn_fault, walk_fault}
use Rattle.clap.specs.declared.error.kind.ErrorKind.TheVariants.{InvalidSubcommand, MissingSubcommand, UnknownArgument}
use Rattle.command_words.specs.Commands.{Form, forms}
use Rattle.command_words.specs.Grammar.{app}
use Rattle.command_words.proofs.Hyphens.{IsPlain, IsHyphened, IsLong, View, double, first_letter, seen_plain, seen_hyphened, seen_end, seen_long, view_of}
use Rattle.command_words.proofs.Readings.{rules_of}
use Rattle.command_words.proofs.Rules.{first_empty, some_kind}
use Rattle.command_words.proofs.WalkStates.{leaf}

pub app_simple : is_simple app ≡ true
unfolding clap_on_literals
app_simple = refl

pub app_free : is_simple_and_free app ≡ true
unfolding clap_on_literals
app_free = refl

-- ---- the commands of the table, as `clap` builds them

abbrev pub form_rules : Form → List Rule
form_rules form = rules_of form.places form.needed form.optional

abbrev pub form_shape : Form → Shape
form_shape form = leaf form.name (form_rules form)

abbrev pub form_label : Form → Text × List Text
form_label form = (form.name, [])

abbrev top : Shape
top = (built app).top

abbrev pub commands : List Shape
commands = map form_shape forms

abbrev pub names : Names
names = map form_label forms

-- ---- after a command's name

stopped_walk : (c : List Rule) (w : Walk) (name : Text) (before words : List Text)
    → fold (walked c names) (record w { stopped = Some (name, before) }) words ≡ record w { stopped = Some (name, before ++ words) }
unfolding walked
stopped_walk c w name before [] = ap (λ (ws : List Text). record w { stopped = Some (name, ws) }) (sym (append-nil before))
stopped_walk c w name before (word ∷ words) =
    stopped_walk c w name (before ++ word ∷ []) words ∙ ap (λ (ws : List Text). record w { stopped = Some (name, ws) }) (append_assoc before (word ∷ []) words)

stopped_fault : (s : Shape) (w : Walk) (name : Text) (before words : List Text) → walk_fault s names (record w { stopped = Some (name, before) }) words ≡ []
unfolding walk_fault walked
stopped_fault s w name before [] = refl
stopped_fault s w name before (word ∷ words) = stopped_fault s w name (before ++ word ∷ []) words

abbrev start : Walk
start = walk_from nothing_held

-- the walk stops at the name
module _ (name : Text) (s : Shape) (met : find (answers_to name) names ≡ Some (name, []))
    (is : find (λ c. answers_to name (label_of c)) commands ≡ Some s) (no_help : (bytes_eq name (codes "help") && false) ≡ false) where
  stop_is : (words : List Text) → walk [] names nothing_held (name ∷ words) ≡ record start { stopped = Some (name, words) }
  unfolding walked
  stop_is words =
      ap (λ (w : Walk). fold (walked [] names) w words) here ∙ stopped_walk [] start name [] words
    where
      here : walked [] names start name ≡ record start { stopped = Some (name, []) }
      here = rw met refl

  pub entered_rows : (words : List Text) → subcommand_of app (name ∷ words) ≡ Some (s.name, rows_after s.rules [] words)
  entered_rows words =
      ap (λ (w : Walk). entered (built app) w.stopped) (stop_is words) ∙ ap (λ (o : Option Shape). option_map (λ c. rows_at c words) o) is

  walk_none : (words : List Text) → walk_fault top names start (name ∷ words) ≡ []
  unfolding walk_fault walked
  walk_none words = rw (met, no_help) (stopped_fault top start name [] words)

  pub entered_fault_is : (words : List Text) → fault_of app (name ∷ words) ≡ or_else (level_fault s [] nothing_held words false []) []
  unfolding defaults_fault
  entered_fault_is words =
      ap (λ (w : Walk). or_else (walk_fault top names start (name ∷ words)) (or_else (entered_fault (built app) w.stopped) (or_else (settle_fault [] false w.held)
      (or_else (defaults_fault (settled [] w.held).rows []) (check_fault top (finished [] w.held) (is_some (entered (built app) w.stopped))))))) (stop_is words)
      ∙ (ap (λ (kinds : Kinds). or_else kinds (or_else (entered_fault (built app) (Some (name, words))) (check_fault top [] (is_some (entered (built app) (Some (name, words))))))) (walk_none words)
      ∙ ap (λ (o : Option Shape). or_else (option_map_or (λ c. level_fault c [] nothing_held words false []) o []) (check_fault top [] (is_some (option_map (λ c. rows_at c words) o)))) is)

-- ---- no command's name

-- a first word that is refused
first_refused : (word : Text) (words : List Text) → (turn_fault top names start word ≡ [] → ⊥) → fault_of app (word ∷ words) ≡ [] → ⊥
unfolding walk_fault
first_refused word words h e = h (first_empty _ _ (first_empty _ _ e))

pub no_word : fault_of app [] ≡ [] → ⊥
unfolding clap_on_literals
no_word e = some_kind MissingSubcommand [] e

module _ (word : Text) (words : List Text) (unmet : find (answers_to word) names ≡ None) where
  plain_first : IsPlain word → fault_of app (word ∷ words) ≡ [] → ⊥
  plain_first v = first_refused word words (rw (unmet, v.single, v.no_long, v.no_short) (λ e. some_kind _ _ e))

  hyphened_first : IsHyphened word → is_utf8 word ≡ true → fault_of app (word ∷ words) ≡ [] → ⊥
  unfolding flags_fault
  hyphened_first v text =
      let letter = first_letter v.first v.rest (subst (λ (t : Text). is_utf8 t ≡ true) v.is text) in
      first_refused word words (rw (unmet, v.single, v.no_long, v.letters, letter.1) (λ e. some_kind _ _ e))

  long_first : IsLong word → fault_of app (word ∷ words) ≡ [] → ⊥
  long_first v = first_refused word words (rw (unmet, v.single, v.parts) (λ e. some_kind _ _ e))

walk_passes : (words : List Text) → fault_of app words ≡ [] → walk_fault top names start words ≡ []
walk_passes words e = first_empty _ _ e

second_passes : (next : Text) (words : List Text) → walk_fault top names start (double ∷ next ∷ words) ≡ [] → turn_fault top names (record start { is_trailing = true }) next ≡ []
unfolding walk_fault walked
second_passes next words e =
    first_empty (turn_fault top names (record start { is_trailing = true }) next) (walk_fault top names (walked [] names (record start { is_trailing = true }) next) words) e

end_alone : fault_of app (double ∷ []) ≡ [] → ⊥
unfolding clap_on_literals
end_alone e = some_kind MissingSubcommand [] e

end_first : (words : List Text) → fault_of app (double ∷ words) ≡ [] → ⊥
end_first [] = end_alone
end_first (next ∷ words) =
    λ e. some_kind UnknownArgument (InvalidSubcommand ∷ []) (second_passes next words (walk_passes (double ∷ next ∷ words) e))

-- a first word that names no command is refused
pub unnamed : (word : Text) (words : List Text) → is_utf8 word ≡ true → find (answers_to word) names ≡ None → fault_of app (word ∷ words) ≡ [] → ⊥
unnamed word words text unmet = go (view_of word)
  where
    go : View word → fault_of app (word ∷ words) ≡ [] → ⊥
    go (seen_plain v) = plain_first word words unmet v
    go (seen_hyphened v) = hyphened_first word words unmet v text
    go (seen_long v) = long_first word words unmet v
    go (seen_end v) =
        let is : word ≡ double = (bytes_eq-Decides word double).0 v.twice in
        subst (λ (w : Text). fault_of app (w ∷ words) ≡ [] → ⊥) (sym is) (end_first words)

-- `clap` refuses the whole line exactly where it matches no command, but for the values' readers, and else it finds what the words give.
use Rattle.std.proofs.Common.{◌≡◌, ◌&&◌, ◌||◌, Bool, true, false, List, [], ◌∷◌, map, Option, Some, None, refl, sym, ap, subst, if◌then◌else◌, codes, option_and_then, find}
use Rattle.std.specs.List.{AllByRecursion, list_all}
use Rattle.std.specs.Str.{bytes_eq, is_utf8}
use Rattle.std.proofs.lemmas.Bool.{and_parts}
use Rattle.std.proofs.lemmas.Slice.Eq.{bytes_eq-Decides}
use Rattle.clap.specs.Walk.{Row, Text, answers_to, first_of, nothing_held, rows_after}
use Rattle.clap.specs.Simple.{label_of, subcommand_of}
use Rattle.clap.specs.Kinds.{Kinds, or_else}
use Rattle.clap.specs.Faults.{fault_of, level_fault}
use Rattle.command_words.specs.Commands.{Form, command_by, command_in, forms, meaning}
use Rattle.command_words.specs.Grammar.{app}
use Rattle.command_words.specs.Matched.{matched_command}
use Rattle.command_words.specs.declared.commands.Command.{Command}
use Rattle.command_words.proofs.Entering.{entered_fault_is, entered_rows, form_label, form_rules, form_shape, no_word, unnamed}
use Rattle.command_words.proofs.FormLaws.{Answer, IsFine, Law, laws_of}
use Rattle.command_words.proofs.Rules.{first_empty}

-- ---- the table

-- the values that each command is read from are those of its places and options
all_fine : AllByRecursion IsFine forms
all_fine = (
  (refl, (refl, λ f g same. rw (same (codes "DOC") refl) refl)),
  (
    (refl, (refl, λ f g same. rw (same (codes "DOC") refl, same (codes "FROM") refl, same (codes "TO") refl, same (codes "down") refl) refl)),
    (
      (refl, (refl, λ f g same. rw (same (codes "DOC") refl, same (codes "out") refl, same (codes "proof") refl, same (codes "max-price") refl, same (codes "conflicts") refl) refl)),
      (
        (refl, (refl, λ f g same. rw (same (codes "DOC") refl, same (codes "CERT") refl) refl)),
        (
          (refl, (refl, λ f g same. rw (same (codes "DOC") refl, same (codes "EDITS") refl, same (codes "out") refl) refl)),
          (
            (refl, (refl, λ f g same. rw (same (codes "CNF") refl, same (codes "proof") refl, same (codes "conflicts") refl) refl)),
            (
              (refl, (refl, λ f g same. rw (same (codes "CNF") refl, same (codes "PROOF") refl) refl)),
              (
                (refl, (refl, λ f g same. rw (same (codes "N") refl, same (codes "proof") refl) refl)),
                (
                  (refl, (refl, λ f g same. rw (same (codes "DOC") refl, same (codes "FROM") refl, same (codes "TO") refl, same (codes "K") refl) refl)),
                  (
                    (refl, (refl, λ f g same. rw (same (codes "DOC") refl, same (codes "FROM") refl, same (codes "TO") refl, same (codes "ROUTERS") refl) refl)),
                    ((refl, (refl, λ f g same. rw (same (codes "DOC") refl, same (codes "REPORT") refl) refl)), tt),
                  ),
                ),
              ),
            ),
          ),
        ),
      ),
    ),
  ),
)

abbrev is_called : Text → Form → Bool
is_called word form = bytes_eq form.name word

or_none : (b : Bool) → (b || false) ≡ b
or_none true = refl
or_none false = refl

-- a command that is found in a table is found among its names and shapes, and has its law
pub record Found (word : Text) (table : List Form) (form : Form) : Type 0 where
  pub name : form.name ≡ word
  pub label : find (answers_to word) (map form_label table) ≡ Some (form_label form)
  pub shape : find (λ c. answers_to word (label_of c)) (map form_shape table) ≡ Some (form_shape form)
  pub law : Law form

some_is : (f g : Form) → Some f ≡ Some g → f ≡ g
some_is f g e = cc

found_in : (word : Text) (table : List Form) (form : Form) → AllByRecursion Law table → find (is_called word) table ≡ Some form → Found word table form
found_in word [] form laws is = absurd (cc)
found_in word (f ∷ fs) form laws is = go (bytes_eq f.name word) refl (found_in word fs form laws.1) is
  where
    go : (t : Bool) → bytes_eq f.name word ≡ t → (find (is_called word) fs ≡ Some form → Found word fs form) → (if t then Some f else find (is_called word) fs) ≡ Some form → Found word (f ∷ fs) form
    go true e rest is =
        let same : f ≡ form = some_is f form is in
        subst (λ (g : Form). Found word (f ∷ fs) g) same (record {
          name = (bytes_eq-Decides f.name word).0 e;
          label = rw e refl;
          shape = rw e refl;
          law = laws.0;
        })
    go false e rest is =
        let later = rest is in
        record { name = later.name; label = rw e later.label; shape = rw e later.shape; law = later.law }

none_in : (word : Text) (table : List Form) → find (is_called word) table ≡ None → find (answers_to word) (map form_label table) ≡ None
none_in word [] is = refl
none_in word (f ∷ fs) is = go (bytes_eq f.name word) refl (none_in word fs) is
  where
    go : (t : Bool) → bytes_eq f.name word ≡ t → (find (is_called word) fs ≡ None → find (answers_to word) (map form_label fs) ≡ None) →
        (if t then Some f else find (is_called word) fs) ≡ None → find (answers_to word) (map form_label (f ∷ fs)) ≡ None
    go true e rest is = absurd (cc)
    go false e rest is = rw e (rest is)

-- ---- the whole line

and_no_more : (kinds : Kinds) (found meant : Option Command) → Answer kinds found meant → Answer (or_else kinds []) found meant
and_no_more kinds found meant a = record {
  taken = λ e. a.taken (first_empty kinds [] e);
  refused = λ h. a.refused (λ e. h (rw e refl));
}

abbrev LineAnswer : List Text → Type 0
LineAnswer words = Answer (fault_of app words) (matched_command (subcommand_of app words)) (command_in words)

as_line : (words : List Text) (kinds : Kinds) (found : Option (Text × List Row)) → fault_of app words ≡ kinds → subcommand_of app words ≡ found
    → Answer kinds (matched_command found) (command_in words) → LineAnswer words
as_line words kinds found e f a =
    subst (λ (k : Kinds). Answer k (matched_command (subcommand_of app words)) (command_in words)) (sym e)
    (subst (λ (o : Option (Text × List Row)). Answer kinds (matched_command o) (command_in words)) (sym f) a)

and_false : (b : Bool) → (b && false) ≡ false
and_false true = refl
and_false false = refl

-- a line whose first word is this command's name
form_line : (form : Form) → Found form.name forms form → find (is_called form.name) forms ≡ Some form → (words : List Text) → list_all is_utf8 words ≡ true → LineAnswer (form.name ∷ words)
form_line form found is words texts =
    let meant : command_in (form.name ∷ words) ≡ meaning form words = ap (λ (o : Option Form). option_and_then (λ f. meaning f words) o) is in
    let kinds : Kinds = or_else (level_fault (form_shape form) [] nothing_held words false []) [] in
    let rows : Option (Text × List Row) = Some (form.name, rows_after (form_rules form) [] words) in
    let read : matched_command rows ≡ command_by form.kind (λ name. first_of name (rows_after (form_rules form) [] words)) =
    ap (λ (o : Option Form). option_and_then (λ f. command_by f.kind (λ name. first_of name (rows_after (form_rules form) [] words))) o) is in
    as_line (form.name ∷ words) kinds rows
    (entered_fault_is form.name (form_shape form) found.label found.shape (and_false (bytes_eq form.name (codes "help"))) words)
    (entered_rows form.name (form_shape form) found.label found.shape (and_false (bytes_eq form.name (codes "help"))) words)
    (subst (λ (o : Option Command). Answer kinds (matched_command rows) o) (sym meant)
    (subst (λ (o : Option Command). Answer kinds o (meaning form words)) (sym read) (and_no_more _ _ _ (found.law words texts))))

other_line : (word : Text) (words : List Text) → is_utf8 word ≡ true → find (is_called word) forms ≡ None → LineAnswer (word ∷ words)
other_line word words text none = record {
  taken = λ e. absurd (unnamed word words text (none_in word forms none) e);
  refused = λ h. ap (λ (o : Option Form). option_and_then (λ f. meaning f words) o) none;
}

-- the whole line
pub line_answers : (words : List Text) → list_all is_utf8 words ≡ true → LineAnswer words
line_answers [] texts = record { taken = λ e. absurd (no_word e); refused = λ h. refl }
line_answers (word ∷ words) texts = go (find (is_called word) forms) refl
  where
    parts : (is_utf8 word ≡ true) × (list_all is_utf8 words ≡ true)
    parts = and_parts (is_utf8 word) (list_all is_utf8 words) texts

    go : (o : Option Form) → find (is_called word) forms ≡ o → LineAnswer (word ∷ words)
    go None is = other_line word words parts.0 is
    go (Some form) is =
        let found : Found word forms form = found_in word forms form (laws_of forms all_fine) is in
        let P : Text → Type 0 = λ w. Found w forms form in
        let Q : Text → Type 0 = λ w. find (is_called w) forms ≡ Some form in
        subst (λ (w : Text). LineAnswer (w ∷ words)) found.name
        (form_line form (subst P (sym found.name) found) (subst Q (sym found.name) is) words parts.1)

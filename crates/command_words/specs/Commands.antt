-- The command that the words after the program's name match.
use Rattle.std.specs.Prelude.{ℕ, ◌≤◌, ◌==◌, ◌&&◌, Bool, List, [], ◌∷◌, ◌++◌, length, map, Option}
use Rattle.std.specs.Prelude.{Some, None, find, is_some, option_and_then, bytes_eq, codes}
use Rattle.std.specs.Prelude.{if◌then◌else◌}
use Rattle.std.specs.List.{list_all, slice_split}
use Rattle.std.specs.Str.{is_utf8}
use Rattle.arc_base.specs.declared.limits.TheConstants.{FAILURE_LIMIT, PRICE_LIMIT, DEFAULT_PRICE}
use Rattle.arc_base.specs.declared.limits.TheConstants.{CONFLICT_LIMIT, DEFAULT_CONFLICTS}
use Rattle.arc_base.specs.declared.limits.TheConstants.{FEWEST_GENERATED, MOST_GENERATED}
use Rattle.arc_base.specs.Options.{◌>>=◌}
use Rattle.arc_base.specs.PrefixText.{prefix_of}
use Rattle.command_words.specs.Values.{link_numbers, number_within, router_names}
use Rattle.command_words.specs.Words.{Given, arguments_of, names_one, positionals, value_of}
use Rattle.command_words.specs.declared.commands.Command.{Command}
use Rattle.command_words.specs.declared.commands.Command.TheVariants.{Verify, Trace, Repair, Check}
use Rattle.command_words.specs.declared.commands.Command.TheVariants.{Apply, Solve, Lrat, Generate}
use Rattle.command_words.specs.declared.commands.Command.TheVariants.{Nodes, Prefers, Recheck}
use Rattle.command_words.specs.declared.forms.CommandForm.{CommandForm}
use Rattle.command_words.specs.declared.forms.CommandKind.{CommandKind}
use Rattle.command_words.specs.declared.forms.CommandKind.TheVariants as kinds

-- the value of an argument, by the name of its place or option
abbrev pub Look : Type 0
Look = List ℕ → Option (List ℕ)

-- the number that an option gives, and a usual one where it is left out
abbrev pub number_or : ℕ → ℕ → ℕ → Option (List ℕ) → Option ℕ
number_or usual least most None = Some usual
number_or usual least most (Some text) = number_within least most text

-- the links that an option names, and none where it is left out
abbrev pub links_or_none : Option (List ℕ) → Option (List ℕ)
links_or_none None = Some []
links_or_none (Some text) = link_numbers text

abbrev pub verify_by : Look → Option Command
verify_by value = do
  document ← value (codes "DOC")
  Some (Verify document)

abbrev pub trace_by : Look → Option Command
trace_by value = do
  document ← value (codes "DOC")
  from ← value (codes "FROM") >>= prefix_of
  to ← value (codes "TO") >>= prefix_of
  down ← links_or_none (value (codes "down"))
  Some (Trace (record { document = document; from = from; to = to; down = down }))

abbrev pub repair_by : Look → Option Command
repair_by value = do
  document ← value (codes "DOC")
  suffix ← value (codes "out")
  proof ← value (codes "proof")
  bound ← number_or DEFAULT_PRICE 0 PRICE_LIMIT (value (codes "max-price"))
  conflicts ← number_or DEFAULT_CONFLICTS 1 CONFLICT_LIMIT (value (codes "conflicts"))
  Some (Repair (record {
    document = document;
    suffix = suffix;
    proof = proof;
    bound = bound;
    conflicts = conflicts;
  }))

abbrev pub check_by : Look → Option Command
check_by value = do
  document ← value (codes "DOC")
  certificate ← value (codes "CERT")
  Some (Check document certificate)

abbrev pub apply_by : Look → Option Command
apply_by value = do
  document ← value (codes "DOC")
  edits ← value (codes "EDITS")
  suffix ← value (codes "out")
  Some (Apply (record { document = document; edits = edits; suffix = suffix }))

abbrev pub solve_by : Look → Option Command
solve_by value = do
  formula ← value (codes "CNF")
  proof ← value (codes "proof")
  conflicts ← number_or DEFAULT_CONFLICTS 1 CONFLICT_LIMIT (value (codes "conflicts"))
  Some (Solve (record { formula = formula; proof = proof; conflicts = conflicts }))

abbrev pub lrat_by : Look → Option Command
lrat_by value = do
  formula ← value (codes "CNF")
  proof ← value (codes "PROOF")
  Some (Lrat formula proof)

abbrev pub generate_by : Look → Option Command
generate_by value = do
  number ← value (codes "N") >>= number_within FEWEST_GENERATED MOST_GENERATED
  proof ← value (codes "proof")
  Some (Generate (record { number = number; proof = proof }))

abbrev pub nodes_by : Look → Option Command
nodes_by value = do
  document ← value (codes "DOC")
  from ← value (codes "FROM") >>= prefix_of
  to ← value (codes "TO") >>= prefix_of
  failures ← value (codes "K") >>= number_within 0 FAILURE_LIMIT
  Some (Nodes (record { document = document; from = from; to = to; failures = failures }))

abbrev pub prefers_by : Look → Option Command
prefers_by value = do
  document ← value (codes "DOC")
  from ← value (codes "FROM") >>= prefix_of
  to ← value (codes "TO") >>= prefix_of
  routers ← value (codes "ROUTERS") >>= router_names
  Some (Prefers (record { document = document; from = from; to = to; routers = routers }))

abbrev pub recheck_by : Look → Option Command
recheck_by value = do
  document ← value (codes "DOC")
  report ← value (codes "REPORT")
  Some (Recheck (record { document = document; report = report }))

-- the command of a kind, with these values
abbrev pub command_by : CommandKind → Look → Option Command
command_by kinds.Verify value = verify_by value
command_by kinds.Trace value = trace_by value
command_by kinds.Repair value = repair_by value
command_by kinds.Check value = check_by value
command_by kinds.Apply value = apply_by value
command_by kinds.Solve value = solve_by value
command_by kinds.Lrat value = lrat_by value
command_by kinds.Generate value = generate_by value
command_by kinds.Nodes value = nodes_by value
command_by kinds.Prefers value = prefers_by value
command_by kinds.Recheck value = recheck_by value

-- A row of the table of commands: the command; its name; what its positional words mean, in order,
-- each of them required; the options that must be given, and those that may.
pub record Form : Type 0 where
  pub kind : CommandKind
  pub name : List ℕ
  pub places : List (List ℕ)
  pub needed : List (List ℕ)
  pub optional : List (List ℕ)

-- the row that the program's table writes so
abbrev pub form_of_row : CommandForm → Form
form_of_row form = record {
  kind = form.kind;
  name = form.name.now;
  places = map (λ place. place.now) form.places.now;
  needed = map (λ choice. choice.name.now) form.needed.now;
  optional = map (λ choice. choice.name.now) form.optional.now;
}

-- a row with these names, each list of them with spaces between
abbrev pub row : CommandKind → List ℕ → List ℕ → List (List ℕ) → List (List ℕ) → Form
row kind name places needed optional = record {
  kind = kind;
  name = name;
  places = slice_split (λ byte. byte == 32) places;
  needed = needed;
  optional = optional;
}

-- all commands
abbrev pub forms : List Form
forms =
    row kinds.Verify (codes "verify") (codes "DOC") [] [] ∷
    row kinds.Trace (codes "trace") (codes "DOC FROM TO") [] (codes "down" ∷ []) ∷
    row kinds.Repair (codes "repair") (codes "DOC") (codes "out" ∷ codes "proof" ∷ [])
    (codes "max-price" ∷ codes "conflicts" ∷ []) ∷
    row kinds.Check (codes "check") (codes "DOC CERT") [] [] ∷
    row kinds.Apply (codes "apply") (codes "DOC EDITS") (codes "out" ∷ []) [] ∷
    row kinds.Solve (codes "solve") (codes "CNF") (codes "proof" ∷ []) (codes "conflicts" ∷ []) ∷
    row kinds.Lrat (codes "lrat") (codes "CNF PROOF") [] [] ∷
    row kinds.Generate (codes "generate") (codes "N") (codes "proof" ∷ []) [] ∷
    row kinds.Nodes (codes "nodes") (codes "DOC FROM TO K") [] [] ∷
    row kinds.Prefers (codes "prefers") (codes "DOC FROM TO ROUTERS") [] [] ∷
    row kinds.Recheck (codes "recheck") (codes "DOC REPORT") [] [] ∷ []

abbrev pub options_of : Form → List (List ℕ)
options_of form = form.needed ++ form.optional

-- the word in the place of this name
abbrev pub word_at : List (List ℕ) → List (List ℕ) → Look
word_at [] words name = None
word_at (place ∷ places) [] name = None
word_at (place ∷ places) (word ∷ words) name =
    if bytes_eq place name then Some word else word_at places words name

-- what the words give to a place or an option of a row
abbrev pub argument_of : Form → List Given → Look
argument_of form given name = if names_one (options_of form) name then value_of name given
    else word_at form.places (positionals given) name

-- each option that must be given is, and each place has a word, and there are no more words
abbrev pub is_whole_command : Form → List Given → Bool
is_whole_command form given = list_all (λ name. is_some (value_of name given)) form.needed
    && (length (positionals given) == length form.places)

-- what the words that follow a command's name mean
abbrev pub meaning : Form → List (List ℕ) → Option Command
meaning form words = do
  given ← arguments_of (options_of form) words
  if is_whole_command form given then command_by form.kind (argument_of form given) else None

-- the row of the command of this name
abbrev pub form_named : List ℕ → Option Form
form_named name = find (λ form. bytes_eq form.name name) forms

-- the first word names a command of the table
abbrev pub command_in : List (List ℕ) → Option Command
command_in [] = None
command_in (name ∷ words) = option_and_then (λ form. meaning form words) (form_named name)

-- a word that is no text matches nothing
abbrev pub command_of : List (List ℕ) → Option Command
command_of words = if list_all is_utf8 words then command_in words else None

-- the numbers of a command are in their ranges: what a repair may cost, how many conflicts a search
-- may learn from, how many routers a network has that is made, and how many routers may fail
abbrev pub HasLimit : Command → Type 0
HasLimit (Verify document) = Unit {0}
HasLimit (Trace words) = Unit {0}
HasLimit (Repair words) =
    (words.bound ≤ PRICE_LIMIT) × ((1 ≤ words.conflicts) × (words.conflicts ≤ CONFLICT_LIMIT))
HasLimit (Check document certificate) = Unit {0}
HasLimit (Apply words) = Unit {0}
HasLimit (Solve words) = (1 ≤ words.conflicts) × (words.conflicts ≤ CONFLICT_LIMIT)
HasLimit (Lrat formula proof) = Unit {0}
HasLimit (Generate words) = (FEWEST_GENERATED ≤ words.number) × (words.number ≤ MOST_GENERATED)
HasLimit (Nodes words) = words.failures ≤ FAILURE_LIMIT
HasLimit (Prefers words) = Unit {0}
HasLimit (Recheck words) = Unit {0}

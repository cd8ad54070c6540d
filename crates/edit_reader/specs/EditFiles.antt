-- The edits that the lines of an edit file name.
use Rattle.std.specs.Prelude.{◌≡◌, ◌≢◌, ℕ, ◌+◌, ◌<◌, ◌==◌, Bool, false, not, Option, IsSome, List}
use Rattle.std.specs.Prelude.{All, AllPairs, map, take, length}
use Rattle.std.specs.List.{filter, list_all, list_any, range_with_len}
use Rattle.std.specs.Option.{option_map_or}
use Rattle.bstr.specs.Text.{lines_of, without_terminator}
use Rattle.arc_base.specs.Words.{is_blank}
use Rattle.net_model.specs.declared.rows.Network.{Network}
use Rattle.edit_list.specs.declared.edit_kinds.Edit.{Edit}
use Rattle.policy_report.specs.Edits.{edit_of}
use Rattle.edit_reader.specs.declared.reading.Named.{Named}
use Rattle.edit_reader.specs.declared.reading.Named.TheVariants.{Edits, Wrong}

-- the lines of a text, each without its end: LF, or CR LF
abbrev pub line_texts : List ℕ → List (List ℕ)
line_texts text = map without_terminator (lines_of text)

-- a line of spaces and tabs alone
abbrev pub is_blank_line : List ℕ → Bool
is_blank_line line = list_all is_blank line

-- for each line that is not blank the place of the edit that it names, or None
abbrev pub named_by : Network → List Edit → List (List ℕ) → List (Option ℕ)
named_by net edits ls = map (edit_of net edits) (filter (λ line. not (is_blank_line line)) ls)

-- each line that is not blank names an edit, and no two name one edit
pub record AreEditLines (net : Network) (edits : List Edit) (ls : List (List ℕ)) : Type 0 where
  pub named : All IsSome (named_by net edits ls)
  pub once : AllPairs ◌≢◌ (named_by net edits ls)

-- whether a line names the edit at this place
abbrev pub is_at : ℕ → Option ℕ → Bool
is_at place named = option_map_or (λ p. p == place) named false

-- for each edit whether some line names it
abbrev pub chosen_by : Network → List Edit → List (List ℕ) → List Bool
chosen_by net edits ls =
    map (λ place. list_any (is_at place) (named_by net edits ls)) (range_with_len 0 (length edits))

-- the line of this number, counted from 1, is the first that names no edit, or one that an earlier
-- line names
pub record IsWrongLine (net : Network) (edits : List Edit) (ls : List (List ℕ))
    (number : ℕ) : Type 0 where
  pub place : ℕ
  pub within : place < length ls
  pub number_is : number ≡ place + 1
  pub right_before : AreEditLines net edits (take place ls)
  pub wrong : ¬ AreEditLines net edits (take (place + 1) ls)

-- the answer on the text of an edit file: which edits it names, each once, or its first wrong line
abbrev pub ReadsEdits : Network → List Edit → List ℕ → Named → Type 0
ReadsEdits net edits text (Edits chosen) =
    AreEditLines net edits (line_texts text) × (chosen ≡ chosen_by net edits (line_texts text))
ReadsEdits net edits text (Wrong number) = IsWrongLine net edits (line_texts text) number

-- the lines so far name edits, each once, and just these are marked
pub record AreMarked (net : Network) (edits : List Edit) (ls : List (List ℕ))
    (flags : List Bool) : Type 0 where
  pub lines : AreEditLines net edits ls
  pub chosen : flags ≡ chosen_by net edits ls

-- there is one flag for each edit
abbrev pub HasOneFlagEach : List Edit → Named → Type 0
HasOneFlagEach edits (Edits chosen) = length chosen ≡ length edits
HasOneFlagEach edits (Wrong number) = Unit {0}

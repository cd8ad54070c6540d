-- What edits add at the command lines of a router file, command by command.
use Rattle.std.specs.Prelude.{ℕ, ◌+◌, ◌-◌, ◌==◌, Some, List, [], ◌∷◌, ◌++◌, map, length, slice_get}
use Rattle.std.specs.Prelude.{if◌then◌else◌}
use Rattle.std.specs.List.{flat_map}
use Rattle.std.specs.Option.{option_map_or}
use Rattle.net_model.specs.declared.rows.Network.{Network}
use Rattle.ios_lines.specs.declared.line.Lines.{Lines}
use Rattle.ios_words.specs.declared.commands.Command.{Command}
use Rattle.ios_words.specs.declared.commands.Command.TheVariants as commands
use Rattle.ios_config.specs.declared.commands.FileCommand.{FileCommand}
use Rattle.net_build.specs.declared.built.Places.{Places}
use Rattle.edit_list.specs.declared.edit_kinds.Edit.{Edit}
use Rattle.arc_base.specs.Numbered.{of_number}
use Rattle.line_patcher.specs.declared.additions.NewNumber.{NewNumber}
use Rattle.line_patcher.specs.Additions.{commands_after, entries_before, lines_after, numbers_at}
use Rattle.line_patcher.specs.Patches.{line_end}
use Rattle.edit_list.specs.NewLists.{named_lists}
use Rattle.line_edit_laws.specs.Sites.{Written, Chunk, Single, Site, chunk_commands}
use Rattle.line_edit_laws.specs.Sites.{own_commands}
use Rattle.patch_laws.specs.Fits.{row_line}
use Rattle.patch_laws.specs.NewListSites.{list_chunks}
use Rattle.patch_laws.specs.Written.{written_of}

-- the command with another number of its entry, where there is one
abbrev pub with_number : Command → List NewNumber → Command
with_number command [] = command
with_number (commands.Entry order entry) (new ∷ more) = commands.Entry (Some new.number) entry
with_number (commands.PrefixLine name order entry) (new ∷ more) =
    commands.PrefixLine name (Some new.number) entry
with_number other (new ∷ more) = other

-- the line that the row of this number is, with these new numbers and before these lines
abbrev pub line_at : List ℕ → Lines → ℕ → List NewNumber → List (List ℕ) → List ℕ
line_at text lines number new after =
    option_map_or (λ row. row_line text (line_end text lines.rows) row new after)
    (slice_get lines.rows (number - 1)) []

-- the chunks of the new lists, at the head of the process; their blocks are numbered from this key
-- on
abbrev pub new_tops : Network → Places → List Edit → ℕ → ℕ → FileCommand → List Chunk
new_tops net own chosen router key c =
    if own.process == c.line then list_chunks chosen key (named_lists net chosen router) else []

-- the new entries that come before the command
abbrev pub entries_at : Network → Places → List Edit → ℕ → FileCommand → List Written
entries_at net own chosen router c =
    map written_of (of_number c.line (entries_before net own chosen router))

-- those that are top lines, since the command is in no block
abbrev pub singles : Network → Places → List Edit → ℕ → FileCommand → List Written
singles net own chosen router c = if c.block == 0 then entries_at net own chosen router c else []

-- those that are lines of the command's block
abbrev pub inner_entries : Network → Places → List Edit → ℕ → FileCommand → List Written
inner_entries net own chosen router c =
    if c.block == 0 then [] else entries_at net own chosen router c

-- what comes after the command: lines of the process, and bindings
abbrev pub ends_at : Network → List Places → Places → List Edit → ℕ → FileCommand → List Written
ends_at net places own chosen router c =
    map written_of (of_number c.line (commands_after net places own chosen router))

-- what edits add at the command
abbrev pub put : Network → List Places → Places → List Edit → ℕ → List ℕ → Lines →
    ℕ → FileCommand → Site
put net places own chosen router text lines key c = record {
  tops = new_tops net own chosen router key c ++ map Single (singles net own chosen router c);
  entries = inner_entries net own chosen router c;
  line =
      line_at text lines c.line (of_number c.line (numbers_at net own chosen router))
      (of_number c.line (lines_after net places own chosen router));
  command = with_number c.command (of_number c.line (numbers_at net own chosen router));
  after = ends_at net places own chosen router c;
}

-- the commands that the command grows to, without those of new lists
abbrev pub grow : Network → List Places → Places → List Edit → ℕ → List ℕ → Lines → ℕ →
    FileCommand → List FileCommand
grow net places own chosen router text lines key c =
    flat_map chunk_commands (map Single (singles net own chosen router c)) ++
    own_commands c (put net places own chosen router text lines key c)

-- the commands of the new lists
abbrev pub added : Network → List Edit → ℕ → ℕ → List FileCommand
added net chosen router key =
    flat_map chunk_commands (list_chunks chosen key (named_lists net chosen router))

-- the numbers of new blocks are greater than those of all lines
abbrev pub new_key : Lines → ℕ
new_key lines = length lines.rows + 1

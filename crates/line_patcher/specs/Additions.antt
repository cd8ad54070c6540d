-- What edits add to the file of a router, and where: commands before a line and after a line, each
-- with the number of that line, and new numbers in lines.
use Rattle.std.specs.Prelude.{ℕ, List, ◌++◌, map, flat_map}
use Rattle.net_model.specs.declared.rows.Network.{Network}
use Rattle.net_build.specs.declared.built.Places.{Places}
use Rattle.edit_list.specs.declared.edit_kinds.Edit.{Edit}
use Rattle.ios_words.specs.declared.commands.Command.{Command}
use Rattle.line_patcher.specs.declared.additions.NewNumber.{NewNumber}
use Rattle.line_patcher.specs.SessionLines.{session_commands}
use Rattle.line_patcher.specs.NewListLines.{commands_of_new_lists, filter_commands, group_commands}
use Rattle.line_patcher.specs.EntryLines.{edited_packet_lists, edited_route_lists}
use Rattle.line_patcher.specs.EntryLines.{packet_list_entries, route_list_entries}
use Rattle.line_patcher.specs.EntryLines.{packet_list_numbers, route_list_numbers}
use Rattle.line_patcher.specs.Written.{lines_at}

-- each of the commands, with the number of the line that it is added at
abbrev pub all_at : ℕ → List Command → List (ℕ × Command)
all_at number commands = map (λ command. (number, command)) commands

-- the new entries of all edited lists, before the first of each list
abbrev pub entries_before : Network → Places → List Edit → ℕ → List (ℕ × Command)
entries_before net own chosen router =
    flat_map (packet_list_entries net own chosen) (edited_packet_lists net chosen router) ++
    flat_map (route_list_entries net own chosen) (edited_route_lists net chosen router)

-- the commands that come before lines: new lists before the head of the process, and entries
abbrev pub commands_before : Network → Places → List Edit → ℕ → List (ℕ × Command)
commands_before net own chosen router =
    all_at own.process (commands_of_new_lists net chosen router) ++
    entries_before net own chosen router

-- the commands of the process: those that turn sessions, then those that bind new route lists
abbrev pub process_commands : Network → List Edit → ℕ → List Command
process_commands net chosen router =
    session_commands net chosen router ++ filter_commands net chosen router

-- the commands that come after lines: those of the process after its last command line, and a
-- binding after its interface's
abbrev pub commands_after : Network → List Places → Places → List Edit → ℕ → List (ℕ × Command)
commands_after net places own chosen router =
    all_at own.process_last (process_commands net chosen router) ++
    group_commands net places chosen router

-- the lines of these commands
abbrev pub lines_before : Network → Places → List Edit → ℕ → List (ℕ × List ℕ)
lines_before net own chosen router = lines_at (commands_before net own chosen router)

abbrev pub lines_after : Network → List Places → Places → List Edit → ℕ → List (ℕ × List ℕ)
lines_after net places own chosen router = lines_at (commands_after net places own chosen router)

-- the new numbers of the old entries in edited lists
abbrev pub numbers_at : Network → Places → List Edit → ℕ → List (ℕ × NewNumber)
numbers_at net own chosen router =
    flat_map (packet_list_numbers net own chosen) (edited_packet_lists net chosen router) ++
    flat_map (route_list_numbers net own chosen) (edited_route_lists net chosen router)
